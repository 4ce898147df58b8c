-- What the functions for a piece put together.
use Rattle.std.proofs.Common.{◌≡◌, ◌∙◌, ℕ, ◌+◌, ◌^◌, ◌<◌, ◌≤◌, ◌++◌, nat_lt, not, ◌||◌, length, Bool, true, false, cond, eqb, List, Option, None, Some, Result, Ok, Err, refl, ap, sym, subst}
use Rattle.std.specs.Prelude.{IfOk, OnErr, OnOk, option_and_then}
use Rattle.std.specs.Str.{bytes_eq}
use Rattle.std.proofs.lemmas.Bool.{eq-eqb, le-ltb, lt-ltb}
use Rattle.md5.specs.Md5.{md5}
use Rattle.sg_base.specs.declared.file.Listed.{Listed}
use Rattle.sg_base.specs.declared.ids.MediaId.{MediaId}
use Rattle.sg_base.specs.declared.kind.Kind.TheVariants as kind
use Rattle.sg_edits.specs.declared.piece_reply.PieceReply.{PieceReply}
use Rattle.sg_edits.specs.declared.piece_reply.PieceReply.TheVariants as piece
use Rattle.sg_edits.specs.declared.pieces.Medium.{Medium}
use Rattle.sg_edits.specs.Edited.{core_of}
use Rattle.sg_edits.specs.Media.{asked, kept_of}
use Rattle.sg_edits.specs.Pieces.{AreSaved, Asked, Holds, Put, added, dropped, held_reply, is_held, kept_with, kept_without, only_answered, piece_put, put_at, put_in, put_last, put_new, put_next, put_of, wanted, with_bytes}
use Rattle.sg_edits.proofs.PieceStands.{IsNext, IsOpen, is_next, is_open, saved_dropped, saved_holding, saved_medium, saved_whole, stands_piece}
use Rattle.sg_records.specs.declared.client.Client.{Client}
use Rattle.sg_records.specs.declared.epoch.Epoch.{Epoch}
use Rattle.sg_records.specs.Saved.{IsSaved}
use Rattle.sg_steps.specs.declared.fault.CmsFault.{CmsFault}
use Rattle.sg_steps.specs.State.{Content, Stands, received_in, received_of}
use Rattle.sg_tables.specs.Entries.{Kept}
use Rattle.sg_tables.specs.Refusals.{row_at}
use Rattle.sg_tables.specs.Rows.{at, number_at}
use Rattle.sg_tables.specs.Tables.{file_of, holding, whole, with_medium}
use Rattle.sg_tables.proofs.KeptLemmas.{kept_at}

-- rows, an answer and a keeper's rows are those that a piece leaves
abbrev pub Puts : Put → List Kept → PieceReply → (ℕ → Option (List ℕ)) → Type 0
Puts p kept answer later = (kept ≡ p.rows) × (answer ≡ p.reply) × (later ≡ p.kept)

-- what stands after the call
pub piece_after : (r : Result PieceReply CmsFault) (T : Type 0) (rows kept : List Kept) (clients : List Client) (epochs : List Epoch) (limit : ℕ) (now later : ℕ → Option (List ℕ)) (media : MediaId) (offset : ℕ) (bytes : List ℕ)
    → media.0 < 2 ^ 32 → AreSaved rows
    → IfOk r (λ answer. T → (stored : List ℕ) → Holds media.0 stored (received_of media.0 rows) now → Puts (piece_put (asked rows media offset bytes stored now)) kept answer later)
    → IfOk r (λ answer. (content : Content) → T → Stands (core_of rows clients epochs limit) content now
    → (kept ≡ (piece_put (asked rows media offset bytes (content.bytes media.0) now)).rows) × (answer ≡ (piece_put (asked rows media offset bytes (content.bytes media.0) now)).reply)
    × Stands (core_of kept clients epochs limit) (with_bytes media.0 (piece_put (asked rows media offset bytes (content.bytes media.0) now)).stored content) later)
piece_after (Ok x) T rows kept clients epochs limit now later media offset bytes low saved step = λ content told s.
    let got = step told (content.bytes media.0) (record { pieces = λ i few. s.content.pieces media.0 i low few; long = s.content.received media.0 low }) in (
      got.0,
      got.1,
      subst (λ l. Stands (core_of l clients epochs limit) (with_bytes media.0 (piece_put (asked rows media offset bytes (content.bytes media.0) now)).stored content) later) (sym got.0)
          (subst (Stands (core_of (piece_put (asked rows media offset bytes (content.bytes media.0) now)).rows clients epochs limit) (with_bytes media.0 (piece_put (asked rows media offset bytes (content.bytes media.0) now)).stored content)) (sym got.2)
          (stands_piece (core_of rows clients epochs limit) content now media offset bytes low saved.saved s)),
    )
piece_after (Err f) T rows kept clients epochs limit now later media offset bytes low saved step = tt

-- of a medium that is there
pub put_found : (r : Result PieceReply CmsFault) (T : Type 0) (rows kept : List Kept) (now later : ℕ → Option (List ℕ)) (media : MediaId) (offset : ℕ) (bytes : List ℕ) (m : Medium) → m.media ≡ media → row_at (at kind.Media media.0) rows ≡ Some (kept_of m)
    → IfOk r (λ answer. T → (stored : List ℕ) → Holds m.media.0 stored m.received now → Puts (put_at (asked rows m.media offset bytes stored now) m.file (kept_of m)) kept answer later)
    → IfOk r (λ answer. T → (stored : List ℕ) → Holds media.0 stored (received_of media.0 rows) now → Puts (piece_put (asked rows media offset bytes stored now)) kept answer later)
put_found (Ok x) T rows kept now later media offset bytes m same there step = λ told stored h.
    let holds : Holds m.media.0 stored m.received now = subst (λ (k : MediaId). Holds k.0 stored m.received now) (sym same) (subst (λ n. Holds media.0 stored n now) (ap received_in there) h) in
    subst (λ p. Puts p kept x later)
    (ap (λ k. put_at (asked rows k offset bytes stored now) m.file (kept_of m)) same ∙ sym (ap (put_in (asked rows media offset bytes stored now)) there))
    (step told stored holds)
put_found (Err f) T rows kept now later media offset bytes m same there step = tt

missing_of : (q : Asked) (e : Kept) (file : Option Listed) → file ≡ None → put_of q file e ≡ only_answered q (piece.Unknown q.media)
missing_of q e None is = refl
missing_of q e (Some f) is = absurd (cc)

missing_in : (q : Asked) (r : Option Kept) → option_and_then (λ (e : Kept). file_of e.row) r ≡ None → put_in q r ≡ only_answered q (piece.Unknown q.media)
missing_in q None is = refl
missing_in q (Some e) is = missing_of q e (file_of e.row) is

-- of a medium that isn't there
pub put_missing : (rows : List Kept) (now : ℕ → Option (List ℕ)) (media : MediaId) (offset : ℕ) (bytes stored : List ℕ) → option_and_then (λ (e : Kept). file_of e.row) (row_at (at kind.Media media.0) rows) ≡ None
    → Puts (piece_put (asked rows media offset bytes stored now)) rows (piece.Unknown media) now
put_missing rows now media offset bytes stored is =
    subst (λ p. Puts p rows (piece.Unknown media) now) (sym (missing_in (asked rows media offset bytes stored now) (row_at (at kind.Media media.0) rows) is)) (refl, refl, refl)

-- a piece that has come
pub at_held : (rows : List Kept) (now later : ℕ → Option (List ℕ)) (m : Medium) (offset : ℕ) (bytes stored : List ℕ) (answer : PieceReply) → is_held stored offset bytes ≡ true → answer ≡ held_reply m.media (kept_of m) → later ≡ now
    → Puts (put_at (asked rows m.media offset bytes stored now) m.file (kept_of m)) rows answer later
at_held rows now later m offset bytes stored answer held is same =
    subst (λ b. Puts (cond b (only_answered (asked rows m.media offset bytes stored now) (held_reply m.media (kept_of m))) (put_new (asked rows m.media offset bytes stored now) m.file (kept_of m))) rows answer later) (sym held) (refl, is, same)

-- a piece that hasn't
pub at_new : (r : Result PieceReply CmsFault) (T M : Type 0) (rows kept : List Kept) (now mid later : ℕ → Option (List ℕ)) (m : Medium) (offset : ℕ) (bytes : List ℕ)
    → (T → (stored : List ℕ) → Holds m.media.0 stored m.received now → is_held stored offset bytes ≡ false) → (T → M) → (T → mid ≡ now)
    → IfOk r (λ answer. M → (stored : List ℕ) → Holds m.media.0 stored m.received mid → Puts (put_new (asked rows m.media offset bytes stored mid) m.file (kept_of m)) kept answer later)
    → IfOk r (λ answer. T → (stored : List ℕ) → Holds m.media.0 stored m.received now → Puts (put_at (asked rows m.media offset bytes stored now) m.file (kept_of m)) kept answer later)
at_new (Ok x) T M rows kept now mid later m offset bytes held tells same step = λ told stored h.
    let got = step (tells told) stored (subst (Holds m.media.0 stored m.received) (sym (same told)) h) in
    subst (λ b. Puts (cond b (only_answered (asked rows m.media offset bytes stored now) (held_reply m.media (kept_of m))) (put_new (asked rows m.media offset bytes stored now) m.file (kept_of m))) kept x later) (sym (held told stored h))
    (subst (λ q. Puts (put_new (asked rows m.media offset bytes stored q) m.file (kept_of m)) kept x later) (same told) got)
at_new (Err f) T M rows kept now mid later m offset bytes held tells same step = tt

-- the next piece, of its length
pub new_next : (r : Result PieceReply CmsFault) (T : Type 0) (rows kept : List Kept) (now later : ℕ → Option (List ℕ)) (m : Medium) (offset : ℕ) (bytes : List ℕ) → m.complete ≡ false → offset ≡ m.received → length bytes ≡ wanted m.file.length m.received
    → IfOk r (λ answer. T → (stored : List ℕ) (any : ℕ) → Holds m.media.0 stored m.received now → Puts (put_next (asked rows m.media any bytes stored now) m.file (kept_of m)) kept answer later)
    → IfOk r (λ answer. T → (stored : List ℕ) → Holds m.media.0 stored m.received now → Puts (put_new (asked rows m.media offset bytes stored now) m.file (kept_of m)) kept answer later)
new_next (Ok x) T rows kept now later m offset bytes yet next long step = λ told stored h.
    subst (λ b. Puts (cond (b || not (eqb offset m.received)) (only_answered (asked rows m.media offset bytes stored now) (piece.PieceOrder m.received))
    (cond (not (eqb (length bytes) (wanted m.file.length m.received))) (only_answered (asked rows m.media offset bytes stored now) (piece.PieceLength (wanted m.file.length m.received))) (put_next (asked rows m.media offset bytes stored now) m.file (kept_of m)))) kept x later) (sym yet)
    (subst (λ b. Puts (cond (not b) (only_answered (asked rows m.media offset bytes stored now) (piece.PieceOrder m.received))
    (cond (not (eqb (length bytes) (wanted m.file.length m.received))) (only_answered (asked rows m.media offset bytes stored now) (piece.PieceLength (wanted m.file.length m.received))) (put_next (asked rows m.media offset bytes stored now) m.file (kept_of m)))) kept x later) (sym (eq-eqb offset m.received next))
    (subst (λ b. Puts (cond (not b) (only_answered (asked rows m.media offset bytes stored now) (piece.PieceLength (wanted m.file.length m.received))) (put_next (asked rows m.media offset bytes stored now) m.file (kept_of m))) kept x later) (sym (eq-eqb (length bytes) (wanted m.file.length m.received) long))
    (step told stored offset h)))
new_next (Err f) T rows kept now later m offset bytes yet next long step = tt

-- ---- the next piece

-- what is known before it
pub record IsReady (m : Medium) (count : ℕ) : Type 0 where
  pub medium : IsOpen m.file (kept_of m)
  pub next : IsNext m.file (kept_of m) count

pub open_of : (rows : List Kept) (m : Medium) → AreSaved rows → row_at (at kind.Media m.media.0) rows ≡ Some (kept_of m) → m.complete ≡ false → IsOpen m.file (kept_of m)
open_of rows m saved there yet = is_open m.file (kept_of m) refl (kept_at IsSaved (number_at (at kind.Media m.media.0)) (kept_of m) rows saved.saved there) yet

pub is_ready : (rows : List Kept) (m : Medium) (count : ℕ) → AreSaved rows → row_at (at kind.Media m.media.0) rows ≡ Some (kept_of m) → m.complete ≡ false → count ≡ wanted m.file.length m.received → IsReady m count
is_ready rows m count saved there yet is =
    let medium = open_of rows m saved there yet in
    record { medium = medium; next = is_next m.file (kept_of m) count medium is }

pub within_file : (m : Medium) (count : ℕ) → IsReady m count → m.received + count ≤ m.file.length
within_file m count ready = ready.next.within

pub few_bytes : (m : Medium) (count : ℕ) → IsReady m count → count ≤ 65536
few_bytes m count ready = ready.next.few

-- a piece is added that isn't the last
pub next_held : (r : Result PieceReply CmsFault) (T : Type 0) (rows kept : List Kept) (now later : ℕ → Option (List ℕ)) (m : Medium) (bytes : List ℕ) (n : ℕ) → n ≡ m.received + length bytes → n < m.file.length
    → IfOk r (λ answer. answer ≡ piece.Held n) → OnOk r (kept ≡ with_medium (holding n) m.media rows) → OnOk r (T → later ≡ kept_with m.media m.received bytes (holding n (kept_of m)) now)
    → IfOk r (λ answer. T → (stored : List ℕ) (offset : ℕ) → Holds m.media.0 stored m.received now → Puts (put_next (asked rows m.media offset bytes stored now) m.file (kept_of m)) kept answer later)
next_held (Ok x) T rows kept now later m bytes n is more says p q = λ told stored offset h.
    let test : nat_lt (m.received + length bytes) m.file.length ≡ true = lt-ltb (m.received + length bytes) m.file.length (subst (λ k. k < m.file.length) is more) in
    subst (λ b. Puts (cond b (added (asked rows m.media offset bytes stored now) (holding (m.received + length bytes)) (kept_of m) (piece.Held (m.received + length bytes)))
    (put_last (asked rows m.media offset bytes stored now) m.file (kept_of m))) kept x later) (sym test)
    (p ∙ ap (λ k. with_medium (holding k) m.media rows) is, says ∙ ap (λ k. piece.Held k) is, q told ∙ ap (λ k. kept_with m.media m.received bytes (holding k (kept_of m)) now) is)
next_held (Err f) T rows kept now later m bytes n is more says p q = tt

-- the piece is the last one
pub next_last : (r : Result PieceReply CmsFault) (T : Type 0) (rows kept : List Kept) (now later : ℕ → Option (List ℕ)) (m : Medium) (bytes : List ℕ) (n : ℕ) → n ≡ m.received + length bytes → m.file.length ≤ n
    → IfOk r (λ answer. T → (stored : List ℕ) (offset : ℕ) → Holds m.media.0 stored m.received now → Puts (put_last (asked rows m.media offset bytes stored now) m.file (kept_of m)) kept answer later)
    → IfOk r (λ answer. T → (stored : List ℕ) (offset : ℕ) → Holds m.media.0 stored m.received now → Puts (put_next (asked rows m.media offset bytes stored now) m.file (kept_of m)) kept answer later)
next_last (Ok x) T rows kept now later m bytes n is most step = λ told stored offset h.
    let test : nat_lt (m.received + length bytes) m.file.length ≡ false = le-ltb (m.received + length bytes) m.file.length (subst (λ k. m.file.length ≤ k) is most) in
    subst (λ b. Puts (cond b (added (asked rows m.media offset bytes stored now) (holding (m.received + length bytes)) (kept_of m) (piece.Held (m.received + length bytes)))
    (put_last (asked rows m.media offset bytes stored now) m.file (kept_of m))) kept x later) (sym test) (step told stored offset h)
next_last (Err f) T rows kept now later m bytes n is most step = tt

-- what is known of the digest and of the keeper's rows after it
pub record IsFound (T : Type 0) (now mid : ℕ → Option (List ℕ)) (m : Medium) (bytes digest : List ℕ) : Type 0 where
  pub says : T → (stored : List ℕ) → Holds m.media.0 stored m.received now → digest ≡ md5 (stored ++ bytes)
  pub same : T → mid ≡ now

-- the medium is complete
pub last_whole : (r : Result PieceReply CmsFault) (T M : Type 0) (rows kept : List Kept) (now mid later : ℕ → Option (List ℕ)) (m : Medium) (bytes digest : List ℕ) → IsFound T now mid m bytes digest → bytes_eq digest m.file.md5 ≡ true → (T → M)
    → IfOk r (λ answer. answer ≡ piece.Complete m.media) → OnOk r (kept ≡ with_medium whole m.media rows) → OnOk r (M → later ≡ kept_with m.media m.received bytes (whole (kept_of m)) mid)
    → IfOk r (λ answer. T → (stored : List ℕ) (offset : ℕ) → Holds m.media.0 stored m.received now → Puts (put_last (asked rows m.media offset bytes stored now) m.file (kept_of m)) kept answer later)
last_whole (Ok x) T M rows kept now mid later m bytes digest found same tells says p q = λ told stored offset h.
    let test : bytes_eq (md5 (stored ++ bytes)) m.file.md5 ≡ true = sym (ap (λ d. bytes_eq d m.file.md5) (found.says told stored h)) ∙ same in
    subst (λ b. Puts (cond b (added (asked rows m.media offset bytes stored now) whole (kept_of m) (piece.Complete m.media)) (dropped (asked rows m.media offset bytes stored now) (kept_of m))) kept x later) (sym test)
    (p, says, q (tells told) ∙ ap (kept_with m.media m.received bytes (whole (kept_of m))) (found.same told))
last_whole (Err f) T M rows kept now mid later m bytes digest found same tells says p q = tt

-- all pieces are dropped
pub last_dropped : (r : Result PieceReply CmsFault) (T M : Type 0) (rows kept : List Kept) (now mid later : ℕ → Option (List ℕ)) (m : Medium) (bytes digest : List ℕ) → IsFound T now mid m bytes digest → bytes_eq digest m.file.md5 ≡ false → (T → M)
    → IfOk r (λ answer. answer ≡ piece.DigestDiffers digest) → OnOk r (kept ≡ with_medium (holding 0) m.media rows) → OnOk r (M → later ≡ kept_without m.media m.received (holding 0 (kept_of m)) mid)
    → IfOk r (λ answer. T → (stored : List ℕ) (offset : ℕ) → Holds m.media.0 stored m.received now → Puts (put_last (asked rows m.media offset bytes stored now) m.file (kept_of m)) kept answer later)
last_dropped (Ok x) T M rows kept now mid later m bytes digest found other tells says p q = λ told stored offset h.
    let is = found.says told stored h in
    let test : bytes_eq (md5 (stored ++ bytes)) m.file.md5 ≡ false = sym (ap (λ d. bytes_eq d m.file.md5) is) ∙ other in
    subst (λ b. Puts (cond b (added (asked rows m.media offset bytes stored now) whole (kept_of m) (piece.Complete m.media)) (dropped (asked rows m.media offset bytes stored now) (kept_of m))) kept x later) (sym test)
    (p, says ∙ ap (λ d. piece.DigestDiffers d) is, q (tells told) ∙ ap (kept_without m.media m.received (holding 0 (kept_of m))) (found.same told))
last_dropped (Err f) T M rows kept now mid later m bytes digest found other tells says p q = tt

-- rows as they may be kept, after each
saved_by : (r : Result PieceReply CmsFault) (rows kept more : List Kept) → AreSaved more → AreSaved rows → OnOk r (kept ≡ more) → OnErr r (kept ≡ rows) → AreSaved kept
saved_by (Ok x) rows kept more later saved p q = subst AreSaved (sym p) later
saved_by (Err f) rows kept more later saved p q = subst AreSaved (sym q) saved

pub saved_held : (r : Result PieceReply CmsFault) (rows kept : List Kept) (m : Medium) (count n : ℕ) → IsReady m count → AreSaved rows → row_at (at kind.Media m.media.0) rows ≡ Some (kept_of m) → n ≡ m.received + count → n < m.file.length
    → OnOk r (kept ≡ with_medium (holding n) m.media rows) → OnErr r (kept ≡ rows) → AreSaved kept
saved_held r rows kept m count n ready saved there is more p q =
    saved_by r rows kept (with_medium (holding n) m.media rows)
    (subst (λ k. AreSaved (with_medium (holding k) m.media rows)) (sym is)
    (saved_medium (holding (m.received + count)) m.media (kept_of m) rows (λ e. refl) there (saved_holding m.file (kept_of m) count ready.medium ready.next (subst (λ k. k < m.file.length) is more)) saved)) saved p q

pub saved_complete : (r : Result PieceReply CmsFault) (rows kept : List Kept) (m : Medium) → IsOpen m.file (kept_of m) → AreSaved rows → row_at (at kind.Media m.media.0) rows ≡ Some (kept_of m)
    → OnOk r (kept ≡ with_medium whole m.media rows) → OnErr r (kept ≡ rows) → AreSaved kept
saved_complete r rows kept m o saved there p q =
    saved_by r rows kept (with_medium whole m.media rows) (saved_medium whole m.media (kept_of m) rows (λ e. refl) there (saved_whole m.file (kept_of m) o) saved) saved p q

pub saved_without : (r : Result PieceReply CmsFault) (rows kept : List Kept) (m : Medium) → IsOpen m.file (kept_of m) → AreSaved rows → row_at (at kind.Media m.media.0) rows ≡ Some (kept_of m)
    → OnOk r (kept ≡ with_medium (holding 0) m.media rows) → OnErr r (kept ≡ rows) → AreSaved kept
saved_without r rows kept m o saved there p q =
    saved_by r rows kept (with_medium (holding 0) m.media rows) (saved_medium (holding 0) m.media (kept_of m) rows (λ e. refl) there (saved_dropped m.file (kept_of m) o) saved) saved p q
