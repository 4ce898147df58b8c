-- The rows that stand for a server and its content, after a piece of a medium.
use Rattle.std.proofs.Common.{◌≡◌, ◌∙◌, ◌⊎◌, ℕ, ◌+◌, ◌-◌, ◌*◌, ◌/◌, ◌%◌, ◌^◌, ◌<◌, ◌≤◌, Bool, true, false, cond, eqb, nat_lt, not, ◌||◌, List, [], ◌∷◌, ◌++◌, length, take, drop, map, Option, Some, None, refl, ap, sym, subst, arith, inl, inr, length-append, length-drop}
use Rattle.std.specs.Prelude.{option_map}
use Rattle.std.specs.List.{AllByRecursion}
use Rattle.std.specs.Str.{bytes_eq}
use Rattle.md5.specs.Md5.{md5}
use Rattle.std.proofs.lemmas.Bool.{and_from, and_parts, cases_order, eq-eqb, eqb-true, le-ltb, lt-ltb, ltb-false, ltb-true, ne_eqb}
use Rattle.sg_base.specs.declared.file.Listed.{Listed}
use Rattle.sg_base.specs.declared.ids.MediaId.{MediaId}
use Rattle.sg_base.specs.declared.kind.Kind.TheVariants as kind
use Rattle.sg_base.specs.declared.row.Row.{Row}
use Rattle.sg_base.specs.declared.row.Row.TheVariants as row
use Rattle.sg_base.specs.Keys.{number}
use Rattle.sg_base.specs.Rising.{found}
use Rattle.sg_base.proofs.RisingLemmas.{by_equal}
use Rattle.sg_edits.specs.declared.piece_reply.PieceReply.TheVariants as piece
use Rattle.sg_edits.specs.Media.{asked}
use Rattle.sg_edits.specs.Pieces.{AreSaved, HavePieces, Put, added, dropped, held_reply, is_held, kept_with, kept_without, only_answered, piece_put, put_in, put_new, put_next, put_of, wanted, with_bytes, with_medium_row}
use Rattle.sg_edits.proofs.MediaLemmas.{Stays, all_medium, found_here, found_there, rising_medium}
use Rattle.sg_edits.proofs.ReadLemmas.{front_there, is_there, next_piece}
use Rattle.sg_edits.proofs.StandLemmas.{index_fits, media_lt, no_piece, row_no_piece, row_no_play, wide}
use Rattle.sg_keeper.specs.Changes.{with_row}
use Rattle.sg_records.specs.Clients.{client_number, client_text}
use Rattle.sg_records.specs.Numbers.{epoch_bytes, epoch_number, piece_number, play_number}
use Rattle.sg_records.specs.Saved.{IsSaved, IsSavedText, is_state, saved_text}
use Rattle.sg_records.proofs.SavedLemmas.{received_fits}
use Rattle.sg_steps.specs.Calls.{pieces_of, without_pieces}
use Rattle.sg_steps.specs.State.{AreContent, AreRows, Content, Core, IsStored, Stands, piece_at, received_in, received_of}
use Rattle.sg_steps.proofs.ChangeLemmas.{pieces_here, pieces_other, row_here, row_other}
use Rattle.sg_steps.proofs.NumberLemmas.{apart_above, apart_below, below_or, eight_nine, eight_ten, id_one, le_le, lt_le, nine_ten, piece_ge, piece_media, piece_same, pieces_cover, play_lt, ten_eleven}
use Rattle.sg_tables.specs.Entries.{Kept, number_of_kept}
use Rattle.sg_tables.specs.Refusals.{bytes_of, row_at}
use Rattle.sg_tables.specs.Rows.{at, number_at}
use Rattle.sg_tables.specs.Tables.{file_of, holding, whole, with_medium}
use Rattle.sg_tables.proofs.KeptLemmas.{kept_at}

-- ---- pieces

-- the pieces with one more
pub more_pieces : (m k : ℕ) (stored bytes : List ℕ) (kept : ℕ → Option (List ℕ)) → length stored ≡ k * 65536 → 0 < length bytes → length bytes ≤ 65536 → HavePieces m stored kept
    → HavePieces m (stored ++ bytes) (with_row (piece_number m k) (Some bytes) kept)
more_pieces m k stored bytes kept long some few have i low =
    let total = length-append stored bytes in
    elim (cases_order i k) [
      | inl e ↦
          row_here (piece_number m k) (Some bytes) kept (piece_number m i) (ap (piece_number m) (sym e))
          ∙ sym (is_there i (stored ++ bytes) (omega (arith, total, long, e, some))
          ∙ ap (λ b. Some b) (ap (λ n. take 65536 (drop n (stored ++ bytes))) (ap (λ n. n * 65536) e ∙ sym long) ∙ next_piece stored bytes 65536 few))
      | inr (inl less) ↦
          row_other (piece_number m k) (Some bytes) kept (piece_number m i) (λ q. let is = piece_same m k i q in omega arith)
          ∙ (have i low
          ∙ (is_there i stored (omega (arith, long, less))
          ∙ sym (is_there i (stored ++ bytes) (omega (arith, total, long, less)) ∙ ap (λ b. Some b) (front_there stored bytes (i * 65536) 65536 (omega (arith, long, less))))))
      | inr (inr more) ↦
          row_other (piece_number m k) (Some bytes) kept (piece_number m i) (λ q. let is = piece_same m k i q in omega arith)
          ∙ (have i low
          ∙ (no_piece i stored (omega (arith, long, more)) ∙ sym (no_piece i (stored ++ bytes) (omega (arith, total, long, more, few)))))
    ]

-- no pieces
pub no_pieces : (m : ℕ) (stored : List ℕ) (kept : ℕ → Option (List ℕ)) → HavePieces m stored kept → HavePieces m [] (without_pieces m (pieces_of (length stored)) kept)
no_pieces m stored kept have i low =
    let count : ℕ = pieces_of (length stored) in
    let none : piece_at i [] ≡ None = no_piece i [] (omega arith) in
    elim (below_or i (pieces_of (length stored))) [
      | inl lt ↦ pieces_here m count kept i lt ∙ sym none
      | inr ge ↦
          pieces_other m count kept (piece_number m i) (λ j lt q. let is = piece_same m j i q in omega (arith, lt, ge, is))
          ∙ (have i low ∙ (no_piece i stored (pieces_cover (length stored) i ge) ∙ sym none))
    ]

-- ---- the rows

piece_apart : (m i n : ℕ) → n < number 11 0 0 → piece_number m i ≡ n → ⊥
piece_apart m i n lt e = apart_below (piece_number m i) n (number 11 0 0) lt (piece_ge m i) e

-- rows and content after a medium is changed, whose bytes are these then, and whose pieces other rows have
pub stands_medium : (core : Core) (content : Content) (rows qs : ℕ → Option (List ℕ)) (media : MediaId) (e : Kept) (change : Kept → Kept) (stored : List ℕ)
    → media.0 < 2 ^ 32 → row_at (at kind.Media media.0) core.rows ≡ Some e → Stays change → (change e).received ≡ length stored
    → ((n : ℕ) → n < number 11 0 0 → qs n ≡ rows n)
    → ((m i : ℕ) → m < 2 ^ 32 → i < 2 ^ 32 → (m ≡ media.0 → ⊥) → qs (piece_number m i) ≡ rows (piece_number m i))
    → HavePieces media.0 stored qs → Stands core content rows
    → Stands (record core { rows = with_medium change media core.rows }) (with_bytes media.0 stored content) (with_medium_row media (change e) qs)
stands_medium core content rows qs media e change stored low there stays long same others have s =
    let here : found number_of_kept (number_at (at kind.Media media.0)) (with_medium change media core.rows) ≡ Some (change e) = found_here change (number_at (at kind.Media media.0)) core.rows stays ∙ ap (option_map change) there in
    let other : (k : ℕ) → (number_at (at kind.Media media.0) ≡ k → ⊥) → with_medium_row media (change e) qs k ≡ qs k = (λ k ne. row_other (number_at (at kind.Media media.0)) (Some (saved_text (change e))) qs k ne) in
    record {
      rows = record {
        rows = λ k lt. by_equal (number_at (at kind.Media media.0)) k (λ b. IsStored IsSavedText (found number_of_kept k (with_medium change media core.rows)) (cond b (Some (saved_text (change e))) (qs k)))
            (λ is. subst (λ f. IsStored IsSavedText f (Some (saved_text (change e)))) (sym (ap (λ m. found number_of_kept m (with_medium change media core.rows)) (sym is) ∙ here)) (saved_text (change e), refl, inl refl))
            (λ ne. subst (λ f. IsStored IsSavedText f (qs k)) (sym (found_there change (number_at (at kind.Media media.0)) k core.rows stays ne))
            (subst (IsStored IsSavedText (found number_of_kept k core.rows)) (sym (same k (lt_le k (number 8 0 0) (number 11 0 0) lt (le_le (number 8 0 0) (number 10 0 0) (number 11 0 0) eight_ten ten_eleven)))) (s.rows.rows k lt)));
        clients = λ k ge lt. other k (apart_above (number_at (at kind.Media media.0)) k (number 8 0 0) (media_lt media.0 low) ge)
            ∙ (same k (lt_le k (number 9 0 0) (number 11 0 0) lt (le_le (number 9 0 0) (number 10 0 0) (number 11 0 0) nine_ten ten_eleven)) ∙ s.rows.clients k ge lt);
        epochs = λ k ge lt. other k (apart_above (number_at (at kind.Media media.0)) k (number 8 0 0) (media_lt media.0 low) (le_le (number 8 0 0) (number 9 0 0) k eight_nine ge))
            ∙ (same k (lt_le k (number 10 0 0) (number 11 0 0) lt ten_eleven) ∙ s.rows.epochs k ge lt);
      };
      content = record {
        received = λ m fits. by_equal m media.0 (λ b. received_of m (with_medium change media core.rows) ≡ length (cond b stored (content.bytes m)))
            (λ is. ap received_in (ap (λ x. row_at (at kind.Media x) (with_medium change media core.rows)) is ∙ here) ∙ long)
            (λ ne. ap received_in (found_there change (number_at (at kind.Media media.0)) (number_at (at kind.Media m)) core.rows stays (λ q. ne (sym (id_one media.0 m q)))) ∙ s.content.received m fits);
        pieces = λ m i fits few. other (piece_number m i) (row_no_piece media.0 low m i)
            ∙ by_equal m media.0 (λ b. qs (piece_number m i) ≡ piece_at i (cond b stored (content.bytes m)))
            (λ is. ap (λ x. qs (piece_number x i)) is ∙ have i few)
            (λ ne. others m i fits few ne ∙ s.content.pieces m i fits few);
        counts = s.content.counts;
        plays = λ d p k fits few lt. other (play_number d p k) (row_no_play media.0 low d p k)
            ∙ (same (play_number d p k) (play_lt d p k fits few (wide k lt)) ∙ s.content.plays d p k fits few lt);
      };
    }

-- the rows after the next piece
pub stands_added : (core : Core) (content : Content) (rows : ℕ → Option (List ℕ)) (media : MediaId) (e : Kept) (change : Kept → Kept) (bytes : List ℕ)
    → media.0 < 2 ^ 32 → row_at (at kind.Media media.0) core.rows ≡ Some e → Stays change → e.received < 2 ^ 32 → e.received % 65536 ≡ 0 → 0 < length bytes → length bytes ≤ 65536
    → (change e).received ≡ e.received + length bytes → Stands core content rows
    → Stands (record core { rows = with_medium change media core.rows }) (with_bytes media.0 (content.bytes media.0 ++ bytes) content) (kept_with media e.received bytes (change e) rows)
stands_added core content rows media e change bytes low there stays fits whole some few long s =
    let came : e.received ≡ length (content.bytes media.0) = sym (ap received_in there) ∙ s.content.received media.0 low in
    let total = length-append (content.bytes media.0) bytes in
    let k : ℕ = e.received / 65536 in
    stands_medium core content rows (with_row (piece_number media.0 (e.received / 65536)) (Some bytes) rows) media e change (content.bytes media.0 ++ bytes) low there stays
    (long ∙ omega (arith, came, total))
    (λ n lt. row_other (piece_number media.0 (e.received / 65536)) (Some bytes) rows n (piece_apart media.0 (e.received / 65536) n lt))
    (λ m i small count ne. row_other (piece_number media.0 (e.received / 65536)) (Some bytes) rows (piece_number m i) (λ q. ne (sym (piece_media media.0 (e.received / 65536) m i (omega (arith, fits)) (wide i count) q))))
    (more_pieces media.0 (e.received / 65536) (content.bytes media.0) bytes rows (omega (arith, came, whole)) some few (λ i count. s.content.pieces media.0 i low count)) s

-- the rows after all pieces were dropped
pub stands_dropped : (core : Core) (content : Content) (rows : ℕ → Option (List ℕ)) (media : MediaId) (e : Kept)
    → media.0 < 2 ^ 32 → row_at (at kind.Media media.0) core.rows ≡ Some e → e.received < 2 ^ 32 → Stands core content rows
    → Stands (record core { rows = with_medium (holding 0) media core.rows }) (with_bytes media.0 [] content) (kept_without media e.received (holding 0 e) rows)
stands_dropped core content rows media e low there fits s =
    let came : e.received ≡ length (content.bytes media.0) = sym (ap received_in there) ∙ s.content.received media.0 low in
    stands_medium core content rows (without_pieces media.0 (pieces_of e.received) rows) media e (holding 0) [] low there (λ x. refl) refl
    (λ n lt. pieces_other media.0 (pieces_of e.received) rows n (λ i _ q. piece_apart media.0 i n lt q))
    (λ m i small count ne. pieces_other media.0 (pieces_of e.received) rows (piece_number m i) (λ j lt q. ne (sym (piece_media media.0 j m i (index_fits e.received j fits lt) (wide i count) q))))
    (λ i count. ap (λ r. without_pieces media.0 (pieces_of r) rows (piece_number media.0 i)) came ∙ no_pieces media.0 (content.bytes media.0) rows (λ j few. s.content.pieces media.0 j low few) i count)
    s

-- the rows after a piece that was only answered
pub stands_answered : (core : Core) (content : Content) (rows : ℕ → Option (List ℕ)) (media : ℕ) → Stands core content rows → Stands core (with_bytes media (content.bytes media) content) rows
stands_answered core content rows media s =
    let one : (m : ℕ) → content.bytes m ≡ cond (eqb m media) (content.bytes media) (content.bytes m) =
    (λ m. by_equal m media (λ b. content.bytes m ≡ cond b (content.bytes media) (content.bytes m)) (λ is. ap content.bytes is) (λ _. refl)) in
    record {
      rows = s.rows;
      content = record {
        received = λ m fits. s.content.received m fits ∙ ap length (one m);
        pieces = λ m i fits few. s.content.pieces m i fits few ∙ ap (piece_at i) (one m);
        counts = s.content.counts;
        plays = s.content.plays;
      };
    }

-- ---- the call

-- what a piece leaves
abbrev PutStands : Core → Content → MediaId → Put → Type 0
PutStands core content media put = Stands (record core { rows = put.rows }) (with_bytes media.0 put.stored content) put.kept

-- ---- a medium that isn't complete

-- what is known of a medium of which a next piece may come
pub record IsOpen (f : Listed) (e : Kept) : Type 0 where
  pub file : file_of e.row ≡ Some f
  pub saved : IsSaved e
  pub open_yet : e.complete ≡ false
  pub less : e.received < f.length
  pub whole_pieces : e.received % 65536 ≡ 0
  pub fits : e.received < 2 ^ 32

pub is_open : (f : Listed) (e : Kept) → file_of e.row ≡ Some f → IsSaved e → e.complete ≡ false → IsOpen f e
is_open f e is saved yet =
    let known : is_state (Some f) e.received false ≡ true = subst (λ b. is_state (Some f) e.received b ≡ true) yet (subst (λ o. is_state o e.received e.complete ≡ true) is saved.state) in
    let parts = and_parts (nat_lt e.received f.length) (eqb (e.received % 65536) 0) known in
    record {
      file = is;
      saved = saved;
      open_yet = yet;
      less = ltb-true e.received f.length parts.0;
      whole_pieces = eqb-true (e.received % 65536) 0 parts.1;
      fits = received_fits e.row e.received e.complete saved.row saved.state;
    }

bytes_file : (r : Row) (f : Listed) → file_of r ≡ Some f → bytes_of r ≡ f.length
bytes_file (row.Media g) f e = let same : g ≡ f = cc in ap (λ (x : Listed). x.length) same
bytes_file (row.Layout l) f e = absurd (cc)
bytes_file (row.Campaign c) f e = absurd (cc)
bytes_file (row.Daypart d) f e = absurd (cc)
bytes_file (row.Group g) f e = absurd (cc)
bytes_file (row.Display d) f e = absurd (cc)
bytes_file (row.Event v) f e = absurd (cc)

-- the next piece has this length, and the file is no shorter
pub record IsNext (f : Listed) (e : Kept) (count : ℕ) : Type 0 where
  pub some : 0 < count
  pub few : count ≤ 65536
  pub within : e.received + count ≤ f.length
  pub whole_piece : e.received + count < f.length → count ≡ 65536

pub is_next : (f : Listed) (e : Kept) (count : ℕ) → IsOpen f e → count ≡ wanted f.length e.received → IsNext f e count
is_next f e count o is =
    let less = o.less in record {
      some = omega (arith, less, is);
      few = omega (arith, less, is);
      within = omega (arith, less, is);
      whole_piece = λ more. omega (arith, less, is, more);
    }

saved_with : (f : Listed) (e : Kept) (received : ℕ) (complete : Bool) → IsOpen f e → is_state (Some f) received complete ≡ true → IsSaved (record { row = e.row; received = received; complete = complete })
saved_with f e received complete o h = record {
  row = o.saved.row;
  state = subst (λ x. is_state x received complete ≡ true) (sym o.file) h;
}

pub saved_holding : (f : Listed) (e : Kept) (count : ℕ) → IsOpen f e → IsNext f e count → e.received + count < f.length → IsSaved (holding (e.received + count) e)
saved_holding f e count o next more =
    let size = next.whole_piece more in
    let before = o.whole_pieces in
    let pieces : (e.received + count) % 65536 ≡ 0 = omega (arith, size, before) in
    saved_with f e (e.received + count) false o (and_from (nat_lt (e.received + count) f.length) (eqb ((e.received + count) % 65536) 0) (lt-ltb (e.received + count) f.length more) (eq-eqb ((e.received + count) % 65536) 0 pieces))

pub saved_whole : (f : Listed) (e : Kept) → IsOpen f e → IsSaved (whole e)
saved_whole f e o = saved_with f e (bytes_of e.row) true o (eq-eqb (bytes_of e.row) f.length (bytes_file e.row f o.file))

pub saved_dropped : (f : Listed) (e : Kept) → IsOpen f e → IsSaved (holding 0 e)
saved_dropped f e o = let less = o.less in saved_with f e 0 false o (and_from (nat_lt 0 f.length) true (lt-ltb 0 f.length (omega (arith, less))) refl)

pub saved_medium : (change : Kept → Kept) (media : MediaId) (e : Kept) (rows : List Kept) → Stays change → row_at (at kind.Media media.0) rows ≡ Some e → IsSaved (change e) → AreSaved rows → AreSaved (with_medium change media rows)
saved_medium change media e rows stays there saved s = record {
  saved = all_medium IsSaved change media e rows s.rising there saved s.saved;
  rising = rising_medium change media rows stays s.rising;
}

-- ---- the call

next_stands : (core : Core) (content : Content) (rows : ℕ → Option (List ℕ)) (media : MediaId) (offset : ℕ) (bytes : List ℕ) (f : Listed) (e : Kept)
    → media.0 < 2 ^ 32 → row_at (at kind.Media media.0) core.rows ≡ Some e → IsOpen f e → IsNext f e (length bytes) → Stands core content rows
    → PutStands core content media (put_next (asked core.rows media offset bytes (content.bytes media.0) rows) f e)
next_stands core content rows media offset bytes f e low there o next s =
    elim (nat_lt (e.received + length bytes) f.length) as (λ b. nat_lt (e.received + length bytes) f.length ≡ b → PutStands core content media
    (cond b (added (asked core.rows media offset bytes (content.bytes media.0) rows) (holding (e.received + length bytes)) e (piece.Held (e.received + length bytes)))
    (cond (bytes_eq (md5 (content.bytes media.0 ++ bytes)) f.md5) (added (asked core.rows media offset bytes (content.bytes media.0) rows) whole e (piece.Complete media)) (dropped (asked core.rows media offset bytes (content.bytes media.0) rows) e)))) [
      | true ↦ (λ _. stands_added core content rows media e (holding (e.received + length bytes)) bytes low there (λ x. refl) o.fits o.whole_pieces next.some next.few refl s)
      | false ↦ (λ is.
          let last : bytes_of e.row ≡ e.received + length bytes =
          (let most = ltb-false (e.received + length bytes) f.length is in let within = next.within in let size = bytes_file e.row f o.file in omega (arith, most, within, size)) in
          elim (bytes_eq (md5 (content.bytes media.0 ++ bytes)) f.md5) as (λ b. PutStands core content media
          (cond b (added (asked core.rows media offset bytes (content.bytes media.0) rows) whole e (piece.Complete media)) (dropped (asked core.rows media offset bytes (content.bytes media.0) rows) e))) [
            | true ↦ stands_added core content rows media e whole bytes low there (λ x. refl) o.fits o.whole_pieces next.some next.few last s
            | false ↦ stands_dropped core content rows media e low there o.fits s
          ])
    ] refl

-- a piece that hasn't come, by what is found of it
abbrev NewStands : Core → Content → (ℕ → Option (List ℕ)) → MediaId → ℕ → List ℕ → Listed → Kept → Bool → Bool → Bool → Type 0
NewStands core content rows media offset bytes f e complete in_order fits = PutStands core content media
    (cond (complete || not in_order) (only_answered (asked core.rows media offset bytes (content.bytes media.0) rows) (piece.PieceOrder e.received))
    (cond (not fits) (only_answered (asked core.rows media offset bytes (content.bytes media.0) rows) (piece.PieceLength (wanted f.length e.received)))
    (put_next (asked core.rows media offset bytes (content.bytes media.0) rows) f e)))

new_stands : (core : Core) (content : Content) (rows : ℕ → Option (List ℕ)) (media : MediaId) (offset : ℕ) (bytes : List ℕ) (f : Listed) (e : Kept) (complete in_order fits : Bool) → Stands core content rows
    → (complete ≡ false → fits ≡ true → PutStands core content media (put_next (asked core.rows media offset bytes (content.bytes media.0) rows) f e))
    → NewStands core content rows media offset bytes f e complete in_order fits
new_stands core content rows media offset bytes f e true o l s next = stands_answered core content rows media.0 s
new_stands core content rows media offset bytes f e false false l s next = stands_answered core content rows media.0 s
new_stands core content rows media offset bytes f e false true false s next = stands_answered core content rows media.0 s
new_stands core content rows media offset bytes f e false true true s next = next refl refl

put_new_stands : (core : Core) (content : Content) (rows : ℕ → Option (List ℕ)) (media : MediaId) (offset : ℕ) (bytes : List ℕ) (f : Listed) (e : Kept)
    → media.0 < 2 ^ 32 → row_at (at kind.Media media.0) core.rows ≡ Some e → file_of e.row ≡ Some f → IsSaved e → Stands core content rows
    → PutStands core content media (put_new (asked core.rows media offset bytes (content.bytes media.0) rows) f e)
put_new_stands core content rows media offset bytes f e low there is saved s =
    new_stands core content rows media offset bytes f e e.complete (eqb offset e.received) (eqb (length bytes) (wanted f.length e.received)) s
    (λ yet fits.
    let o = is_open f e is saved yet in
    next_stands core content rows media offset bytes f e low there o (is_next f e (length bytes) o (eqb-true (length bytes) (wanted f.length e.received) fits)) s)

put_of_stands : (core : Core) (content : Content) (rows : ℕ → Option (List ℕ)) (media : MediaId) (offset : ℕ) (bytes : List ℕ) (file : Option Listed) (e : Kept)
    → media.0 < 2 ^ 32 → row_at (at kind.Media media.0) core.rows ≡ Some e → file_of e.row ≡ file → IsSaved e → Stands core content rows
    → PutStands core content media (put_of (asked core.rows media offset bytes (content.bytes media.0) rows) file e)
put_of_stands core content rows media offset bytes None e low there is saved s = stands_answered core content rows media.0 s
put_of_stands core content rows media offset bytes (Some f) e low there is saved s =
    elim (is_held (content.bytes media.0) offset bytes) as (λ b. PutStands core content media
    (cond b (only_answered (asked core.rows media offset bytes (content.bytes media.0) rows) (held_reply media e)) (put_new (asked core.rows media offset bytes (content.bytes media.0) rows) f e))) [
      | true ↦ stands_answered core content rows media.0 s
      | false ↦ put_new_stands core content rows media offset bytes f e low there is saved s
    ]

put_in_stands : (core : Core) (content : Content) (rows : ℕ → Option (List ℕ)) (media : MediaId) (offset : ℕ) (bytes : List ℕ) (r : Option Kept)
    → media.0 < 2 ^ 32 → row_at (at kind.Media media.0) core.rows ≡ r → AllByRecursion IsSaved core.rows → Stands core content rows
    → PutStands core content media (put_in (asked core.rows media offset bytes (content.bytes media.0) rows) r)
put_in_stands core content rows media offset bytes None low there saved s = stands_answered core content rows media.0 s
put_in_stands core content rows media offset bytes (Some e) low there saved s =
    put_of_stands core content rows media offset bytes (file_of e.row) e low there refl (kept_at IsSaved (number_at (at kind.Media media.0)) e core.rows saved there) s

-- rows stand for the server and its content after a piece
pub stands_piece : (core : Core) (content : Content) (rows : ℕ → Option (List ℕ)) (media : MediaId) (offset : ℕ) (bytes : List ℕ)
    → media.0 < 2 ^ 32 → AllByRecursion IsSaved core.rows → Stands core content rows
    → PutStands core content media (piece_put (asked core.rows media offset bytes (content.bytes media.0) rows))
stands_piece core content rows media offset bytes low saved s =
    put_in_stands core content rows media offset bytes (row_at (at kind.Media media.0) core.rows) low refl saved s
