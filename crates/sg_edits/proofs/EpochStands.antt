-- The rows that stand for a server and its content, after an epoch is given and after plays are added to one.
use Rattle.std.proofs.Common.{◌≡◌, ◌∙◌, ◌⊎◌, ⊎_elim, ℕ, ◌+◌, ◌*◌, ◌^◌, ◌<◌, ◌≤◌, Bool, true, false, cond, eqb, ◌&&◌, List, [], ◌∷◌, ◌++◌, length, Option, Some, None, refl, ap, sym, subst, arith, inl, inr, append-nil, length-append, nat_lt}
use Rattle.std.specs.Prelude.{option_map}
use Rattle.std.proofs.lemmas.Bool.{ltb-false, ltb-true}
use Rattle.sg_base.specs.declared.limits.TheConstants.{MAX_EPOCH, MAX_PLAYS}
use Rattle.sg_base.specs.declared.play.PlayBody.{PlayBody}
use Rattle.sg_base.specs.Keys.{number}
use Rattle.sg_base.specs.Rising.{found, put}
use Rattle.sg_base.proofs.RisingLemmas.{by_equal, found-put, rising-put}
use Rattle.sg_steps.specs.Calls.{with_plays_from}
use Rattle.sg_steps.specs.declared.replies.EnrolReply.TheVariants as enrol
use Rattle.sg_steps.specs.declared.replies.PlaysReply.TheVariants as plays
use Rattle.sg_steps.specs.Epochs.{Added, Given, added_to, batch_for, epoch_with, given, last_epoch, new_plays, nothing_added, played, rows_added, rows_given, with_plays}
use Rattle.sg_steps.specs.State.{AreContent, AreRows, Content, Core, IsNumbered, IsServer, IsStored, Stands, play_at, plays_in, plays_of}
use Rattle.sg_steps.proofs.ChangeLemmas.{plays_other, row_other}
use Rattle.sg_steps.proofs.EpochLemmas.{all_put, more_plays, none_above}
use Rattle.sg_steps.proofs.NumberLemmas.{apart_above, apart_below, eight_nine, epoch_ge, epoch_lt, epoch_same, le_le, lt_le, piece_ge, play_ge, play_lt, play_same, ten_eleven}
use Rattle.sg_edits.proofs.StandLemmas.{rows_same, table_put}
use Rattle.sg_keeper.specs.Changes.{with_row}
use Rattle.sg_records.specs.declared.epoch.Epoch.{Epoch}
use Rattle.sg_records.specs.Clients.{client_number}
use Rattle.sg_records.specs.Numbers.{epoch_bytes, epoch_number, piece_number, play_bytes, play_number}
use Rattle.sg_records.specs.Saved.{IsSavedText}
use Rattle.sg_tables.specs.Entries.{number_of_kept}

-- ---- numbers that aren't one

no_epoch_piece : (x : Epoch) → x.display < 2 ^ 32 → x.epoch < 2 ^ 32 → (m i : ℕ) → epoch_number x ≡ piece_number m i → ⊥
no_epoch_piece x low small m i = apart_above (epoch_number x) (piece_number m i) (number 10 0 0) (epoch_lt x.display x.epoch low small) (le_le (number 10 0 0) (number 11 0 0) (piece_number m i) ten_eleven (piece_ge m i))

no_epoch_play : (x : Epoch) → x.display < 2 ^ 32 → x.epoch < 2 ^ 32 → (d e n : ℕ) → epoch_number x ≡ play_number d e n → ⊥
no_epoch_play x low small d e n = apart_above (epoch_number x) (play_number d e n) (number 10 0 0) (epoch_lt x.display x.epoch low small) (play_ge d e n)

number_fits : (have count j : ℕ) → j < have + 1 + count → have + count < 2 ^ 32 → j < 2 ^ 64
number_fits have count j more fits = omega arith

wide_number : (n : ℕ) → n < 2 ^ 32 → n < 2 ^ 64
wide_number n h = omega arith

next_fits : (n : ℕ) → n < 65535 → n + 1 < 2 ^ 32
next_fits n h = omega arith

above_last : (n : ℕ) → n < n + 1
above_last n = omega arith

most_fits : (n limit : ℕ) → n ≤ limit → limit ≤ 4294967294 → n < 2 ^ 32
most_fits n limit x y = omega arith

zero_least : (n : ℕ) → 0 ≤ n
zero_least n = omega arith

-- ---- an epoch that is put

rows_epoch : (core : Core) (rows : ℕ → Option (List ℕ)) (x : Epoch) → x.display < 2 ^ 32 → x.epoch < 2 ^ 32 → AreRows core rows → AreRows (record core { epochs = put epoch_number x core.epochs }) (with_row (epoch_number x) (Some (epoch_bytes x)) rows)
rows_epoch core rows x low small r = record {
  rows = λ n lt. subst (IsStored IsSavedText (found number_of_kept n core.rows)) (sym (row_other (epoch_number x) (Some (epoch_bytes x)) rows n (apart_below (epoch_number x) n (number 9 0 0) (lt_le n (number 8 0 0) (number 9 0 0) lt eight_nine) (epoch_ge x.display x.epoch)))) (r.rows n lt);
  clients = λ n ge lt. row_other (epoch_number x) (Some (epoch_bytes x)) rows n (apart_below (epoch_number x) n (number 9 0 0) lt (epoch_ge x.display x.epoch)) ∙ r.clients n ge lt;
  epochs = λ n ge lt. table_put epoch_number epoch_bytes x core.epochs rows n (r.epochs n ge lt);
}

-- how many plays an epoch has after one was put
plays_put : (x : Epoch) (es : List Epoch) (d e n : ℕ) → d < 2 ^ 32 → e < 2 ^ 32 → x.display < 2 ^ 32 → x.epoch < 2 ^ 32 → (d ≡ x.display → e ≡ x.epoch → x.plays ≡ n) → ((number 9 x.display x.epoch ≡ number 9 d e → ⊥) → plays_of d e es ≡ n) → plays_of d e (put epoch_number x es) ≡ n
plays_put x es d e n low small fits few here there =
    ap plays_in (found-put epoch_number (number 9 d e) x es)
    ∙ by_equal (epoch_number x) (number 9 d e) (λ b. plays_in (cond b (Some x) (found epoch_number (number 9 d e) es)) ≡ n)
    (λ is. let same = epoch_same x.display x.epoch d e few small is in here (sym same.0) (sym same.1)) there

pub stands_new_epoch : (core : Core) (content : Content) (rows : ℕ → Option (List ℕ)) (x : Epoch) → x.display < 2 ^ 32 → x.epoch < 2 ^ 32 → x.plays ≡ 0 → found epoch_number (epoch_number x) core.epochs ≡ None → Stands core content rows
    → Stands (record core { epochs = put epoch_number x core.epochs }) content (with_row (epoch_number x) (Some (epoch_bytes x)) rows)
stands_new_epoch core content rows x low small zero none s = record {
  rows = rows_epoch core rows x low small s.rows;
  content = record {
    received = s.content.received;
    pieces = λ m i fits few. row_other (epoch_number x) (Some (epoch_bytes x)) rows (piece_number m i) (no_epoch_piece x low small m i) ∙ s.content.pieces m i fits few;
    counts = λ d e fits few. plays_put x core.epochs d e (length (content.plays d e)) fits few low small
        (λ same is.
        let old : plays_of d e core.epochs ≡ 0 = ap (λ k. plays_in (found epoch_number k core.epochs)) (ap (λ a. number 9 a e) same ∙ ap (number 9 x.display) is) ∙ ap plays_in none in
        zero ∙ (sym old ∙ s.content.counts d e fits few))
        (λ _. s.content.counts d e fits few);
    plays = λ d e n fits few lt. row_other (epoch_number x) (Some (epoch_bytes x)) rows (play_number d e n) (no_epoch_play x low small d e n) ∙ s.content.plays d e n fits few lt;
  };
}

both : (d e a b : ℕ) (P : Bool → Type 0) → (d ≡ a → e ≡ b → P true) → ((d ≡ a → e ≡ b → ⊥) → P false) → P (eqb d a && eqb e b)
both d e a b P here there = by_equal d a (λ t. P (t && eqb e b))
    (λ same. by_equal e b P (λ is. here same is) (λ ne. there (λ _ is. ne is)))
    (λ ne. there (λ same _. ne same))

its_plays : (core : Core) (content : Content) (rows : ℕ → Option (List ℕ)) (x : Epoch) (have : ℕ) (new : List PlayBody) (d e n : ℕ) → x.display < 2 ^ 32 → x.epoch < 2 ^ 32 → have ≡ length (content.plays x.display x.epoch) → have + length new < 2 ^ 32 → d ≡ x.display → e ≡ x.epoch → n < 2 ^ 32 → Stands core content rows
    → with_plays_from x.display x.epoch (have + 1) new rows (play_number d e n) ≡ option_map play_bytes (play_at n (content.plays d e ++ new))
its_plays core content rows x have new d e n low small long fits same is lt s =
    let old : List PlayBody = content.plays x.display x.epoch in
    let here : play_number d e n ≡ play_number x.display x.epoch n = ap (λ a. play_number a e n) same ∙ ap (λ b. play_number x.display b n) is in
    let list : content.plays x.display x.epoch ≡ content.plays d e = ap (λ a. content.plays a x.epoch) (sym same) ∙ ap (content.plays d) (sym is) in
    ap (with_plays_from x.display x.epoch (have + 1) new rows) here
    ∙ (ap (λ k. with_plays_from x.display x.epoch (k + 1) new rows (play_number x.display x.epoch n)) long
    ∙ (more_plays x.display x.epoch (content.plays x.display x.epoch) new rows (subst (λ v. v + length new < 2 ^ 32) long fits) (λ m few. s.content.plays x.display x.epoch m low small few) n lt
    ∙ ap (λ l. option_map play_bytes (play_at n (l ++ new))) list))

pub stands_plays : (core : Core) (content : Content) (rows : ℕ → Option (List ℕ)) (x : Epoch) (have : ℕ) (new : List PlayBody) → x.display < 2 ^ 32 → x.epoch < 2 ^ 32 → plays_of x.display x.epoch core.epochs ≡ have → have + length new ≡ x.plays → x.plays < 2 ^ 32 → Stands core content rows
    → Stands (record core { epochs = put epoch_number x core.epochs }) (with_plays x.display x.epoch new content)
    (with_row (epoch_number x) (Some (epoch_bytes x)) (with_plays_from x.display x.epoch (have + 1) new rows))
stands_plays core content rows x have new low small had total fits s =
    let d0 : ℕ = x.display in let e0 : ℕ = x.epoch in
    let qs : ℕ → Option (List ℕ) = with_plays_from x.display x.epoch (have + 1) new rows in
    let long : have ≡ length (content.plays x.display x.epoch) = sym had ∙ s.content.counts x.display x.epoch low small in
    record {
      rows = rows_epoch core qs x low small (rows_same core rows qs (λ n lt. plays_other x.display x.epoch (have + 1) new rows n (λ i ge more. apart_below (play_number x.display x.epoch i) n (number 10 0 0) lt (play_ge x.display x.epoch i))) s.rows);
      content = record {
        received = s.content.received;
        pieces = λ m i wide few. row_other (epoch_number x) (Some (epoch_bytes x)) qs (piece_number m i) (no_epoch_piece x low small m i)
            ∙ (plays_other x.display x.epoch (have + 1) new rows (piece_number m i) (λ j ge more. apart_above (play_number x.display x.epoch j) (piece_number m i) (number 11 0 0) (play_lt x.display x.epoch j low small (number_fits have (length new) j more (subst (λ v. v < 2 ^ 32) (sym total) fits))) (piece_ge m i)) ∙ s.content.pieces m i wide few);
        counts = λ d e wide few. both d e x.display x.epoch (λ t. plays_of d e (put epoch_number x core.epochs) ≡ length (cond t (content.plays d e ++ new) (content.plays d e)))
            (λ same is. plays_put x core.epochs d e (length (content.plays d e ++ new)) wide few low small
            (λ _ _. sym total ∙ (ap (λ k. k + length new) (long ∙ ap (λ a. length (content.plays a x.epoch)) (sym same) ∙ ap (λ b. length (content.plays d b)) (sym is)) ∙ sym (length-append (content.plays d e) new)))
            (λ ne. absurd (ne (ap (λ a. number 9 a x.epoch) (sym same) ∙ ap (number 9 d) (sym is)))))
            (λ ne. plays_put x core.epochs d e (length (content.plays d e)) wide few low small (λ same is. absurd (ne same is)) (λ _. s.content.counts d e wide few));
        plays = λ d e n wide few lt. row_other (epoch_number x) (Some (epoch_bytes x)) qs (play_number d e n) (no_epoch_play x low small d e n)
            ∙ both d e x.display x.epoch (λ t. qs (play_number d e n) ≡ option_map play_bytes (play_at n (cond t (content.plays d e ++ new) (content.plays d e))))
            (λ same is. its_plays core content rows x have new d e n low small long (subst (λ v. v < 2 ^ 32) (sym total) fits) same is lt s)
            (λ ne. plays_other x.display x.epoch (have + 1) new rows (play_number d e n) (λ j ge more q. let same = play_same x.display x.epoch j d e n low small (number_fits have (length new) j more (subst (λ v. v < 2 ^ 32) (sym total) fits)) wide few (wide_number n lt) q in ne (sym same.0) (sym same.1)) ∙ s.content.plays d e n wide few lt);
      };
    }

-- ---- the calls

nothing : (content : Content) (a b d e : ℕ) → (with_plays a b [] content).plays d e ≡ content.plays d e
nothing content a b d e = both d e a b (λ t. cond t (content.plays d e ++ []) (content.plays d e) ≡ content.plays d e) (λ _ _. append-nil (content.plays d e)) (λ _. refl)

stands_nothing : (core : Core) (content : Content) (rows : ℕ → Option (List ℕ)) (a b : ℕ) → Stands core content rows → Stands core (with_plays a b [] content) rows
stands_nothing core content rows a b s = record {
  rows = s.rows;
  content = record {
    received = s.content.received;
    pieces = s.content.pieces;
    counts = λ d e low small. s.content.counts d e low small ∙ sym (ap length (nothing content a b d e));
    plays = λ d e n low small lt. s.content.plays d e n low small lt ∙ sym (ap (λ l. option_map play_bytes (play_at n l)) (nothing content a b d e));
  };
}

pub stands_given : (core : Core) (content : Content) (rows : ℕ → Option (List ℕ)) (display : ℕ) → display < 2 ^ 32 → IsServer core → Stands core content rows
    → Stands (record core { epochs = (given display core.epochs).epochs }) content (rows_given display core.epochs rows)
stands_given core content rows display low server s =
    elim (nat_lt (last_epoch display core.epochs) MAX_EPOCH) as (λ b. nat_lt (last_epoch display core.epochs) MAX_EPOCH ≡ b →
    Stands (record core { epochs = (cond {A = Given} b (record { epochs = put epoch_number (epoch_with display (last_epoch display core.epochs + 1) 0) core.epochs; reply = enrol.Epoch (last_epoch display core.epochs + 1) }) (record { epochs = core.epochs; reply = enrol.EpochsSpent })).epochs })
    content (cond b (with_row (number 9 display (last_epoch display core.epochs + 1)) (Some (epoch_bytes (epoch_with display (last_epoch display core.epochs + 1) 0))) rows) rows)) [
      | true ↦ (λ is.
          let few = ltb-true (last_epoch display core.epochs) MAX_EPOCH is in
          stands_new_epoch core content rows (epoch_with display (last_epoch display core.epochs + 1) 0) low (next_fits (last_epoch display core.epochs) few) refl
          (none_above display (last_epoch display core.epochs + 1) core.epochs (next_fits (last_epoch display core.epochs) few) low server.numbered (above_last (last_epoch display core.epochs))) s)
      | false ↦ (λ _. s)
    ] refl

-- what a batch leaves
abbrev Leaves : Core → Content → (ℕ → Option (List ℕ)) → ℕ → ℕ → ℕ → Added → Type 0
Leaves core content rows d e have a = Stands (record core { epochs = a.epochs }) (with_plays d e a.added content) (rows_added d e have a.added rows)

leaves_new : (core : Core) (content : Content) (rows : ℕ → Option (List ℕ)) (d e have : ℕ) (new : List PlayBody) → d < 2 ^ 32 → e < 2 ^ 32 → core.limit ≤ MAX_PLAYS → plays_of d e core.epochs ≡ have → Stands core content rows
    → Leaves core content rows d e have (added_to core.limit d e core.epochs have new)
leaves_new core content rows d e have [] low small limit had s = stands_nothing core content rows d e s
leaves_new core content rows d e have (p ∷ ps) low small limit had s =
    elim (nat_lt core.limit (have + length (p ∷ ps))) as (λ b. nat_lt core.limit (have + length (p ∷ ps)) ≡ b → Leaves core content rows d e have (cond {A = Added} b (nothing_added core.epochs (plays.PlaysFull core.limit)) (record {
      epochs = put epoch_number (epoch_with d e (have + length (p ∷ ps))) core.epochs;
      reply = plays.Next (have + length (p ∷ ps) + 1);
      added = p ∷ ps;
    }))) [
      | true ↦ (λ _. stands_nothing core content rows d e s)
      | false ↦ (λ is.
          let few = ltb-false core.limit (have + length (p ∷ ps)) is in
          stands_plays core content rows (epoch_with d e (have + length (p ∷ ps))) have (p ∷ ps) low small had refl (most_fits (have + length (p ∷ ps)) core.limit few limit) s)
    ] refl

leaves_for : (core : Core) (content : Content) (rows : ℕ → Option (List ℕ)) (d e first : ℕ) (batch : List PlayBody) (known : Option Epoch) → d < 2 ^ 32 → e < 2 ^ 32 → core.limit ≤ MAX_PLAYS → found epoch_number (number 9 d e) core.epochs ≡ known → Stands core content rows
    → Leaves core content rows d e (plays_of d e core.epochs) (batch_for core.limit d e core.epochs first batch known)
leaves_for core content rows d e first batch None low small limit is s = stands_nothing core content rows d e s
leaves_for core content rows d e first batch (Some x) low small limit is s =
    let had : plays_of d e core.epochs ≡ x.plays = ap plays_in is in
    elim (nat_lt (x.plays + 1) first) as (λ b. Leaves core content rows d e (plays_of d e core.epochs) (cond {A = Added} b (nothing_added core.epochs (plays.Gap (x.plays + 1))) (added_to core.limit d e core.epochs x.plays (new_plays x.plays first batch)))) [
      | true ↦ stands_nothing core content rows d e s
      | false ↦ subst (λ n. Leaves core content rows d e n (added_to core.limit d e core.epochs x.plays (new_plays x.plays first batch))) (sym had)
          (leaves_new core content rows d e x.plays (new_plays x.plays first batch) low small limit had s)
    ]

pub stands_played : (core : Core) (content : Content) (rows : ℕ → Option (List ℕ)) (d e first : ℕ) (batch : List PlayBody) → d < 2 ^ 32 → e < 2 ^ 32 → IsServer core → Stands core content rows
    → Leaves core content rows d e (plays_of d e core.epochs) (played core d e first batch)
stands_played core content rows d e first batch low small server s =
    leaves_for core content rows d e first batch (found epoch_number (number 9 d e) core.epochs) low small server.limit refl s

-- ---- what holds of every server

pub server_given : (core : Core) (display : ℕ) → display < 2 ^ 32 → IsServer core → IsServer (record core { epochs = (given display core.epochs).epochs })
server_given core display low server =
    elim (nat_lt (last_epoch display core.epochs) MAX_EPOCH) as (λ b. nat_lt (last_epoch display core.epochs) MAX_EPOCH ≡ b →
    IsServer (record core { epochs = (cond {A = Given} b (record { epochs = put epoch_number (epoch_with display (last_epoch display core.epochs + 1) 0) core.epochs; reply = enrol.Epoch (last_epoch display core.epochs + 1) }) (record { epochs = core.epochs; reply = enrol.EpochsSpent })).epochs })) [
      | true ↦ (λ is.
          let few = ltb-true (last_epoch display core.epochs) MAX_EPOCH is in record {
            limit = server.limit;
            rows = server.rows;
            rising = rising-put epoch_number (epoch_with display (last_epoch display core.epochs + 1) 0) core.epochs server.rising;
            numbered = all_put IsNumbered (epoch_with display (last_epoch display core.epochs + 1) 0) core.epochs (record { display = low; epoch = next_fits (last_epoch display core.epochs) few }) server.numbered;
            few = all_put (λ x. x.plays ≤ core.limit) (epoch_with display (last_epoch display core.epochs + 1) 0) core.epochs (zero_least core.limit) server.few;
          })
      | false ↦ (λ _. server)
    ] refl

server_new : (core : Core) (d e have : ℕ) (new : List PlayBody) → d < 2 ^ 32 → e < 2 ^ 32 → IsServer core → IsServer (record core { epochs = (added_to core.limit d e core.epochs have new).epochs })
server_new core d e have [] low small server = server
server_new core d e have (p ∷ ps) low small server =
    elim (nat_lt core.limit (have + length (p ∷ ps))) as (λ b. nat_lt core.limit (have + length (p ∷ ps)) ≡ b → IsServer (record core {
      epochs = (cond {A = Added} b (nothing_added core.epochs (plays.PlaysFull core.limit)) (record {
        epochs = put epoch_number (epoch_with d e (have + length (p ∷ ps))) core.epochs;
        reply = plays.Next (have + length (p ∷ ps) + 1);
        added = p ∷ ps;
      })).epochs;
    })) [
      | true ↦ (λ _. server)
      | false ↦ (λ is. record {
        limit = server.limit;
        rows = server.rows;
        rising = rising-put epoch_number (epoch_with d e (have + length (p ∷ ps))) core.epochs server.rising;
        numbered = all_put IsNumbered (epoch_with d e (have + length (p ∷ ps))) core.epochs (record { display = low; epoch = small }) server.numbered;
        few = all_put (λ x. x.plays ≤ core.limit) (epoch_with d e (have + length (p ∷ ps))) core.epochs (ltb-false core.limit (have + length (p ∷ ps)) is) server.few;
      })
    ] refl

server_for : (core : Core) (d e first : ℕ) (batch : List PlayBody) (known : Option Epoch) → d < 2 ^ 32 → e < 2 ^ 32 → IsServer core → IsServer (record core { epochs = (batch_for core.limit d e core.epochs first batch known).epochs })
server_for core d e first batch None low small server = server
server_for core d e first batch (Some x) low small server =
    elim (nat_lt (x.plays + 1) first) as (λ b. IsServer (record core { epochs = (cond {A = Added} b (nothing_added core.epochs (plays.Gap (x.plays + 1))) (added_to core.limit d e core.epochs x.plays (new_plays x.plays first batch))).epochs })) [
      | true ↦ server
      | false ↦ server_new core d e x.plays (new_plays x.plays first batch) low small server
    ]

pub server_played : (core : Core) (d e first : ℕ) (batch : List PlayBody) → d < 2 ^ 32 → e < 2 ^ 32 → IsServer core → IsServer (record core { epochs = (played core d e first batch).epochs })
server_played core d e first batch low small server = server_for core d e first batch (found epoch_number (number 9 d e) core.epochs) low small server
