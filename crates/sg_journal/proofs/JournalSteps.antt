-- The writes of an append, on a disk that is ready for it.
use Rattle.std.proofs.Common.{◌≡◌, ◌≢◌, ◌⊎◌, inl, inr, ℕ, ◌+◌, ◌-◌, ◌*◌, ◌%◌, ◌^◌, ◌<◌, ◌≤◌, List, [], ◌∷◌, ◌++◌, length, sym, ◌∙◌, ap, subst, arith}
use Rattle.std.proofs.lemmas.Bool.{cases_eq}
use Rattle.std.proofs.lemmas.List.{length_push, drop-append-le}
use Rattle.sg_base.specs.declared.play.PlayBody.{PlayBody}
use Rattle.sg_disk.specs.View.{View, range, put, Torn, Only}
use Rattle.sg_disk.specs.Runs.{LeavesOnly, Within}
use Rattle.sg_disk.specs.Contents.{Contents, IsPlay, played}
use Rattle.sg_contents.specs.Lawful.{IsLawful}
use Rattle.sg_disk.specs.StandsFor.{gate, body, fields, HoldsPlays, IsJournal, journal_of}
use Rattle.sg_contents.specs.StandsFor.{StandsFor, Either}
use Rattle.sg_base.specs.declared.limits.TheConstants.{JOURNAL_RECORDS}
use Rattle.sg_disk.specs.declared.places.TheConstants.{DATA, JOURNAL, JOURNAL_LEN, RECORD_LEN}
use Rattle.sg_contents.proofs.Areas.{recorded, in_area}
use Rattle.sg_contents.proofs.Standing.{settled_read, settled_by, settled_leaves, lawful_played}
use Rattle.sg_disk.proofs.Moments.{joined, weaker}
use Rattle.sg_disk.proofs.Writes.{within_wider, within_joined}
use Rattle.sg_journal.specs.declared.journal.Journal.{Journal}
use Rattle.sg_journal.specs.Ready.{next_of, plays_of, IsReady}
use Rattle.sg_disk.proofs.Areas.{one_written, area_written}
use Rattle.sg_disk.proofs.Parts.{area_byte_written, area_range_written}
use Rattle.sg_journal.proofs.Ring.{still_open, closed, filled, still_closed, opened}

-- a record lies in the journal's area
gate_in : (k : ℕ) → RECORD_LEN * (k % JOURNAL_RECORDS) + 1 ≤ JOURNAL_LEN
gate_in k = omega arith

fields_in : (k : ℕ) → RECORD_LEN * (k % JOURNAL_RECORDS) + 4 + 60 ≤ JOURNAL_LEN
fields_in k = omega arith

pub gate_within : (k place : ℕ) (v w : View) → place ≡ JOURNAL + RECORD_LEN * (k % JOURNAL_RECORDS) → Within place 1 v w → Within JOURNAL JOURNAL_LEN v w
gate_within k place v w at within = within_wider place 1 JOURNAL JOURNAL_LEN v w (omega arith) (omega arith) within

pub fields_within : (k place n : ℕ) (v w : View) → n ≡ 60 → place ≡ JOURNAL + RECORD_LEN * (k % JOURNAL_RECORDS) → Within (place + 4) n v w → Within JOURNAL JOURNAL_LEN v w
fields_within k place n v w long at within = within_wider (place + 4) n JOURNAL JOURNAL_LEN v w (omega arith) (omega arith) within

fields_here : (v w : View) (place n k : ℕ) → n ≡ 60 → place ≡ JOURNAL + RECORD_LEN * k → Within (place + 4) n v w → Within (JOURNAL + (RECORD_LEN * k + 4)) 60 v w
fields_here v w place n k long at within =
    let here : place + 4 ≡ JOURNAL + (RECORD_LEN * k + 4) = omega (arith, at) in
    subst (λ (m : ℕ). Within m 60 v w) here (subst (λ (l : ℕ). Within (place + 4) l v w) long within)

wide_bytes : (v w : View) (k place : ℕ) → place ≡ JOURNAL + RECORD_LEN * (k % JOURNAL_RECORDS) → v.told → Within place 1 v w → Torn JOURNAL JOURNAL_LEN v.bytes w.bytes
wide_bytes v w k place at told within = let wide = gate_within k place v w at within in wide.bytes told

-- the contents with other plays in the journal's area
stands_with : (p : Contents) (plays : List PlayBody) (c d : List ℕ) → Torn JOURNAL JOURNAL_LEN c d → IsLawful (record p { plays = plays }) → IsJournal p.epoch plays p.floor (journal_of d) → StandsFor p c → StandsFor (record p { plays = plays }) d
stands_with p plays c d wide lawful journal stands = recorded p plays p.floor c d wide lawful journal stands

-- the record of the next play
abbrev pub next_record : Journal → ℕ
next_record j = (next_of j - 1) % JOURNAL_RECORDS

-- what the closing of the oldest record needs: a round is full, and its play is acknowledged
pub record IsFullRound (j : Journal) : Type 0 where
  pub round : next_of j ≡ j.oldest + JOURNAL_RECORDS
  pub acknowledged : j.oldest < j.first

pub full_round : (j : Journal) → JOURNAL_RECORDS ≤ next_of j - j.oldest → next_of j < j.first + JOURNAL_RECORDS → IsFullRound j
full_round j long room = record { round = omega (arith, j.ring); acknowledged = omega (arith, j.ring) }

oldest_at : (j : Journal) → IsFullRound j → (j.oldest - 1) % JOURNAL_RECORDS ≡ next_record j
oldest_at j full = omega (arith, full.round, j.starts)

closing_journal : (v : View) (j : Journal) (p : Contents) (area : List ℕ) → IsFullRound j → IsReady v j p → Torn (RECORD_LEN * next_record j) 1 (journal_of v.bytes) area → IsJournal p.epoch p.plays p.floor area
closing_journal v j p area full ready torn = elim (cases_eq (gate area (next_record j)) 1) [
  | inl stands ↦ (j.oldest, omega (arith, j.known, ready.agrees.first), still_open p.epoch j.oldest (next_record j) p.plays (journal_of v.bytes) area (oldest_at j full) (omega (arith, full.round, ready.agrees.next, j.starts)) torn stands ready.agrees.held)
  | inr shut ↦ (j.oldest + 1, omega (arith, full.acknowledged, ready.agrees.first), closed p.epoch j.oldest (next_record j) p.plays (journal_of v.bytes) area (oldest_at j full) (omega (arith, full.round, ready.agrees.next, j.starts)) torn shut ready.agrees.held)
]

-- the closing of the oldest record, at every moment
pub closing_moments : (v w : View) (j : Journal) (place : ℕ) → IsFullRound j → place ≡ JOURNAL + RECORD_LEN * next_record j → Within place 1 v w → (p : Contents) → IsReady v j p → LeavesOnly (StandsFor p) v w
closing_moments v w j place full at within p ready =
    in_area v w p (StandsFor p) JOURNAL JOURNAL_LEN (RECORD_LEN * next_record j) 1 (gate_in (next_of j - 1)) ready.settled ready.one (subst (λ (m : ℕ). Within m 1 v w) at within) (λ c d stands wide torn.
    stands_with p p.plays c d wide stands.lawful (closing_journal v j p (journal_of d) full ready torn) stands)

-- a record that was closed, with its sync
closed_plays : (v w : View) (j : Journal) (p : Contents) (place : ℕ) → IsFullRound j → place ≡ JOURNAL + RECORD_LEN * next_record j → DATA ≤ v.size → Within place 1 v w → (v.told → w.bytes ≡ put v.bytes place (0 ∷ [])) → IsReady v j p → HoldsPlays p.epoch (j.oldest + 1) p.plays (journal_of w.bytes)
closed_plays v w j p place full at size within written ready =
    let told : v.told = ready.settled.told in
    let here : Within (JOURNAL + RECORD_LEN * next_record j) 1 v w = subst (λ (m : ℕ). Within m 1 v w) at within in
    let is : w.bytes ≡ put v.bytes (JOURNAL + RECORD_LEN * next_record j) (0 ∷ []) = written told ∙ ap (λ (m : ℕ). put v.bytes m (0 ∷ [])) at in
    let torn = area_written v w JOURNAL JOURNAL_LEN (RECORD_LEN * next_record j) 1 told (gate_in (next_of j - 1)) here in
    let zero : gate (journal_of w.bytes) (next_record j) ≡ 0 = area_byte_written v.bytes w.bytes JOURNAL JOURNAL_LEN (RECORD_LEN * next_record j) 0 is (omega arith) (omega (arith, size, v.sized told)) in
    let shut : gate (journal_of w.bytes) (next_record j) ≢ 1 = λ one. omega (arith, zero, one) in
    closed p.epoch j.oldest (next_record j) p.plays (journal_of v.bytes) (journal_of w.bytes) (oldest_at j full) (omega (arith, full.round, ready.agrees.next, j.starts)) torn shut ready.agrees.held

pub closing_ready : (v w : View) (j new : Journal) (place : ℕ) → IsFullRound j → new.oldest ≡ j.oldest + 1 → new.first ≡ j.first → new.epoch ≡ j.epoch → plays_of new ≡ plays_of j → place ≡ JOURNAL + RECORD_LEN * next_record j → DATA ≤ v.size → Within place 1 v w → (v.told → w.bytes ≡ put v.bytes place (0 ∷ [])) → (v.told → Only (put v.bytes place (0 ∷ [])) w) → (v.told → w.told) → (p : Contents) → IsReady v j p → IsReady w new p
closing_ready v w j new place full oldest first epoch plays at size within written durable tells p ready =
    let told : v.told = ready.settled.told in
    record {
      settled = settled_leaves v w p told (closing_moments v w j place full at within p ready) tells;
      one = one_written w (put v.bytes place (0 ∷ [])) JOURNAL JOURNAL_LEN (written told) (durable told);
      agrees = record {
        held = subst (λ (n : ℕ). HoldsPlays p.epoch n p.plays (journal_of w.bytes)) (sym oldest) (closed_plays v w j p place full at size within written ready);
        first = first ∙ ready.agrees.first;
        next = ap (λ (n : ℕ). n + length new.plays.items) first ∙ ap (λ (l : List PlayBody). j.first + length l) plays ∙ ready.agrees.next;
        plays = plays ∙ ready.agrees.plays;
        epoch = epoch ∙ ready.agrees.epoch;
      };
    }

-- what the recording of a play needs: its record is free, and it is a play
pub record IsFree (j : Journal) (play : PlayBody) : Type 0 where
  pub free : next_of j < j.oldest + JOURNAL_RECORDS
  pub unspent : next_of j + 1 < 2 ^ 32
  pub is : IsPlay play

free_next : (v : View) (j : Journal) (p : Contents) (play : PlayBody) → IsFree j play → IsReady v j p → length p.plays + 1 < j.oldest + JOURNAL_RECORDS
free_next v j p play free ready = omega (arith, free.free, ready.agrees.next)

next_at : (v : View) (j : Journal) (p : Contents) → IsReady v j p → next_record j ≡ length p.plays % JOURNAL_RECORDS
next_at v j p ready = ap (λ (n : ℕ). (n - 1) % JOURNAL_RECORDS) ready.agrees.next ∙ ap (λ (n : ℕ). n % JOURNAL_RECORDS) (omega arith)

-- the fields of the next play's record, at every moment
filling_journal : (v : View) (j : Journal) (p : Contents) (play : PlayBody) (area : List ℕ) → IsFree j play → IsReady v j p → Torn (RECORD_LEN * next_record j + 4) 60 (journal_of v.bytes) area → HoldsPlays p.epoch j.oldest p.plays area
filling_journal v j p play area free ready torn =
    filled p.epoch j.oldest p.plays (journal_of v.bytes) area (free_next v j p play free ready) (subst (λ (k : ℕ). Torn (RECORD_LEN * k + 4) 60 (journal_of v.bytes) area) (next_at v j p ready) torn) ready.agrees.held

pub filling_moments : (v w : View) (j : Journal) (play : PlayBody) (place n : ℕ) → IsFree j play → n ≡ 60 → place ≡ JOURNAL + RECORD_LEN * next_record j → Within (place + 4) n v w → (p : Contents) → IsReady v j p → LeavesOnly (StandsFor p) v w
filling_moments v w j play place n free long at within p ready =
    in_area v w p (StandsFor p) JOURNAL JOURNAL_LEN (RECORD_LEN * next_record j + 4) 60 (fields_in (next_of j - 1)) ready.settled ready.one (fields_here v w place n (next_record j) long at within) (λ c d stands wide torn.
    stands_with p p.plays c d wide stands.lawful (j.oldest, omega (arith, j.known, ready.agrees.first), filling_journal v j p play (journal_of d) free ready torn) stands)

pub filling_ready : (v w : View) (j : Journal) (play : PlayBody) (place : ℕ) (bs : List ℕ) → IsFree j play → length bs ≡ 60 → place ≡ JOURNAL + RECORD_LEN * next_record j → Within (place + 4) (length bs) v w → (v.told → w.bytes ≡ put v.bytes (place + 4) bs) → (v.told → Only (put v.bytes (place + 4) bs) w) → (v.told → w.told) → (p : Contents) → IsReady v j p → IsReady w j p
filling_ready v w j play place bs free long at within written durable tells p ready =
    let told : v.told = ready.settled.told in
    record {
      settled = settled_leaves v w p told (filling_moments v w j play place (length bs) free long at within p ready) tells;
      one = one_written w (put v.bytes (place + 4) bs) JOURNAL JOURNAL_LEN (written told) (durable told);
      agrees = record {
        held = filling_journal v j p play (journal_of w.bytes) free ready (area_written v w JOURNAL JOURNAL_LEN (RECORD_LEN * next_record j + 4) 60 told (fields_in (next_of j - 1)) (fields_here v w place (length bs) (next_record j) long at within));
        first = ready.agrees.first;
        next = ready.agrees.next;
        plays = ready.agrees.plays;
        epoch = ready.agrees.epoch;
      };
    }

-- the record then has these fields
pub filling_body : (v w : View) (j : Journal) (place : ℕ) (bs : List ℕ) → length bs ≡ 60 → place ≡ JOURNAL + RECORD_LEN * next_record j → DATA ≤ v.size → v.told → w.bytes ≡ put v.bytes (place + 4) bs → body (journal_of w.bytes) (next_record j) ≡ bs
filling_body v w j place bs long at size told written =
    let here : place + 4 ≡ JOURNAL + (RECORD_LEN * next_record j + 4) = omega (arith, at) in
    let is : w.bytes ≡ put v.bytes (JOURNAL + (RECORD_LEN * next_record j + 4)) bs = written ∙ ap (λ (m : ℕ). put v.bytes m bs) here in
    let fits = fields_in (next_of j - 1) in
    ap (λ (n : ℕ). range (journal_of w.bytes) (RECORD_LEN * next_record j + 4) n) (sym long) ∙ area_range_written v.bytes w.bytes JOURNAL JOURNAL_LEN (RECORD_LEN * next_record j + 4) bs is (omega (arith, fits, long)) (omega (arith, fits, long, size, v.sized told))

-- the gate of the next play's record, at every moment
opening_journal : (v : View) (j : Journal) (p : Contents) (play : PlayBody) (area : List ℕ) → IsFree j play → IsReady v j p → body (journal_of v.bytes) (next_record j) ≡ fields j.epoch (next_of j) play → Torn (RECORD_LEN * next_record j) 1 (journal_of v.bytes) area → (gate area (next_record j) ≢ 1 × HoldsPlays p.epoch j.oldest p.plays area) ⊎ (gate area (next_record j) ≡ 1 × HoldsPlays p.epoch j.oldest (p.plays ++ play ∷ []) area)
opening_journal v j p play area free ready has torn =
    let at = next_at v j p ready in
    let here = subst (λ (k : ℕ). Torn (RECORD_LEN * k) 1 (journal_of v.bytes) area) at torn in
    let has_here : body (journal_of v.bytes) (length p.plays % JOURNAL_RECORDS) ≡ fields p.epoch (length p.plays + 1) play = ap (λ (k : ℕ). body (journal_of v.bytes) k) (sym at) ∙ has ∙ ap (λ (e : ℕ). fields e (next_of j) play) ready.agrees.epoch ∙ ap (λ (n : ℕ). fields p.epoch n play) ready.agrees.next in
    elim (cases_eq (gate area (next_record j)) 1) [
      | inl stands ↦ inr (stands, opened p.epoch j.oldest p.plays play (journal_of v.bytes) area (free_next v j p play free ready) here has_here (ap (λ (k : ℕ). gate area k) (sym at) ∙ stands) ready.agrees.held)
      | inr shut ↦ inl (shut, still_closed p.epoch j.oldest p.plays (journal_of v.bytes) area (free_next v j p play free ready) here (λ now. shut (ap (λ (k : ℕ). gate area k) at ∙ now)) ready.agrees.held)
    ]

lawful_next : (v : View) (j : Journal) (p : Contents) (play : PlayBody) → IsFree j play → IsReady v j p → IsLawful p → IsLawful (played p play)
lawful_next v j p play free ready lawful = lawful_played p play (omega (arith, free.unspent, ready.agrees.next)) free.is lawful

pub opening_moments : (v w : View) (j : Journal) (play : PlayBody) (place : ℕ) → IsFree j play → place ≡ JOURNAL + RECORD_LEN * next_record j → (v.told → body (journal_of v.bytes) (next_record j) ≡ fields j.epoch (next_of j) play) → Within place 1 v w → (p : Contents) → IsReady v j p → LeavesOnly (Either p (played p play)) v w
opening_moments v w j play place free at has within p ready =
    in_area v w p (Either p (played p play)) JOURNAL JOURNAL_LEN (RECORD_LEN * next_record j) 1 (gate_in (next_of j - 1)) ready.settled ready.one (subst (λ (m : ℕ). Within m 1 v w) at within) (λ c d stands wide torn.
    elim (opening_journal v j p play (journal_of d) free ready (has ready.settled.told) torn) [
      | inl shut ↦ inl (stands_with p p.plays c d wide stands.lawful (j.oldest, omega (arith, j.known, ready.agrees.first), shut.1) stands)
      | inr open_now ↦ inr (stands_with p (p.plays ++ play ∷ []) c d wide (lawful_next v j p play free ready stands.lawful) (j.oldest, omega (arith, j.known, ready.agrees.first), open_now.1) stands)
    ])

-- the play is recorded
opened_plays : (v w : View) (j : Journal) (p : Contents) (play : PlayBody) (place : ℕ) → IsFree j play → place ≡ JOURNAL + RECORD_LEN * next_record j → DATA ≤ v.size → (v.told → body (journal_of v.bytes) (next_record j) ≡ fields j.epoch (next_of j) play) → Within place 1 v w → (v.told → w.bytes ≡ put v.bytes place (1 ∷ [])) → IsReady v j p → HoldsPlays p.epoch j.oldest (p.plays ++ play ∷ []) (journal_of w.bytes)
opened_plays v w j p play place free at size has within written ready =
    let told : v.told = ready.settled.told in
    let here : Within (JOURNAL + RECORD_LEN * next_record j) 1 v w = subst (λ (m : ℕ). Within m 1 v w) at within in
    let is : w.bytes ≡ put v.bytes (JOURNAL + RECORD_LEN * next_record j) (1 ∷ []) = written told ∙ ap (λ (m : ℕ). put v.bytes m (1 ∷ [])) at in
    let torn = area_written v w JOURNAL JOURNAL_LEN (RECORD_LEN * next_record j) 1 told (gate_in (next_of j - 1)) here in
    let one : gate (journal_of w.bytes) (next_record j) ≡ 1 = area_byte_written v.bytes w.bytes JOURNAL JOURNAL_LEN (RECORD_LEN * next_record j) 1 is (omega arith) (omega (arith, size, v.sized told)) in
    elim (opening_journal v j p play (journal_of w.bytes) free ready (has told) torn) [
      | inl shut ↦ absurd (shut.0 one)
      | inr open_now ↦ open_now.1
    ]

pub opening_ready : (v w : View) (j new : Journal) (play : PlayBody) (place : ℕ) → IsFree j play → new.oldest ≡ j.oldest → new.first ≡ j.first → new.epoch ≡ j.epoch → plays_of new ≡ plays_of j ++ play ∷ [] → place ≡ JOURNAL + RECORD_LEN * next_record j → DATA ≤ v.size → (v.told → body (journal_of v.bytes) (next_record j) ≡ fields j.epoch (next_of j) play) → Within place 1 v w → (v.told → w.bytes ≡ put v.bytes place (1 ∷ [])) → (v.told → Only (put v.bytes place (1 ∷ [])) w) → (v.told → w.told) → (p : Contents) → IsReady v j p → IsReady w new (played p play)
opening_ready v w j new play place free oldest first epoch plays at size has within written durable tells p ready =
    let told : v.told = ready.settled.told in
    let stands = settled_read v p ready.settled in
    let holds = opened_plays v w j p play place free at size has within written ready in
    let one : Only w.bytes w = subst (λ (b : List ℕ). Only b w) (sym (written told)) (durable told) in
    record {
      settled = settled_by w w.bytes (played p play) (tells told) one (stands_with p (p.plays ++ play ∷ []) v.bytes w.bytes (wide_bytes v w (next_of j - 1) place at told within) (lawful_next v j p play free ready stands.lawful) (j.oldest, omega (arith, j.known, ready.agrees.first), holds) stands);
      one = one_written w (put v.bytes place (1 ∷ [])) JOURNAL JOURNAL_LEN (written told) (durable told);
      agrees = record {
        held = subst (λ (n : ℕ). HoldsPlays p.epoch n (p.plays ++ play ∷ []) (journal_of w.bytes)) (sym oldest) holds;
        first = first ∙ ready.agrees.first;
        next = omega (arith, first, ready.agrees.next, ap length plays, length_push (plays_of j) play, length_push p.plays play);
        plays = plays ∙ ap (λ (l : List PlayBody). l ++ play ∷ []) ready.agrees.plays ∙ sym (drop-append-le (p.floor - 1) p.plays (play ∷ []) (omega (arith, ready.agrees.first, ready.agrees.next)));
        epoch = epoch ∙ ready.agrees.epoch;
      };
    }

-- the first of the two writes of a play's record, with its sync
pub record IsFilled (v u : View) (j : Journal) (play : PlayBody) (place : ℕ) (bs : List ℕ) : Type 0 where
  pub free : IsFree j play
  pub long : length bs ≡ 60
  pub is : bs ≡ fields j.epoch (next_of j) play
  pub at : place ≡ JOURNAL + RECORD_LEN * next_record j
  pub fits : DATA ≤ v.size
  pub size : u.size ≡ v.size
  pub within : Within (place + 4) (length bs) v u
  pub written : v.told → u.bytes ≡ put v.bytes (place + 4) bs
  pub durable : v.told → Only (put v.bytes (place + 4) bs) u
  pub tells : v.told → u.told

filled_ready : (v u : View) (j : Journal) (play : PlayBody) (place : ℕ) (bs : List ℕ) → IsFilled v u j play place bs → (p : Contents) → IsReady v j p → IsReady u j p
filled_ready v u j play place bs f p ready = filling_ready v u j play place bs f.free f.long f.at f.within f.written f.durable f.tells p ready

filled_body : (v u : View) (j : Journal) (play : PlayBody) (place : ℕ) (bs : List ℕ) → IsFilled v u j play place bs → v.told → body (journal_of u.bytes) (next_record j) ≡ fields j.epoch (next_of j) play
filled_body v u j play place bs f told = filling_body v u j place bs f.long f.at f.fits told (f.written told) ∙ f.is

-- both writes, at every moment
pub recording_moments : (v u w : View) (j : Journal) (play : PlayBody) (place : ℕ) (bs : List ℕ) → IsFilled v u j play place bs → Within place 1 u w → (p : Contents) → IsReady v j p → LeavesOnly (Either p (played p play)) v w
recording_moments v u w j play place bs f within p ready =
    joined v u w (Either p (played p play))
    (weaker v u (StandsFor p) (Either p (played p play)) (λ c stands. inl stands) (filling_moments v u j play place (length bs) f.free f.long f.at f.within p ready))
    (opening_moments u w j play place f.free f.at (λ _. filled_body v u j play place bs f ready.settled.told) within p (filled_ready v u j play place bs f p ready))

pub recording_ready : (v u w : View) (j new : Journal) (play : PlayBody) (place : ℕ) (bs : List ℕ) → IsFilled v u j play place bs → new.oldest ≡ j.oldest → new.first ≡ j.first → new.epoch ≡ j.epoch → plays_of new ≡ plays_of j ++ play ∷ [] → Within place 1 u w → (u.told → w.bytes ≡ put u.bytes place (1 ∷ [])) → (u.told → Only (put u.bytes place (1 ∷ [])) w) → (u.told → w.told) → (p : Contents) → IsReady v j p → IsReady w new (played p play)
recording_ready v u w j new play place bs f oldest first epoch plays within written durable tells p ready =
    opening_ready u w j new play place f.free oldest first epoch plays f.at (omega (arith, f.fits, f.size)) (λ _. filled_body v u j play place bs f ready.settled.told) within written durable tells p (filled_ready v u j play place bs f p ready)

pub recording_within : (v u w : View) (j : Journal) (play : PlayBody) (place : ℕ) (bs : List ℕ) → IsFilled v u j play place bs → Within place 1 u w → Within JOURNAL JOURNAL_LEN v w
recording_within v u w j play place bs f within =
    within_joined JOURNAL JOURNAL_LEN v u w f.tells (fields_within (next_of j - 1) place (length bs) v u f.long f.at f.within) (gate_within (next_of j - 1) place u w f.at within)
