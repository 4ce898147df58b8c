-- What the bytes of a disk stand for, from call to call.
use Rattle.std.proofs.Common.{◌≡◌, inl, inr, ℕ, ◌+◌, ◌<◌, ◌≤◌, List, [], ◌∷◌, ◌++◌, length, Option, None, Some, MatchOption, All, refl, sym, ap, subst, arith}
use Rattle.std.proofs.lemmas.Bool.{cases_lt}
use Rattle.std.proofs.lemmas.List.{get_or_append_left, get_or_push, length_push}
use Rattle.sg_base.specs.declared.play.PlayBody.{PlayBody}
use Rattle.sg_base.specs.declared.limits.TheConstants.{MAX_PLAYS}
use Rattle.sg_disk.specs.View.{View, Only}
use Rattle.sg_disk.specs.Runs.{LeavesOnly, Quiet}
use Rattle.sg_disk.specs.Contents.{Contents, StoredFile, Change, IsPlay, IsInside, Amid, Along, changed, changed_all, played, switched, taken}
use Rattle.sg_disk.specs.StandsFor.{HoldsPlays, Two, journal_of}
use Rattle.sg_disk.specs.declared.places.TheConstants.{DATA}
use Rattle.sg_disk.proofs.Moments.{at_end, joined, weaker}
use Rattle.sg_disk.proofs.Standing.{along_front, along_more}
use Rattle.sg_contents.specs.Lawful.{IsSnapshot, IsLawful}
use Rattle.sg_contents.specs.StandsFor.{IsFormat, StandsFor, Either, StandsForOne, Settled, Between, Made}

-- what a read gives stands for one of them
pub between_read : (v : View) (P : Contents → Type 0) → Between v P → StandsForOne P v.bytes
between_read v P between = between.each v.bytes (v.reads between.told)

pub settled_read : (v : View) (p : Contents) → Settled v p → StandsFor p v.bytes
settled_read v p settled = settled.each v.bytes (v.reads settled.told)

-- one of a set
pub settled_between : (v : View) (P : Contents → Type 0) (p : Contents) → P p → Settled v p → Between v P
settled_between v P p is settled = record { told = settled.told; each = λ c now. (p, is, settled.each c now) }

-- a larger set
pub between_wider : (v : View) (P Q : Contents → Type 0) → ((p : Contents) → P p → Q p) → Between v P → Between v Q
between_wider v P Q f between = record {
  told = between.told;
  each = λ c now. let one = between.each c now in (one.0, f one.0 one.1, one.2);
}

-- two contents as a set
pub either_one : (p q : Contents) (c : List ℕ) → Either p q c → StandsForOne (Two p q) c
either_one p q c (inl first) = (p, inl refl, first)
either_one p q c (inr second) = (q, inr refl, second)

pub one_either : (p q : Contents) (c : List ℕ) → StandsForOne (Two p q) c → Either p q c
one_either p q c one = elim one.1 [
  | inl first ↦ inl (subst (λ (r : Contents). StandsFor r c) first one.2)
  | inr second ↦ inr (subst (λ (r : Contents). StandsFor r c) second one.2)
]

-- a change that takes place by one byte leaves the contents before it or after it
pub either_amid : (p : Contents) (change : Change) (c : List ℕ) → Either p (changed p change) c → StandsForOne (Amid p change) c
either_amid p change c (inl before) = (p, inl refl, before)
either_amid p change c (inr later) = (changed p change, inr (inl refl), later)

pub either_along : (p : Contents) (change : Change) (c : List ℕ) → Either p (changed p change) c → StandsForOne (Along p (change ∷ [])) c
either_along p change c (inl before) = (p, inl refl, before)
either_along p change c (inr later) = (changed p change, inr (inr refl), later)

-- after a call that failed
pub between_after : (v w : View) (P : Contents → Type 0) → v.told → LeavesOnly (StandsForOne P) v w → (v.told → w.told) → Between w P
between_after v w P told run tells = record { told = tells told; each = at_end v w (StandsForOne P) run }

pub between_either : (v w : View) (p q : Contents) → v.told → LeavesOnly (Either p q) v w → (v.told → w.told) → Between w (Two p q)
between_either v w p q told run tells = between_after v w (Two p q) told (weaker v w (Either p q) (StandsForOne (Two p q)) (either_one p q) run) tells

-- after a sync, and calls that change nothing
pub settled_by : (w : View) (b : List ℕ) (r : Contents) → w.told → Only b w → StandsFor r b → Settled w r
settled_by w b r told only stands = record { told = told; each = λ c now. subst (λ (d : List ℕ). StandsFor r d) (sym (only c now)) stands }

pub settled_quiet : (n : ℕ) (v w : View) (p : Contents) → Quiet n v w → Settled v p → Settled w p
settled_quiet n v w p quiet settled = record {
  told = quiet.ran.told settled.told;
  each = λ c now. settled.each c (at_end v w v.images quiet.moments c now);
}

-- calls that left the disk as it is
pub settled_unchanged : (v w : View) (p : Contents) → LeavesOnly v.images v w → (v.told → w.told) → Settled v p → Settled w p
settled_unchanged v w p run tells settled = record { told = tells settled.told; each = λ c now. settled.each c (at_end v w v.images run c now) }

-- a run that leaves only these contents
pub settled_leaves : (v w : View) (p : Contents) → v.told → LeavesOnly (StandsFor p) v w → (v.told → w.told) → Settled w p
settled_leaves v w p told run tells = record { told = tells told; each = at_end v w (StandsFor p) run }

-- another floor, and other plays
pub lawful_recorded : (p : Contents) (plays : List PlayBody) (floor : ℕ) → All IsPlay plays → length plays ≤ MAX_PLAYS → 1 ≤ floor → IsLawful p → IsLawful (record p { plays = plays; floor = floor })
lawful_recorded p plays floor are few low lawful = record {
  display = lawful.display;
  epoch = lawful.epoch;
  room = lawful.room;
  snapshot = lawful.snapshot;
  plays = are;
  few = few;
  floor = low;
}

-- a greater floor asks no more
pub lawful_floor : (p : Contents) (floor : ℕ) → p.floor ≤ floor → IsLawful p → IsLawful (record p { floor = floor })
lawful_floor p floor le lawful = lawful_recorded p p.plays floor lawful.plays lawful.few (omega (arith, le, lawful.floor)) lawful

pub floor_raised : (p : Contents) (floor : ℕ) (c : List ℕ) → p.floor ≤ floor → StandsFor p c → StandsFor (record p { floor = floor }) c
floor_raised p floor c le stands = record {
  lawful = lawful_floor p floor le stands.lawful;
  header = stands.header;
  format = stands.format;
  files = stands.files;
  journal = let from = stands.journal in (from.0, omega (arith, le, from.1), from.2);
}

-- the same contents, with the floor where the records begin
pub stands_from : (r : Contents) (c : List ℕ) (from : ℕ) → 1 ≤ from → HoldsPlays r.epoch from r.plays (journal_of c) → StandsFor r c → StandsFor (record r { floor = from }) c
stands_from r c from low holds stands = record {
  lawful = lawful_recorded r r.plays from stands.lawful.plays stands.lawful.few low stands.lawful;
  header = stands.header;
  format = stands.format;
  files = stands.files;
  journal = (from, omega arith, holds);
}

-- one play more is lawful while there is room for it
plays_more : (plays : List PlayBody) (play : PlayBody) → All IsPlay plays → IsPlay play → All IsPlay (plays ++ play ∷ [])
plays_more plays play all is k d lt =
    elim (cases_lt k (length plays)) [
      | inl before ↦ subst IsPlay (sym (get_or_append_left plays (play ∷ []) d k before)) (all k d before)
      | inr past ↦
          let at : length plays ≡ k = omega (arith, length_push plays play) in
          subst IsPlay (sym (get_or_push plays play d k at)) is
    ]

pub lawful_played : (p : Contents) (play : PlayBody) → length p.plays < MAX_PLAYS → IsPlay play → IsLawful p → IsLawful (played p play)
lawful_played p play room is lawful = lawful_recorded p (p.plays ++ play ∷ []) p.floor (plays_more p.plays play lawful.plays is) (omega (arith, room, length_push p.plays play)) lawful.floor lawful

-- a new snapshot
pub lawful_switched : (p : Contents) (text : List ℕ) (files : List StoredFile) → IsSnapshot p.room (p.number + 1) text files → IsLawful p → IsLawful (switched p text files)
lawful_switched p text files snapshot lawful = record {
  display = lawful.display;
  epoch = lawful.epoch;
  room = lawful.room;
  snapshot = snapshot;
  plays = lawful.plays;
  few = lawful.few;
  floor = lawful.floor;
}

-- all that the files of lawful contents take lies in the data area
inside_of : (room number : ℕ) (text : Option (List ℕ)) (files : List StoredFile) → MatchOption text ((number ≡ 0) × (files ≡ [])) (λ t. IsSnapshot room number t files) → All (λ f. All (IsInside room) (taken f)) files
inside_of room number None files none k d lt = absurd (omega (arith, lt, ap length none.1))
inside_of room number (Some t) files snapshot k d lt = snapshot.inside k d lt

pub lawful_inside : (p : Contents) → IsLawful p → All (λ f. All (IsInside p.room) (taken f)) p.files
lawful_inside p lawful = inside_of p.room p.number p.text p.files lawful.snapshot

-- the disk has the whole data area
long_format : (room number : ℕ) (text : Option (List ℕ)) (files seals : List StoredFile) (c : List ℕ) → IsFormat room number text files seals c → DATA + room ≤ length c
long_format room number text files seals c (inl old) = elim old.size [
  | inl short ↦ omega (arith, short)
  | inr whole ↦ omega (arith, whole)
]
long_format room number text files seals c (inr new) = omega (arith, new.size)

pub stands_long : (p : Contents) (c : List ℕ) → StandsFor p c → DATA + p.room ≤ length c
stands_long p c stands = long_format p.room p.number p.text p.files p.seals c stands.format

-- what calls made of the contents, and then others
pub made_joined : (first rest : List Change) (u v w : View) (p : Contents) → Made first u v p → Made rest v w (changed_all p first) → Made (first ++ rest) u w p
made_joined first rest u v w p one two = record {
  moments = joined u v w (StandsForOne (Along p (first ++ rest)))
      (weaker u v (StandsForOne (Along p first)) (StandsForOne (Along p (first ++ rest))) (λ c is. (is.0, along_front p first rest is.0 is.1, is.2)) one.moments)
      (weaker v w (StandsForOne (Along (changed_all p first) rest)) (StandsForOne (Along p (first ++ rest))) (λ c is. (is.0, along_more p first rest is.0 is.1, is.2)) two.moments);
  told = λ told. two.told (one.told told);
}

-- the changes are over, with the disk settled
pub made_settled : (v w : View) (p : Contents) → v.told → Made [] v w p → Settled w p
made_settled v w p told made = record {
  told = made.told told;
  each = λ c now. let one = at_end v w (StandsForOne (Along p [])) made.moments c now in subst (λ (r : Contents). StandsFor r c) one.1 one.2;
}
