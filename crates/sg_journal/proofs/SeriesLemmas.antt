-- How far a list of plays has come, and what acknowledgements leave.
use Rattle.std.proofs.Common.{◌≡◌, inl, inr, ℕ, ◌+◌, ◌<◌, List, [], ◌∷◌, ◌++◌, length, take, get_or, sym, ◌∙◌, ap, subst, arith, append_assoc}
use Rattle.std.proofs.lemmas.List.{append-nil, take_more, take_all}
use Rattle.sg_base.specs.declared.play.PlayBody.{PlayBody}
use Rattle.sg_disk.specs.View.{View}
use Rattle.sg_disk.specs.Runs.{LeavesOnly}
use Rattle.sg_disk.specs.Contents.{Contents, played}
use Rattle.sg_disk.specs.StandsFor.{Two}
use Rattle.sg_contents.specs.StandsFor.{StandsFor, Either, Between}
use Rattle.sg_disk.proofs.Moments.{started, joined, weaker}
use Rattle.sg_journal.specs.declared.journal.Journal.{Journal}
use Rattle.sg_journal.specs.Ready.{IsReady}
use Rattle.sg_journal.specs.Series.{played_all, StandsForSome}

-- the first i plays are recorded
pub record HasCome (p : Contents) (plays : List PlayBody) (i : ℕ) (old new : View) (j : Journal) : Type 0 where
  pub ready : IsReady new j (played_all p (take i plays))
  pub moments : LeavesOnly (StandsForSome p plays) old new

none_played : (p : Contents) → played_all p [] ≡ p
none_played p = ap (λ (xs : List PlayBody). record p { plays = xs }) (append-nil p.plays)

pub come_none : (p : Contents) (plays : List PlayBody) (v : View) (j : Journal) → IsReady v j p → HasCome p plays 0 v v j
come_none p plays v j ready = record {
  ready = subst (λ (q : Contents). IsReady v j q) (sym (none_played p)) ready;
  moments = started v (StandsForSome p plays) (λ c now. record {
    n = 0;
    within = omega arith;
    stands = subst (λ (q : Contents). StandsFor q c) (sym (none_played p)) (ready.settled.each c now);
  });
}

-- one play more
play_more : (p : Contents) (plays : List PlayBody) (i : ℕ) (play : PlayBody) → i < length plays → play ≡ get_or plays i play → played (played_all p (take i plays)) play ≡ played_all p (take (i + 1) plays)
play_more p plays i play lt is =
    ap (λ (xs : List PlayBody). record p { plays = xs })
    (append_assoc p.plays (take i plays) (play ∷ []) ∙ ap (λ (xs : List PlayBody). p.plays ++ xs) (ap (λ (x : PlayBody). take i plays ++ x ∷ []) is ∙ sym (take_more plays i play lt)))

some_more : (p : Contents) (plays : List PlayBody) (i : ℕ) (play : PlayBody) (c : List ℕ) → i < length plays → play ≡ get_or plays i play → Either (played_all p (take i plays)) (played (played_all p (take i plays)) play) c → StandsForSome p plays c
some_more p plays i play c lt is (inl before) = record { n = i; within = omega arith; stands = before }
some_more p plays i play c lt is (inr later) = record { n = i + 1; within = omega arith; stands = subst (λ (q : Contents). StandsFor q c) (play_more p plays i play lt is) later }

pub moments_more : (p : Contents) (plays : List PlayBody) (i : ℕ) (play : PlayBody) (old mid new : View) (j : Journal) → i < length plays → play ≡ get_or plays i play → HasCome p plays i old mid j → ((q : Contents) → IsReady mid j q → LeavesOnly (Either q (played q play)) mid new) → LeavesOnly (StandsForSome p plays) old new
moments_more p plays i play old mid new j lt is come append =
    let q : Contents = played_all p (take i plays) in
    joined old mid new (StandsForSome p plays) come.moments
    (weaker mid new (Either (played_all p (take i plays)) (played (played_all p (take i plays)) play)) (StandsForSome p plays) (λ c either. some_more p plays i play c lt is either) (append (played_all p (take i plays)) come.ready))

pub come_more : (p : Contents) (plays : List PlayBody) (i : ℕ) (play : PlayBody) (old mid new : View) (j next : Journal) → i < length plays → play ≡ get_or plays i play → HasCome p plays i old mid j → ((q : Contents) → IsReady mid j q → LeavesOnly (Either q (played q play)) mid new) → ((q : Contents) → IsReady mid j q → IsReady new next (played q play)) → HasCome p plays (i + 1) old new next
come_more p plays i play old mid new j next lt is come append recorded = record {
  ready = subst (λ (q : Contents). IsReady new next q) (play_more p plays i play lt is) (recorded (played_all p (take i plays)) come.ready);
  moments = moments_more p plays i play old mid new j lt is come append;
}

pub come_all : (p : Contents) (plays : List PlayBody) (old new : View) (j : Journal) → HasCome p plays (length plays) old new j → IsReady new j (played_all p plays)
come_all p plays old new j come = subst (λ (xs : List PlayBody). IsReady new j (played_all p xs)) (take_all (length plays) plays (omega arith)) come.ready

-- the two that a disk is between when an append failed
pub between_more : (p : Contents) (plays : List PlayBody) (i : ℕ) (play : PlayBody) (v : View) → i < length plays → play ≡ get_or plays i play → Between v (Two (played_all p (take i plays)) (played (played_all p (take i plays)) play)) → Between v (Two (played_all p (take i plays)) (played_all p (take (i + 1) plays)))
between_more p plays i play v lt is between = subst (λ (q : Contents). Between v (Two (played_all p (take i plays)) q)) (play_more p plays i play lt is) between
