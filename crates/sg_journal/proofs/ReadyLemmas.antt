-- A journal that is ready stays so: at an acknowledgement, and at a write of another client elsewhere on the disk.
use Rattle.std.proofs.Common.{◌≡◌, ◌⊎◌, ℕ, ◌+◌, ◌-◌, ◌≤◌, List, length, drop, sym, ◌∙◌, ap, subst, arith}
use Rattle.std.proofs.lemmas.List.{drop-drop}
use Rattle.sg_base.specs.declared.play.PlayBody.{PlayBody}
use Rattle.sg_disk.specs.View.{View}
use Rattle.sg_disk.specs.Runs.{Within, Keeps}
use Rattle.sg_disk.specs.Contents.{Contents}
use Rattle.sg_disk.specs.StandsFor.{HoldsPlays, journal_of}
use Rattle.sg_contents.specs.StandsFor.{Settled}
use Rattle.sg_disk.specs.declared.places.TheConstants.{JOURNAL, JOURNAL_LEN}
use Rattle.sg_contents.proofs.Standing.{floor_raised}
use Rattle.sg_disk.proofs.Keeping.{one_keeps, keeps_within}
use Rattle.sg_journal.specs.declared.journal.Journal.{Journal}
use Rattle.sg_journal.specs.Ready.{first_of, next_of, oldest_of, epoch_of, plays_of, Agrees, IsReady}

-- An acknowledgement raises the floor, and nothing else
pub acknowledged_agrees : (j new : Journal) (p : Contents) (area : List ℕ) (next : ℕ) → Agrees j p area → first_of j ≤ next → first_of new ≡ next → next_of new ≡ next_of j → plays_of new ≡ drop (next - first_of j) (plays_of j) → oldest_of new ≡ oldest_of j → epoch_of new ≡ epoch_of j → Agrees new (record p { floor = next }) area
acknowledged_agrees j new p area next agrees low first same_next plays oldest epoch =
    let starts : 1 ≤ j.first = omega (arith, j.starts, j.known) in
    let sum : j.first - 1 + (next - j.first) ≡ next - 1 = omega (arith, low) in
    record {
      held = subst (λ (n : ℕ). HoldsPlays p.epoch n p.plays area) (sym oldest) agrees.held;
      first = first;
      next = same_next ∙ agrees.next;
      plays = plays ∙ ap (λ (l : List PlayBody). drop (next - first_of j) l) agrees.plays ∙ ap (λ (n : ℕ). drop (next - first_of j) (drop (n - 1) p.plays)) (sym agrees.first) ∙ drop-drop (next - first_of j) (first_of j - 1) p.plays ∙ ap (λ (n : ℕ). drop n p.plays) sum;
      epoch = epoch ∙ agrees.epoch;
    }

-- a journal that is ready is so with the floor raised
pub acknowledged_ready : (v : View) (j new : Journal) (p : Contents) (next : ℕ) → IsReady v j p → first_of j ≤ next → ((q : Contents) (area : List ℕ) → Agrees j q area → Agrees new (record q { floor = next }) area) → IsReady v new (record p { floor = next })
acknowledged_ready v j new p next ready low agrees = record {
  settled = record { told = ready.settled.told; each = λ c now. floor_raised p next c (omega (arith, ready.agrees.first, low)) (ready.settled.each c now) };
  one = ready.one;
  agrees = agrees p (journal_of v.bytes) ready.agrees;
}

-- The journal's area stays, and the disk is settled with contents that have the same plays
pub ready_keeps : (v w : View) (j : Journal) (p q : Contents) → IsReady v j p → Settled w q → q.epoch ≡ p.epoch → q.plays ≡ p.plays → q.floor ≡ p.floor → Keeps JOURNAL JOURNAL_LEN v w → IsReady w j q
ready_keeps v w j p q ready settled epoch plays floor keeps =
    let told : v.told = ready.settled.told in
    let same : journal_of w.bytes ≡ journal_of v.bytes = keeps.bytes told in
    let here : HoldsPlays p.epoch j.oldest p.plays (journal_of w.bytes) = subst (λ (a : List ℕ). HoldsPlays p.epoch j.oldest p.plays a) (sym same) ready.agrees.held in
    record {
      settled = settled;
      one = one_keeps JOURNAL JOURNAL_LEN v w told ready.one keeps;
      agrees = record {
        held = subst (λ (e : ℕ). HoldsPlays e j.oldest q.plays (journal_of w.bytes)) (sym epoch) (subst (λ (l : List PlayBody). HoldsPlays p.epoch j.oldest l (journal_of w.bytes)) (sym plays) here);
        first = ready.agrees.first ∙ sym floor;
        next = ready.agrees.next ∙ ap (λ (l : List PlayBody). length l + 1) (sym plays);
        plays = ready.agrees.plays ∙ ap (λ (n : ℕ). drop (n - 1) p.plays) (sym floor) ∙ ap (λ (l : List PlayBody). drop (q.floor - 1) l) (sym plays);
        epoch = ready.agrees.epoch ∙ sym epoch;
      };
    }

-- A write outside the journal's area, after which the disk is settled with contents that have the same plays
pub ready_elsewhere : (v w : View) (j : Journal) (p q : Contents) (place n : ℕ) → IsReady v j p → Settled w q → q.epoch ≡ p.epoch → q.plays ≡ p.plays → q.floor ≡ p.floor → (JOURNAL + JOURNAL_LEN ≤ place) ⊎ (place + n ≤ JOURNAL) → Within place n v w → IsReady w j q
ready_elsewhere v w j p q place n ready settled epoch plays floor apart within = ready_keeps v w j p q ready settled epoch plays floor (keeps_within place n JOURNAL JOURNAL_LEN v w apart within)
