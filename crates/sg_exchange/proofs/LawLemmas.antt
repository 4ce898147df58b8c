-- One answer, one outcome, one end.
use Rattle.std.proofs.Common.{◌≡◌, ℕ, ◌<◌, ◌≤◌, ◌^◌, List, ◌++◌, codes, None, Some, refl, sym, ◌∙◌, ap, arith, lit<}
use Rattle.std.specs.declared.option.Option.{Option}
use Rattle.sg_base.specs.declared.limits.TheConstants.{MAX_EPOCH}
use Rattle.sg_http.specs.Replies.{Reading, Reads}
use Rattle.sg_exchange.specs.declared.ends.BatchEnd.{BatchEnd}
use Rattle.sg_exchange.specs.declared.ends.EnrolEnd.{EnrolEnd}
use Rattle.sg_exchange.specs.declared.heard.Wants.{Wants}
use Rattle.sg_exchange.specs.Ends.{BatchEnds, EnrolEnds, Names, batch_end, enrol_end, number_text, next_text, epoch_text}
use Rattle.sg_exchange.specs.Heard.{Outcome, Whole, LinkFault, NotHttp, Cut, Status, Length, ComesTo, outcome_of}
use Rattle.sg_exchange.proofs.NamedLemmas.{one_number}

pub comes_once : ((bytes : List ℕ) (r s : Reading) → Reads bytes r → Reads bytes s → r ≡ s) → (wants : Wants) (answer : Option (List ℕ)) (a b : Outcome)
    → ComesTo wants answer a → ComesTo wants answer b → a ≡ b
comes_once one wants None a b first second = first ∙ sym second
comes_once one wants (Some bytes) a b first second =
    first.2 ∙ ap (outcome_of wants) (one bytes first.0 second.0 first.1 second.1) ∙ sym second.2

names_once : (before bytes : List ℕ) (low high : ℕ) (m n : Option ℕ) → high < 2 ^ 32 → Names (number_text before) low high bytes m
    → Names (number_text before) low high bytes n → m ≡ n
names_once before bytes low high None None small first second = refl
names_once before bytes low high None (Some n) small first second = absurd (first n second.1 second.2 second.0)
names_once before bytes low high (Some m) None small first second = absurd (second m first.1 first.2 first.0)
names_once before bytes low high (Some m) (Some n) small first second =
    ap (λ (k : ℕ). Some k) (one_number before m n (below m high first.2 small) (below n high second.2 small) (sym first.0 ∙ second.0))
  where
    below : (n high : ℕ) → n ≤ high → high < 2 ^ 32 → n < 2 ^ 64
    below n high le small = omega (arith, le, small)

pub batch_once : (first next : ℕ) (outcome : Outcome) (a b : BatchEnd) → next < 2 ^ 32 → BatchEnds first next outcome a → BatchEnds first next outcome b → a ≡ b
batch_once first next (Whole body) a b small x y =
    x.2 ∙ ap batch_end (names_once (codes "{\"next\":") body first next x.0 y.0 small x.1 y.1) ∙ sym y.2
batch_once first next LinkFault a b small x y = x ∙ sym y
batch_once first next NotHttp a b small x y = x ∙ sym y
batch_once first next (Cut got n body) a b small x y = x ∙ sym y
batch_once first next (Status status) a b small x y = x ∙ sym y
batch_once first next (Length got expected) a b small x y = absurd x

pub enrol_once : (outcome : Outcome) (a b : EnrolEnd) → EnrolEnds outcome a → EnrolEnds outcome b → a ≡ b
enrol_once (Whole body) a b x y =
    x.2 ∙ ap enrol_end (names_once (codes "{\"epoch\":") body 1 MAX_EPOCH x.0 y.0 (lit< tt) x.1 y.1) ∙ sym y.2
enrol_once LinkFault a b x y = x ∙ sym y
enrol_once NotHttp a b x y = x ∙ sym y
enrol_once (Cut got n body) a b x y = x ∙ sym y
enrol_once (Status status) a b x y = x ∙ sym y
enrol_once (Length got expected) a b x y = absurd x
