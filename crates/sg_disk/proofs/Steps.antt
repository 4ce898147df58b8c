-- One step of a loop that folds over a list.
use Rattle.std.proofs.Common.{◌≡◌, ℕ, ◌+◌, ◌<◌, List, [], ◌∷◌, length, take, get_or, fold, sym, ◌∙◌, ap}
use Rattle.std.proofs.lemmas.List.{take_more}
use Rattle.std.proofs.lemmas.List.Sums.{fold-append}

pub fold_more : {A B : Type 0} (f : B → A → B) (b : B) (xs : List A) (i : ℕ) (x : A) → i < length xs → x ≡ get_or xs i x → fold f b (take (i + 1) xs) ≡ f (fold f b (take i xs)) x
fold_more {A} f b xs i x lt is = ap (λ (l : List A). fold f b l) (take_more xs i x lt) ∙ fold-append f b (take i xs) (get_or xs i x ∷ []) ∙ ap (λ (y : A). f (fold f b (take i xs)) y) (sym is)
