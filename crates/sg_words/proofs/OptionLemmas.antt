-- What clap finds.
use Rattle.std.proofs.Common.{◌≡◌, ◌⊎◌, ⊎_elim, ℕ, ◌&&◌, Bool, true, false, List, [], ◌∷◌, Option, None, Some, refl, ap}
use Rattle.clap.specs.Words.{App, HasKind, Kinds, Row, found_of, kind_of, rows_of, first_value, first_of, is_simple, is_simple_and_free}
use Rattle.clap.specs.Simple.{built}
use Rattle.clap.specs.Faults.{is_free_app}
use Rattle.clap.specs.declared.error.Error.{Error}
use Rattle.clap.specs.declared.error.kind.ErrorKind.TheVariants as kind
use Rattle.clap.specs.declared.parser.matches.Found.{Found}
use Rattle.clap.proofs.WalkLemmas.{first_value-rows}
use Rattle.sg_words.specs.Options.{found_unless}

-- an error that isn't want of memory is a fault of the words
pub none_found : (kinds : Kinds) (e : Error) (rows : List Row) → HasKind kinds e → (kind_of e ≡ kind.OutOfMemory → ⊥) → None ≡ found_unless kinds rows
none_found [] e rows has other = absurd (⊎_elim other (λ no. no) has)
none_found (k ∷ ks) e rows has other = refl

pub some_found : (kinds : Kinds) (found rows : List Row) → kinds ≡ [] → found ≡ rows → Some found ≡ found_unless kinds rows
some_found [] found rows none same = ap Some same
some_found (k ∷ ks) found rows none same = cc

both_first : (a b : Bool) → (a && b) ≡ true → a ≡ true
both_first true b both = refl
both_first false b both = both

pub simple_of : (a : App) → is_simple_and_free a ≡ true → is_simple a ≡ true
simple_of a both = both_first (is_simple a) (is_free_app (built a)) both

pub value_rows : (f : Found) (id : List ℕ) → first_value f id ≡ first_of id (rows_of f)
value_rows f id = first_value-rows f id
