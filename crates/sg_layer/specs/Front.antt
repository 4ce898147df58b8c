-- What is listed of the normal plays, of which there may be far more than an hour shows. No public clause cites it.
use Rattle.std.specs.Prelude.{◌≡◌, ◌==◌, ℕ, ◌<◌, Bool, if◌then◌else◌, List, [], ◌∷◌, ◌++◌, filter}
use Rattle.sg_base.specs.declared.limits.TheConstants.{HOUR}
use Rattle.sg_voice.specs.declared.play.Play.{Play}
use Rattle.sg_voice.specs.Hour.{total}
use Rattle.sg_layer.specs.declared.entry.Entry.{Entry}
use Rattle.sg_layer.specs.Lists.{plays_of}

-- the entries that are marked
abbrev pub marked : List Bool → List Entry → List Entry
marked [] xs = []
marked (b ∷ bs) [] = []
marked (b ∷ bs) (x ∷ xs) = if b then x ∷ marked bs xs else marked bs xs

-- the plays of the marked entries of a priority
abbrev pub plays_of_marked : ℕ → List Bool → List Entry → List Play
plays_of_marked top bs xs = plays_of (filter (λ x. x.event.priority == top) (marked bs xs))

-- what is listed leads all plays; while it has fewer seconds than an hour, it is followed by what comes next
pub record Leads (listed next all : List Play) : Type 0 where
  pub rest : List Play
  pub split : listed ++ rest ≡ all
  pub more : total listed < HOUR → rest ≡ next

-- the front of all plays: all of them, or as many as fill an hour at least
abbrev pub IsFront : List Play → List Play → Type 0
IsFront listed all = Leads listed [] all
