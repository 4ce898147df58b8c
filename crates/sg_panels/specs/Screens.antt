-- What painting makes of screens and spares.
use Rattle.std.specs.Prelude.{◌≡◌, ◌⊎◌, ℕ, ◌+◌, Bool, true, false, List, [], ◌∷◌}
use Rattle.sg_base.specs.declared.ids.MediaId.{MediaId}
use Rattle.sg_base.specs.Causes.{Rose}
use Rattle.sg_devices.specs.Panels.{PanelView}
use Rattle.sg_panels.specs.declared.mark.Marks.{Marks}
use Rattle.sg_panels.specs.declared.paint.Tried.{Tried}
use Rattle.sg_panels.specs.declared.paint.Tried.TheVariants.{Dark, Failed, Painted}
use Rattle.sg_panels.specs.Draws.{Shows}
use Rattle.sg_panels.specs.Reads.{Known}

-- all that contracts see of a screen
pub record ScreenView : Type 0 where
  pub live : Bool
  pub panel : PanelView

abbrev pub screen_view : Bool → PanelView → ScreenView
screen_view live panel = record { live = live; panel = panel }

-- a picture: each region with its medium
abbrev pub Entries : Type 0
Entries = List (ℕ × MediaId)

-- a live screen was painted, and no call of its panel failed
pub record IsPainted (known : Known) (picture : Entries) (old new : ScreenView) : Type 0 where
  pub was : old.live ≡ true
  pub live : new.live ≡ true
  pub shows : Shows known picture old.panel new.panel

-- a live screen was marked: a call of its panel failed, and it is called no more
pub record IsMarked (old new : ScreenView) : Type 0 where
  pub was : old.live ≡ true
  pub live : new.live ≡ false
  pub rose : Rose old.panel.faults new.panel.faults

-- nothing befell the place
abbrev pub no_marks : Marks
no_marks = record { failed = false; spares = 0; replaced = false }

-- its screen was marked, and no spare after it
abbrev pub dropped_once : Marks
dropped_once = record { failed = true; spares = 0; replaced = false }

-- its screen was marked, and the first live spare shows the picture
abbrev pub replaced_once : Marks
replaced_once = record { failed = true; spares = 0; replaced = true }

-- so many spares more were marked
abbrev pub spares_more : ℕ → Marks → Marks
spares_more n marks = record marks { spares = n + marks.spares }

-- One spare is tried in the place of a marked screen, `gone`. Afterwards `new` stands in the place, and `after` among the
-- spares: a dark spare stays where it is, a live one changes places with the marked screen.
abbrev pub TriesOne : Known → Entries → ScreenView → ScreenView → ScreenView → ScreenView → Tried → Type 0
TriesOne known picture gone spare new after Dark = (spare.live ≡ false) × (new ≡ gone) × (after ≡ spare)
TriesOne known picture gone spare new after Failed = IsMarked spare new × (after ≡ gone)
TriesOne known picture gone spare new after Painted = IsPainted known picture spare new × (after ≡ gone)

-- how many spares were marked, after one more was tried
abbrev pub failed_after : ℕ → Tried → ℕ
failed_after n Dark = n
failed_after n Failed = n + 1
failed_after n Painted = n

-- The spares are tried in their order, each in the place of the last screen that was marked there, up to one that shows the
-- picture.
abbrev pub Tries : Known → Entries → ScreenView → List ScreenView → ScreenView → List ScreenView → Marks → Type 0
Tries known picture gone [] new [] marks = (new ≡ gone) × (marks ≡ dropped_once)
Tries known picture gone [] new (r ∷ rs) marks = ⊥
Tries known picture gone (q ∷ qs) new [] marks = ⊥
Tries known picture gone (q ∷ qs) new (r ∷ rs) marks =
    ((q.live ≡ false) × (r ≡ q) × Tries known picture gone qs new rs marks)
    ⊎ (IsPainted known picture q new × (r ≡ gone) × (rs ≡ qs) × (marks ≡ replaced_once))
    ⊎ ((lost : ScreenView) × (later : Marks) × IsMarked q lost × (r ≡ gone) × (marks ≡ spares_more 1 later)
    × Tries known picture lost qs new rs later)

-- One place is painted: a dark screen stays as it is, a live one shows the picture, or is marked and the spares are tried.
abbrev pub Place : Known → Entries → ScreenView → List ScreenView → ScreenView → List ScreenView → Marks → Type 0
Place known picture old spares new after marks =
    ((old.live ≡ false) × (new ≡ old) × (after ≡ spares) × (marks ≡ no_marks))
    ⊎ (IsPainted known picture old new × (after ≡ spares) × (marks ≡ no_marks))
    ⊎ ((gone : ScreenView) × IsMarked old gone × Tries known picture gone spares new after marks)

-- All places are painted, in their order, each with the spares as the places before it left them.
abbrev pub Paints : Known → Entries → List ScreenView → List ScreenView → List ScreenView → List ScreenView
    → List Marks → Type 0
Paints known picture [] spares [] after [] = after ≡ spares
Paints known picture [] spares [] after (m ∷ ms) = ⊥
Paints known picture [] spares (n ∷ ns) after marks = ⊥
Paints known picture (p ∷ ps) spares [] after marks = ⊥
Paints known picture (p ∷ ps) spares (n ∷ ns) after [] = ⊥
Paints known picture (p ∷ ps) spares (n ∷ ns) after (m ∷ ms) =
    (mid : List ScreenView) × Place known picture p spares n mid m × Paints known picture ps mid ns after ms
