use Rattle.std.proofs.Common.{◌≡◌, ◌∙◌, ◌&&◌, ◌==◌, ℕ, List, ap, sym}
use Rattle.std.specs.Bool.{Decides}
use Rattle.std.proofs.lemmas.Bool.Decides.{Decides-and, Decides-eqb, Decides-like}
use Rattle.std.proofs.lemmas.Slice.Eq.{slice_eq-Decides}
use Rattle.sg_base.specs.declared.ids.MediaId.{MediaId}
use Rattle.sg_playing.specs.Scenes.{SceneView}
use Rattle.sg_playing.proofs.scene.Scene.is_same.Goals as goal

entry_same : (a b : ℕ × MediaId) → a.0 ≡ b.0 → a.1.0 ≡ b.1.0 → a ≡ b
entry_same a b region media = ap (λ (n : ℕ). (n, a.1)) region ∙ ap (λ (n : ℕ). (b.0, record { 0 = n })) media

entry_decides : (a b : ℕ × MediaId) → Decides ((a.0 == b.0) && (a.1.0 == b.1.0)) (a ≡ b)
entry_decides a b =
    Decides-like ((a.0 == b.0) && (a.1.0 == b.1.0)) (λ both. entry_same a b both.0 both.1)
    (λ same. (ap (λ (e : ℕ × MediaId). e.0) same, ap (λ (e : ℕ × MediaId). e.1.0) same))
    (Decides-and (a.0 == b.0) (a.1.0 == b.1.0) (Decides-eqb a.0 b.0) (Decides-eqb a.1.0 b.1.0))

scene_same : (a b : SceneView) → a.number ≡ b.number → a.entries ≡ b.entries → a ≡ b
scene_same a b number entries =
    ap (λ (n : ℕ). record a { number = n }) number ∙ ap (λ (l : List (ℕ × MediaId)). record b { entries = l }) entries

pub returns-then-self-other : goal.returns-then-self-other
returns-then-self-other c =
    let number : c.args.self.now.number ≡ c.args.other.now.number =
    sym (ap (λ (s : SceneView). s.number) c.self.view_is) ∙ c.if-self-other.true ∙ ap (λ (s : SceneView). s.number) c.other.view_is in
    let decides : Decides c.eq.result (c.entries.result.now ≡ c.entries-then-self-other.result.now) =
    slice_eq-Decides entry_decides c.entries.result.now c.entries-then-self-other.result.now c.eq.result c.eq.ensures in (
      λ yes. scene_same c.args.self.now c.args.other.now number (sym c.entries.ensures ∙ decides.0 yes ∙ c.entries-then-self-other.ensures),
      λ same. decides.1 (c.entries.ensures ∙ ap (λ (s : SceneView). s.entries) same ∙ sym c.entries-then-self-other.ensures),
    )
