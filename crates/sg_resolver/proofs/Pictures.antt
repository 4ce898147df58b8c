-- A picture as its entries are added.
use Rattle.std.proofs.Common.{◌≡◌, ℕ, ◌+◌, ◌<◌, List, [], ◌∷◌, ◌++◌, length, map, take, get_or, refl}
use Rattle.std.proofs.lemmas.List.{take_more, map-append}
use Rattle.sg_base.specs.declared.ids.MediaId.{MediaId}
use Rattle.sg_base.specs.declared.layout.Region.{Region}
use Rattle.sg_base.specs.Layout.{medium_at}

-- one entry more is that of one region more
pub one_more : (rs : List Region) (i offset : ℕ) (r : Region) (m : MediaId) (so_far : List (ℕ × MediaId)) → i < length rs → r ≡ get_or rs i r → m ≡ medium_at r offset
    → so_far ≡ map (λ q. (q.id, medium_at q offset)) (take i rs) → so_far ++ (r.id, m) ∷ [] ≡ map (λ q. (q.id, medium_at q offset)) (take (i + 1) rs)
one_more rs i offset r m so_far inside is shown done = rw (take_more rs i r inside, ← is, map-append, done, shown) refl
