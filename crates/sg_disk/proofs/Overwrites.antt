-- A write into a part of a slice.
use Rattle.std.proofs.Common.{◌≡◌, ℕ, ◌+◌, List, ◌++◌, length, take, drop, ◌∙◌, ap}
use Rattle.std.proofs.lemmas.List.{drop-drop}
use borrow.Rule.Slice.PartMut.{put_mid}
use Rattle.sg_disk.specs.View.{put}

pub mid_put : (place k : ℕ) (c bs : List ℕ) → k ≡ length bs → put_mid place k c bs ≡ put c place bs
unfolding put
mid_put place k c bs e = ap (λ (d : List ℕ). take place c ++ (bs ++ d)) (drop-drop k place c ∙ ap (λ (n : ℕ). drop (place + n) c) e)
