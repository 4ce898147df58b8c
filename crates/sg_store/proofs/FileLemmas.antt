-- The bytes of staged files, as they stand on a disk.
use Rattle.std.proofs.Common.{◌≡◌, ℕ, zero, suc, ◌≤◌, List, [], ◌∷◌, ◌++◌, length, take, drop, map, All, refl, ◌∙◌, ap, arith}
use Rattle.std.proofs.lemmas.List.{append-nil, take_all, take-take, length-take}
use Rattle.sg_disk.specs.View.{range, Torn}
use Rattle.sg_disk.specs.Contents.{StoredFile, IsClear}
use Rattle.sg_disk.specs.Contents.{Extent}
use Rattle.sg_disk.proofs.Ranges.{range_kept}
use Rattle.sg_placing.specs.Placing.{segment_of, segments_of_placed}
use Rattle.sg_placing.specs.declared.placed.Placed.{Placed}
use Rattle.sg_store.specs.Ready.{bytes_in, bytes_so_far, file_at}
use Rattle.sg_store.specs.declared.store.Half.{Half}

-- the first bytes of a range
range_front : (c : List ℕ) (place k n : ℕ) → k ≤ n → take k (range c place n) ≡ range c place k
unfolding range
range_front c place k n le = take-take k n (drop place c) le

range_short : (c : List ℕ) (place n : ℕ) → length (range c place n) ≤ n
unfolding range
range_short c place n = omega (arith, length-take n (drop place c))

-- what has come of a half staged file
pub so_far : (c : List ℕ) (half : Half) → half.count ≤ half.placed.file.length → bytes_so_far c half ≡ range c half.placed.place half.count
so_far c half fits =
    ap (λ (l : List ℕ). take half.count l) (append-nil (range c half.placed.place half.placed.file.length)) ∙ range_front c half.placed.place half.count half.placed.file.length fits

-- where all of it has come
pub all_so_far : (c : List ℕ) (half : Half) → half.count ≡ half.placed.file.length → bytes_so_far c half ≡ bytes_in c (segments_of_placed half.placed)
all_so_far c half count =
    let all : List ℕ = bytes_in c (segments_of_placed half.placed) in
    let short : length all ≤ half.count = omega (arith, count, ap length (append-nil (range c half.placed.place half.placed.file.length)), range_short c half.placed.place half.placed.file.length) in
    take_all half.count all short

pub none_so_far : (c : List ℕ) (half : Half) → half.count ≡ 0 → bytes_so_far c half ≡ []
none_so_far c half count = ap (λ (n : ℕ). take n (bytes_in c (segments_of_placed half.placed))) count

-- a file where nothing of it is written
file_kept : (place n : ℕ) (c d : List ℕ) (q : Placed) → Torn place n c d → IsClear place n (segment_of q) → file_at d q ≡ file_at c q
file_kept place n c d q torn clear =
    ap (λ (l : List ℕ). with_bytes (l ++ [])) (range_kept place n q.place q.file.length c d torn clear)
  where
    with_bytes : List ℕ → StoredFile
    with_bytes bytes = record { listed = q.file; stand = Extent q.place; bytes = bytes }

pub files_kept : (place n : ℕ) (c d : List ℕ) (files : List Placed) → Torn place n c d → All (λ q. IsClear place n (segment_of q)) files → map (file_at d) files ≡ map (file_at c) files
files_kept place n c d [] torn clear = refl
files_kept place n c d (q ∷ files) torn clear =
    ap (λ (f : StoredFile). f ∷ map (file_at d) files) (file_kept place n c d q torn (clear zero q (omega arith))) ∙ ap (λ (l : List StoredFile). file_at c q ∷ l) (files_kept place n c d files torn (λ k e lt. clear (suc k) e (omega (arith, lt))))
