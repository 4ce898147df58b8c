use Rattle.std.proofs.Common.{◌≡◌, ◌^◌, ◌<◌, All, length, map, take}
use Rattle.sg_pages.specs.Shelves.{stands, IsFilled}
use Rattle.sg_staging.specs.Staged.{whole_files, chosen}
use Rattle.sg_staging.proofs.staging.Staging.choose.Given as goal

abbrev pub invariant-loop-file : goal.invariant-loop-file
invariant-loop-file l = record {
  filled : IsFilled l.next;
  stands_are : stands l.next ≡ map (chosen (whole_files l.current l.self)) (take l.file-index l.files);
  count : length l.next.files ≡ l.file-index;
  ids : All (λ f. f.media.0 < 2 ^ 32) (take l.file-index l.files);
}
