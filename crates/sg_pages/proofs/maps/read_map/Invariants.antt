use Rattle.std.proofs.Common.{◌≡◌, ◌+◌, ◌-◌, ◌≤◌, List, ◌++◌, length, vec_len, vec_capacity}
use Rattle.sg_disk.specs.Contents.{Segment}
use Rattle.sg_pages.specs.Pages.{Marks}
use Rattle.sg_pages.specs.Maps.{pages_of}
use Rattle.sg_pages.proofs.MapLemmas.{ReadsMap}
use Rattle.sg_pages.proofs.maps.read_map.Given as goal

abbrev pub invariant-loop-index : goal.invariant-loop-index
invariant-loop-index l = record {
  long : length l.set ≡ length l.fn.set;
  room : vec_len l.pages + (l.count - l.index) ≤ vec_capacity l.pages;
  kept : vec_capacity l.fn.pages ≤ vec_capacity l.pages;
  pages : l.pages.items ≡ l.fn.pages.items ++ pages_of l.bytes l.index;
  reads : (taken : List Segment) → Marks taken l.fn.set → ReadsMap taken (length l.fn.set) l.count l.bytes l.index l.set;
}
