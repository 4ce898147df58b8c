-- A disk in memory, as contracts see it.
use Rattle.std.specs.Prelude.{◌≡◌, ℕ, List, reverse}
use Rattle.sg_disk.specs.View.{View}
use Rattle.sg_disk.specs.Fuse.{stop_of}
use Rattle.sg_disk.specs.History.{picked}
use Rattle.sg_disk.specs.HistoryLaws.{history_view}
use Rattle.sg_disk.specs.declared.fuses.Fuse.{Fuse}
use Rattle.sg_disk.specs.declared.history.Log.{Log}
use Rattle.sg_disk.specs.declared.history.Pick.{Pick}
use Rattle.sg_disk.specs.declared.memory.MemDisk.{MemDisk}

-- it tells what a read gives, and every image that the disk model allows after the calls so far
abbrev pub mem_view : MemDisk → View
mem_view m = history_view m.log.first.items (reverse m.log.calls.items) m.log.fits m.faults
    (stop_of m.fuse)

-- the image that a pick names
abbrev pub image_of : Pick → MemDisk → List ℕ
image_of pick m = picked pick m.log.first.items (reverse m.log.calls.items)

-- what it had at first, and each call that has changed it since
abbrev pub log_of : MemDisk → Log
log_of m = m.log

abbrev pub fuse_of : MemDisk → Fuse
fuse_of m = m.fuse

-- the numbers of the calls that are to fail
abbrev pub failing_of : MemDisk → List ℕ
failing_of m = m.failing.items

-- how many calls have begun
abbrev pub begun_of : MemDisk → ℕ
begun_of m = m.begun

-- the same bytes, images, moments and faults
pub record IsSameDisk (old new : MemDisk) : Type 0 where
  pub bytes : (mem_view new).bytes ≡ (mem_view old).bytes
  pub images : (c : List ℕ) → (mem_view new).images c → (mem_view old).images c
  pub moment : (mem_view new).moment ≡ (mem_view old).moment
  pub since : (t : ℕ) (c : List ℕ) → (mem_view new).since t c → (mem_view old).since t c
  pub faults : (mem_view new).faults ≡ (mem_view old).faults
