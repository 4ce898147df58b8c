-- What a change of the fuse or of the failing calls leaves.
use Rattle.std.proofs.Common.{ℕ, List, sym, ◌∙◌, ap}
use Rattle.sg_disk.specs.View.{range}
use Rattle.sg_disk.specs.Runs.{HasOne}
use Rattle.sg_disk.specs.Contents.{Contents}
use Rattle.sg_disk.specs.StandsFor.{Settled, Between}
use Rattle.sg_disk.specs.Memory.{mem_view, IsSameDisk}
use Rattle.sg_disk.specs.declared.memory.MemDisk.{MemDisk}

pub settled_same : (old new : MemDisk) (p : Contents) → IsSameDisk old new → Settled (mem_view old) p → Settled (mem_view new) p
settled_same old new p same settled = record { told = tt; each = λ c now. settled.each c (same.images c now) }

pub between_same : (old new : MemDisk) (P : Contents → Type 0) → IsSameDisk old new → Between (mem_view old) P → Between (mem_view new) P
between_same old new P same between = record { told = tt; each = λ c now. between.each c (same.images c now) }

pub one_same : (old new : MemDisk) (place n : ℕ) → IsSameDisk old new → HasOne place n (mem_view old) → HasOne place n (mem_view new)
one_same old new place n same one c now = one c (same.images c now) ∙ ap (λ (b : List ℕ). range b place n) (sym same.bytes)
