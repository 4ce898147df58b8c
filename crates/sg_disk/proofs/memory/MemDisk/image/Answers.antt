use Rattle.std.proofs.Common.{◌≡◌, ℕ, List, Vec, reverse, subst, sym}
use Rattle.std.specs.declared.alloc.Global.{Global}
use Rattle.sg_disk.specs.History.{ImageOf, picked}
use Rattle.sg_disk.proofs.Noted.{if_ok}
use Rattle.sg_disk.proofs.Picks.{picked_image}
use Rattle.sg_disk.proofs.memory.MemDisk.image.Goals as goal

pub returns-clause-image : goal.returns-clause-image
returns-clause-image c =
    let log = c.args.self.now.log in
    let h = reverse log.calls.items in
    if_ok c.image.result _ _ (λ (v : Vec ℕ Global) (is : v.items ≡ picked c.args.pick log.first.items h). subst (λ (b : List ℕ). ImageOf log.first.items h b) (sym is) (picked_image c.args.pick log.first.items h log.fits)) c.image.ensures
