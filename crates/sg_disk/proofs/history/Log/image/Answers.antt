use Rattle.std.proofs.Common.{rules, ◌≡◌, List, drop, sym, ◌∙◌, ap}
use Rattle.std.proofs.lemmas.List.{take_rest}
use Rattle.sg_disk.specs.declared.history.Call.{Call}
use Rattle.sg_disk.proofs.Replays.{replay_fits, tear_fits, picked_tail}
use Rattle.sg_disk.proofs.history.Log.image.Goals as goal

pub tear_all-requires : goal.tear_all-requires
tear_all-requires c =
    let log = c.args.self.now in
    let made : c.in_ok-image.image.items ≡ log.stable.items = search rules in
    tear_fits c.args.pick c.in_ok-image.image.items _ (replay_fits log.first.items c.in_ok-image.image.items log.calls.items _ log.synced log.fits (made ∙ log.settled) (take_rest c.deref.result.now log.synced ∙ ap (λ (l : List Call). drop log.synced l) c.deref.ensures.value))

pub returns : goal.returns
returns c =
    let log = c.args.self.now in
    let made : c.in_ok-image.image.items ≡ log.stable.items = search rules in
    c.in_ok-tear_all.ensures ∙ sym (picked_tail c.args.pick log.first.items c.in_ok-image.image.items log.calls.items _ log.synced (made ∙ log.settled) (take_rest c.deref.result.now log.synced ∙ ap (λ (l : List Call). drop log.synced l) c.deref.ensures.value) log.at_sync log.pending)
