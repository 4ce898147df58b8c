use Rattle.std.proofs.Common.{rules, ◌≡◌, ◌≤◌, ℕ, List, [], ◌∷◌, ◌++◌, length, take, drop, reverse, true, sym, ◌∙◌, ap, subst, arith}
use Rattle.std.proofs.lemmas.List.{take_rest, take_all}
use Rattle.sg_disk.specs.History.{Fits, is_settled, replayed}
use Rattle.sg_disk.specs.declared.history.Call.{Call}
use Rattle.sg_disk.specs.declared.history.Call.TheVariants.{Sync}
use Rattle.sg_disk.proofs.Logs.{fits_push, settled_push, replayed_push, reverse_push}
use Rattle.sg_disk.proofs.Replays.{replay_fits, replayed_tail, room_tail}
use Rattle.sg_disk.proofs.history.Log.sync.Goals as goal

-- the writes are inside the length, with the sync noted
fits_synced : (first : List ℕ) (calls grown : List Call) → grown ≡ calls ++ Sync ∷ [] → Fits first (reverse calls) → Fits first (reverse grown)
fits_synced first calls grown is fits = subst (λ (l : List Call). Fits first (reverse l)) (sym is) (fits_push first calls Sync fits (omega arith))

-- what was stable is still that of the last sync
stable_noted : (first c : List ℕ) (calls grown : List Call) (n : ℕ) → grown ≡ calls ++ Sync ∷ [] → n ≤ length calls → c ≡ replayed first (take n calls) → c ≡ replayed first (take n grown)
stable_noted first c calls grown n is le settled = settled_push first c calls Sync n le settled ∙ ap (λ (l : List Call). replayed first (take n l)) (sym is)

-- a sync at the end leaves the list at a sync
at_sync_noted : (calls grown : List Call) (n : ℕ) → grown ≡ calls ++ Sync ∷ [] → length grown ≤ n → is_settled (reverse (take n grown)) ≡ true
at_sync_noted calls grown n is le = ap (λ (l : List Call). is_settled (reverse l)) (take_all n grown le ∙ is) ∙ ap is_settled (reverse_push calls Sync)

pub replay-requires-clause-fits : goal.replay-requires-clause-fits
replay-requires-clause-fits c =
    let log = c.args.self.now in
    let grown : c.push.new.self.items ≡ log.calls.items ++ Sync ∷ [] = c.in_ok-push.ensures.items in
    replay_fits log.first.items c.reserve.new.self.items c.push.new.self.items _ log.synced (fits_synced log.first.items log.calls.items c.push.new.self.items grown log.fits) (stable_noted log.first.items c.reserve.new.self.items log.calls.items c.push.new.self.items log.synced grown log.within (c.reserve.ensures.items ∙ log.settled)) (take_rest c.deref-2.result.now log.synced ∙ ap (λ (l : List Call). drop log.synced l) c.deref-2.ensures.value)

pub replay-requires-clause-room : goal.replay-requires-clause-room
replay-requires-clause-room c =
    let log = c.args.self.now in
    room_tail _ log.calls.items c.push.new.self.items _ _ log.synced log.within c.in_ok-push.ensures.items (take_rest c.deref.result.now log.synced ∙ ap (λ (l : List Call). drop log.synced l) c.deref.ensures.value) (take_rest c.deref-2.result.now log.synced ∙ ap (λ (l : List Call). drop log.synced l) c.deref-2.ensures.value) (λ k d lt. omega (arith, c.longest-room.ensures k d lt, c.in_ok-reserve.ensures.ok))

pub invariant_of-self-2 : goal.invariant_of-self-2
invariant_of-self-2 c =
    let log = c.args.self.now in
    let grown : c.push.new.self.items ≡ log.calls.items ++ Sync ∷ [] = c.in_ok-push.ensures.items in
    let stable : c.reserve.new.self.items ≡ replayed log.first.items (take log.synced c.push.new.self.items) = stable_noted log.first.items c.reserve.new.self.items log.calls.items c.push.new.self.items log.synced grown log.within (c.reserve.ensures.items ∙ log.settled) in
    let count : c.len-self.result ≡ length c.push.new.self.items = search rules in
    let whole : length c.push.new.self.items ≤ c.len-self.result = omega (arith, count) in
    record {
      fits = fits_synced log.first.items log.calls.items c.push.new.self.items grown log.fits;
      reads = log.reads ∙ sym (replayed_push log.first.items log.calls.items Sync) ∙ ap (λ (l : List Call). replayed log.first.items l) (sym grown);
      within = omega (arith, count);
      settled = c.replay.ensures ∙ replayed_tail log.first.items c.reserve.new.self.items c.push.new.self.items _ log.synced stable (take_rest c.deref-2.result.now log.synced ∙ ap (λ (l : List Call). drop log.synced l) c.deref-2.ensures.value) ∙ ap (λ (l : List Call). replayed log.first.items l) (sym (take_all c.len-self.result c.push.new.self.items whole));
      at_sync = at_sync_noted log.calls.items c.push.new.self.items c.len-self.result grown whole;
      pending = λ k d low lt. absurd (omega (arith, low, lt, whole));
    }
