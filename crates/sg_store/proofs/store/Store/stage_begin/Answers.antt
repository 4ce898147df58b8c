use Rattle.std.proofs.Common.{◌≡◌, ◌<◌, ◌++◌, ℕ, List, refl, subst}
use Rattle.sg_placing.specs.Placing.{IsFree, IsLongest}
use Rattle.sg_placing.specs.declared.placed.Placed.{Placed}
use Rattle.sg_store.specs.declared.faults.NoSpace.{NoSpace}
use Rattle.sg_store.specs.Ready.{taken_files}
use Rattle.sg_store.proofs.StageLemmas.{refused_gap, begun_in_gap, taken_idle}
use Rattle.sg_store.proofs.DistinctLemmas.{distinct_begun}
use Rattle.sg_store.proofs.store.Store.stage_begin.Goals as goal

pub returns-in_default-clause-refused : goal.returns-in_default-clause-refused
returns-in_default-clause-refused c fault is =
    let s = c.args.self.now in
    let need = c.args.file.now.length in
    let longest = c.longest_gap.result in
    let same : record { need = need; largest = longest } ≡ fault = cc in
    let lists : c.as_slice-current.result.now ++ c.as_slice-staged.result.now ≡ taken_files s = taken_idle s c.as_slice-current.result.now c.as_slice-staged.result.now c.as_slice-current.ensures c.as_slice-staged.ensures c.requires.idle in
    let longest_is : IsLongest s.room (taken_files s) longest = subst (λ (l : List Placed). IsLongest s.room l longest) lists c.longest_gap.ensures in
    let none : (q : ℕ) → IsFree s.room (taken_files s) need q → ⊥ = subst (λ (l : List Placed). (q : ℕ) → IsFree s.room l need q → ⊥) lists c.in_default.ensures.none in
    subst (λ (f : NoSpace). (f.need ≡ need) × IsLongest s.room (taken_files s) f.largest × (f.largest < f.need)) same (refl, longest_is, refused_gap s.room need longest (taken_files s) c.requires.some none longest_is)

pub returns-clause-staged : goal.returns-clause-staged
returns-clause-staged c bytes has =
    let s = c.args.self.now in
    let lists : c.as_slice-current.result.now ++ c.as_slice-staged.result.now ≡ taken_files s = taken_idle s c.as_slice-current.result.now c.as_slice-staged.result.now c.as_slice-current.ensures c.as_slice-staged.ensures c.requires.idle in
    begun_in_gap s _ bytes s.room _ refl refl c.requires.idle refl refl c.new.ensures (subst (λ (l : List Placed). IsFree s.room l c.args.file.now.length c.in-Some.place) lists c.in-Some.ensures.found.free) has

pub invariant_of-self-2-clause-distinct : goal.invariant_of-self-2-clause-distinct
invariant_of-self-2-clause-distinct c =
    let s = c.args.self.now in
    distinct_begun s.current s.staged s.half (record { file = c.args.file.now; place = c.in-Some.place }) c.requires.idle c.requires.new s.distinct
