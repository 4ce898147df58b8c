use Rattle.std.proofs.Common.{◌≡◌, ℕ, ◌+◌, ◌<◌, ◌≤◌, ◌==◌, List, find, Option, None, Some, option_map, IsSomeAnd, sym, ◌∙◌, ap, subst, arith}
use Rattle.sg_base.specs.declared.file.Listed.{Listed}
use Rattle.sg_placing.specs.declared.placed.Placed.{Placed}
use Rattle.sg_pages.specs.Shelves.{FileAt, Shelved, found_at, stands, byte_place}
use Rattle.sg_pages.specs.declared.shelf.Found.{Found}
use Rattle.sg_staging.specs.Staged.{Staged, IsStanding, IsStagedIn}
use Rattle.sg_store_state.specs.State.{State}
use Rattle.sg_paged_store.proofs.FileLemmas.{HasId, OnShelf, on_shelf, found_here, one_found, place_fits, stand_inside, some_placed}
use Rattle.sg_paged_store.proofs.store.Store.byte_of.Goals as goal

-- the file of the id, and where it was found
record Here (room m : ℕ) (k : Shelved) (q : Placed) (answer : Option Found) : Type 0 where
  is : find (λ (p : Placed). p.file.media.0 == m) k.files ≡ Some q
  on : OnShelf room m k q
  found : option_map (found_at k.pages) answer ≡ Some on.here

here_of : (room m : ℕ) (k : Shelved) (s : Staged) (files : List Placed) (q : Placed) (searched : Option Placed) (answer : Option Found) → files ≡ k.files → searched ≡ find (λ (p : Placed). p.file.media.0 == m) files → searched ≡ Some q → IsStagedIn room k s → ((on : OnShelf room m k q) → find (λ (p : Placed). p.file.media.0 == m) k.files ≡ Some q → option_map (found_at k.pages) answer ≡ Some on.here) → Here room m k q answer
here_of room m k s files q searched answer at looked is kept found =
    let here : find (λ (p : Placed). p.file.media.0 == m) k.files ≡ Some q = ap (λ (l : List Placed). find (λ (p : Placed). p.file.media.0 == m) l) (sym at) ∙ sym looked ∙ is in
    let on = on_shelf room m k s q kept here in
    record { is = here; on = on; found = found on here }

nothing : (pages : List ℕ) (answer : Option Found) (f : FileAt) → answer ≡ None → option_map (found_at pages) answer ≡ Some f → ⊥
nothing pages answer f none is = let one : option_map (found_at pages) None ≡ Some f = subst (λ (x : Option Found). option_map (found_at pages) x ≡ Some f) none is in cc

-- what was found is that file
stands_here : (room m : ℕ) (k : Shelved) (q : Placed) (answer : Option Found) (found : Found) (here : Here room m k q answer) → answer ≡ Some found → found_at k.pages found ≡ here.on.here
stands_here room m k q answer found here is = one_found k found here.on.here (subst (λ (x : Option Found). option_map (found_at k.pages) x ≡ Some here.on.here) is here.found)

pub place_of-requires-clause-offset : goal.place_of-requires-clause-offset
place_of-requires-clause-offset c =
    let k : Shelved = c.self.inside.current in
    let m : ℕ = c.args.media.0 in
    let q : Placed = c.in-Some.placed in
    let h = here_of c.self.inside.room m k c.self.inside.staging c.files.result.now q c.find_media.result c.find.result c.files.ensures c.find_media.ensures c.in-Some.is c.self.invariant.0.placed (λ on is. found_here c.self.inside.room m k q c.find.result is on c.find.ensures.found) in
    let at = stands_here c.self.inside.room m k q c.find.result c.in-Some-find.found h c.in-Some-find.is in
    let some = some_placed (find (λ (p : Placed). p.file.media.0 == m) c.args.self.now.current.files) (λ p. c.args.offset < p.file.length) c.requires in
    let same : Some q ≡ Some some.0 = sym h.is ∙ ap (λ (x : State). find (λ (p : Placed). p.file.media.0 == m) x.current.files) c.self.view_is ∙ some.1 in
    let one : q ≡ some.0 = cc in
    let long : c.in-Some-find.found.placed.file.length ≡ some.0.file.length = ap (λ (f : FileAt). f.file.length) at ∙ ap (λ (l : Listed). l.length) h.on.file ∙ ap (λ (p : Placed). p.file.length) one in
    omega (arith, some.2, long)

pub place_of-requires-clause-place : goal.place_of-requires-clause-place
place_of-requires-clause-place c =
    let k : Shelved = c.self.inside.current in
    let m : ℕ = c.args.media.0 in
    let q : Placed = c.in-Some.placed in
    let h = here_of c.self.inside.room m k c.self.inside.staging c.files.result.now q c.find_media.result c.find.result c.files.ensures c.find_media.ensures c.in-Some.is c.self.invariant.0.placed (λ on is. found_here c.self.inside.room m k q c.find.result is on c.find.ensures.found) in
    let at = stands_here c.self.inside.room m k q c.find.result c.in-Some-find.found h c.in-Some-find.is in
    place_fits c.self.inside.room k.pages c.in-Some-find.found c.self.invariant.0.whole.high (subst (IsStanding c.self.inside.room) (sym at) h.on.standing)

pub unreachable-requires : goal.unreachable-requires
unreachable-requires c =
    let k : Shelved = c.self.inside.current in
    let m : ℕ = c.args.media.0 in
    let q : Placed = c.in-Some.placed in
    let h = here_of c.self.inside.room m k c.self.inside.staging c.files.result.now q c.find_media.result c.find.result c.files.ensures c.find_media.ensures c.in-Some.is c.self.invariant.0.placed (λ on is. found_here c.self.inside.room m k q c.find.result is on c.find.ensures.found) in
    nothing k.pages c.find.result h.on.here c.in-None-find.is h.found

pub returns-clause-place : goal.returns-clause-place
returns-clause-place c =
    let k : Shelved = c.self.inside.current in
    let m : ℕ = c.args.media.0 in
    let q : Placed = c.in-Some.placed in
    let h = here_of c.self.inside.room m k c.self.inside.staging c.files.result.now q c.find_media.result c.find.result c.files.ensures c.find_media.ensures c.in-Some.is c.self.invariant.0.placed (λ on is. found_here c.self.inside.room m k q c.find.result is on c.find.ensures.found) in
    let at = stands_here c.self.inside.room m k q c.find.result c.in-Some-find.found h c.in-Some-find.is in
    let row : IsSomeAnd (find (λ (p : Placed). p.file.media.0 == m) k.files) (λ p. h.on.here.file ≡ p.file) = subst (λ (o : Option Placed). IsSomeAnd o (λ p. h.on.here.file ≡ p.file)) (sym h.is) h.on.file in (
      h.on.here,
      subst (λ (x : State). find (HasId m) (stands x.current) ≡ Some h.on.here) c.self.view_is h.on.found,
      c.place_of.ensures ∙ ap (λ (x : FileAt). byte_place x.stand c.args.offset) at,
      subst (λ (x : State). IsSomeAnd (find (λ (p : Placed). p.file.media.0 == m) x.current.files) (λ p. h.on.here.file ≡ p.file)) c.self.view_is row,
    )

pub returns-clause-inside : goal.returns-clause-inside
returns-clause-inside c n some fits row =
    let k : Shelved = c.self.inside.current in
    let room : ℕ = c.self.inside.room in
    let m : ℕ = c.args.media.0 in
    let q : Placed = c.in-Some.placed in
    let h = here_of room m k c.self.inside.staging c.files.result.now q c.find_media.result c.find.result c.files.ensures c.find_media.ensures c.in-Some.is c.self.invariant.0.placed (λ on is. found_here room m k q c.find.result is on c.find.ensures.found) in
    let at = stands_here room m k q c.find.result c.in-Some-find.found h c.in-Some-find.is in
    let asked = some_placed (find (λ (p : Placed). p.file.media.0 == m) c.args.self.now.current.files) (λ p. c.args.offset + n ≤ p.file.length) fits in
    let same : Some q ≡ Some asked.0 = sym h.is ∙ ap (λ (x : State). find (λ (p : Placed). p.file.media.0 == m) x.current.files) c.self.view_is ∙ asked.1 in
    let one : q ≡ asked.0 = cc in
    let long : h.on.here.file.length ≡ asked.0.file.length = ap (λ (l : Listed). l.length) h.on.file ∙ ap (λ (p : Placed). p.file.length) one in
    let there = stand_inside room h.on.here c.args.offset n h.on.standing some (omega (arith, asked.2, long)) row in
    omega (arith, there, c.place_of.ensures, ap (λ (x : FileAt). byte_place x.stand c.args.offset) at, ap (λ (x : State). x.room) c.self.view_is)
