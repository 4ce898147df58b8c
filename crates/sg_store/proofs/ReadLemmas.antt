-- What the snapshot reads back as.
use Rattle.std.proofs.Common.{◌≡◌, inl, inr, ℕ, suc, ◌+◌, ◌<◌, ◌≤◌, ◌==◌, Bool, true, cond, List, [], ◌∷◌, length, get_or, find, Option, None, Some, MatchOption, All, AllPairs, Contains, IsSomeAnd, refl, sym, ◌∙◌, ap, subst, arith}
use Rattle.std.proofs.lemmas.Bool.{cases_Bool, cases_lt, eqb-true}
use Rattle.std.proofs.lemmas.List.{append-nil, length-map, get_or-map}
use Rattle.sg_disk.specs.View.{View, range}
use Rattle.sg_disk.specs.Runs.{Quiet}
use Rattle.sg_disk.specs.Contents.{StoredFile, Contents, IsInside, IsExtent, IsSnapshot, taken}
use Rattle.sg_disk.specs.StandsFor.{place_of, IsCurrent, IsHeld, StandsFor}
use Rattle.sg_base.specs.declared.limits.TheConstants.{MANIFEST_TEXT}
use Rattle.sg_disk.specs.declared.places.TheConstants.{DATA, JOURNAL, SLOT_LEN, TEXT}
use Rattle.sg_disk.proofs.Ranges.{range-range}
use Rattle.sg_disk.proofs.Standing.{settled_quiet, lawful_inside}
use Rattle.sg_disk.proofs.Writes.{one_quiet}
use Rattle.sg_placing.specs.Placing.{placed_of}
use Rattle.sg_placing.specs.declared.placed.Placed.{Placed}
use Rattle.sg_slots.specs.Slots.{slot_place, slot_of, opposite}
use Rattle.sg_store.specs.Ready.{file_at, Knows, HasStaged, IsReady}
use Rattle.sg_store.specs.declared.store.Store.{Store}
use Rattle.sg_store.proofs.OpenLemmas.{extents_of}
use Rattle.sg_store.proofs.WholeLemmas.{file_stands}

-- a snapshot stands in the slot that isn't spare
current_of : (text : Option (List ℕ)) (t : List ℕ) (P : List ℕ → Type 0) → text ≡ Some t → MatchOption text (Unit {0}) P → P t
current_of text t P is holds = subst (λ (o : Option (List ℕ)). MatchOption o (Unit {0}) P) is holds

long_in : (room number : ℕ) (text : Option (List ℕ)) (files : List StoredFile) (t : List ℕ) → text ≡ Some t → MatchOption text ((number ≡ 0) × (files ≡ [])) (λ t. IsSnapshot room number t files) → length t ≤ MANIFEST_TEXT
long_in room number text files t is holds = let snapshot = subst (λ (o : Option (List ℕ)). MatchOption o ((number ≡ 0) × (files ≡ [])) (λ t. IsSnapshot room number t files)) is holds in snapshot.long.1

-- the manifest stands at its place; a text within its limit
pub text_at : (s : Store) (p : Contents) (c text : List ℕ) (place : ℕ) → place ≡ slot_place (opposite s.spare) + TEXT → length text ≤ MANIFEST_TEXT → Knows s p c → p.text ≡ Some text → range c place (length text) ≡ text
text_at s p c text place at long knows is =
    let current : IsCurrent p.room p.number text p.files (slot_of (opposite s.spare) c) (slot_of s.spare c) = current_of p.text text (λ t. IsCurrent p.room p.number t p.files (slot_of (opposite s.spare) c) (slot_of s.spare c)) is knows.slot in
    ap (λ (k : ℕ). range c k (length text)) at ∙ sym (range-range c (slot_place (opposite s.spare)) SLOT_LEN TEXT (length text) (omega (arith, long))) ∙ current.fields.text_is

-- a call that changes nothing keeps the store ready
pub ready_quiet : (n : ℕ) (v w : View) (s : Store) (p : Contents) → Quiet n v w → IsReady v s p → IsReady w s p
ready_quiet n v w s p quiet ready =
    let same : w.bytes ≡ v.bytes = quiet.bytes ready.settled.told in
    record {
      settled = settled_quiet n v w p quiet ready.settled;
      front = one_quiet n 0 JOURNAL v w ready.settled.told quiet ready.front;
      knows = subst (Knows s p) (sym same) ready.knows;
      staged = subst (HasStaged s) (sym same) ready.staged;
    }

-- what a search finds, and where
pub found_at : (test : Placed → Bool) (files : List Placed) (q : Placed) → find test files ≡ Some q → (k : ℕ) × (k < length files) × ((d : Placed) → get_or files k d ≡ q) × (test q ≡ true)
found_at test [] q is = cc
found_at test (p ∷ files) q is = elim (cases_Bool (test p)) [
  | inl here ↦
      let first : find test (p ∷ files) ≡ Some p = ap (λ (b : Bool). cond b (Some p) (find test files)) here in
      let same : p ≡ q = cc in
      (0, omega arith, λ d. same, subst (λ (x : Placed). test x ≡ true) same here)
  | inr other ↦
      let later : find test (p ∷ files) ≡ find test files = ap (λ (b : Bool). cond b (Some p) (find test files)) other in
      let rest = found_at test files q (sym later ∙ is) in
      (suc rest.0, omega (arith, rest.1), λ d. rest.2 d, rest.3)
]

ascending_in : (room number : ℕ) (text : Option (List ℕ)) (files : List StoredFile) → MatchOption text ((number ≡ 0) × (files ≡ [])) (λ t. IsSnapshot room number t files) → AllPairs (λ f g. f.listed.media.0 < g.listed.media.0) files
ascending_in room number None files none = subst (λ (l : List StoredFile). AllPairs (λ f g. f.listed.media.0 < g.listed.media.0) l) (sym none.1) (λ i j d lt below. absurd (omega (arith, below)))
ascending_in room number (Some t) files snapshot = snapshot.listed.ascending

-- a file of the contents is the one that is found by its id
same_place : (files : List StoredFile) (i j : ℕ) (d : StoredFile) → AllPairs (λ f g. f.listed.media.0 < g.listed.media.0) files → i < length files → j < length files → (get_or files i d).listed.media.0 ≡ (get_or files j d).listed.media.0 → i ≡ j
same_place files i j d up near far same = elim (cases_lt i j) [
  | inl before ↦ absurd (omega (arith, up i j d before far, same))
  | inr later ↦ elim (cases_lt j i) [
    | inl behind ↦ absurd (omega (arith, up j i d behind near, same))
    | inr within ↦ omega (arith, later, within)
  ]
]

-- the bytes of a file at its place
pub file_bytes : (s : Store) (p : Contents) (c : List ℕ) (f : StoredFile) (q : Placed) (media offset n : ℕ) → StandsFor p c → Knows s p c → find (λ (x : Placed). x.file.media.0 == media) s.current ≡ Some q → Contains p.files f → f.listed.media.0 ≡ media → offset + n ≤ q.file.length → range c (q.place + offset) n ≡ range f.bytes offset n
file_bytes s p c f q media offset n stands knows found has id fits =
    let at = found_at (λ (x : Placed). x.file.media.0 == media) s.current q found in
    let j : ℕ = has.0 in
    let here : get_or p.files j f ≡ f = has.2 in
    let k : ℕ = at.0 in
    let near : k < length p.files = omega (arith, at.1, ap length knows.files, length-map p.files placed_of) in
    let q_is : q ≡ placed_of (get_or p.files k f) = sym (at.2 q) ∙ ap (λ (l : List Placed). get_or l k q) knows.files ∙ get_or-map placed_of p.files k f q near in
    let q_id : q.file.media.0 ≡ media = eqb-true q.file.media.0 media at.3 in
    let ids : (get_or p.files k f).listed.media.0 ≡ (get_or p.files j f).listed.media.0 = ap (λ (x : Placed). x.file.media.0) (sym q_is) ∙ q_id ∙ sym id ∙ ap (λ (x : StoredFile). x.listed.media.0) (sym here) in
    let same : k ≡ j = same_place p.files k j f (ascending_in p.room p.number p.text p.files stands.lawful.snapshot) near has.1 ids in
    let is : q ≡ placed_of f = q_is ∙ ap (λ (i : ℕ). placed_of (get_or p.files i f)) same ∙ ap placed_of here in
    let held : IsHeld (range c DATA p.room) f = subst (IsHeld (range c DATA p.room)) here (stands.files j f has.1) in
    let inside : All (IsInside p.room) (taken f) = subst (λ (x : StoredFile). All (IsInside p.room) (taken x)) here (lawful_inside p stands.lawful j f has.1) in
    let stands_at : file_at c (placed_of f) ≡ f = file_stands p.room c f (subst (λ (x : StoredFile). IsExtent x) here (extents_of p stands.lawful j f has.1)) inside held in
    let bytes : range c (place_of f.stand) f.listed.length ≡ f.bytes = sym (append-nil (range c (place_of f.stand) f.listed.length)) ∙ ap (λ (x : StoredFile). x.bytes) stands_at in
    let room : offset + n ≤ f.listed.length = omega (arith, fits, ap (λ (x : Placed). x.file.length) is) in
    ap (λ (x : Placed). range c (x.place + offset) n) is ∙ sym (range-range c (place_of f.stand) f.listed.length offset n room) ∙ ap (λ (l : List ℕ). range l offset n) bytes

-- the file that a condition names
pub some_placed : (o : Option Placed) (P : Placed → Type 0) → IsSomeAnd o P → (q : Placed) × (o ≡ Some q) × P q
some_placed None P none = absurd none
some_placed (Some q) P holds = (q, refl, holds)
