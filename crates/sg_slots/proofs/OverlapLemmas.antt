-- The search for a file that overlaps an earlier one.
use Rattle.std.proofs.Common.{◌≡◌, ℕ, ◌+◌, ◌*◌, ◌<◌, ◌≤◌, Bool, true, false, List, [], ◌∷◌, ◌++◌, length, get_or, take, drop, None, Some, if◌then◌else◌, sym, ◌∙◌, ap, arith}
use Rattle.std.proofs.lemmas.List.{drop_more, take_more, at_drop_all}
use Rattle.sg_disk.specs.declared.places.TheConstants.{ENTRY_LEN}
use Rattle.sg_placing.specs.declared.placed.Placed.{Placed}
use Rattle.sg_slots.specs.Damage.{is_apart, overlap_damage}
use Rattle.sg_slots.proofs.SlotLemmas.{damage_at}

pub overlap_none : (place : ℕ) (files : List Placed) → overlap_damage place [] files ≡ overlap_damage (place + ENTRY_LEN * 0) (take 0 files) (drop 0 files)
overlap_none place files = let at : place ≡ place + ENTRY_LEN * 0 = omega arith in ap (λ (k : ℕ). overlap_damage k [] files) at

pub overlap_step : (place i : ℕ) (files : List Placed) (p : Placed) → i < length files → p ≡ get_or files i p → overlap_damage place [] files ≡ overlap_damage (place + ENTRY_LEN * i) (take i files) (drop i files)
    → overlap_damage place [] files ≡ (if is_apart (take i files) p then overlap_damage (place + ENTRY_LEN * i + ENTRY_LEN) (take i files ++ p ∷ []) (drop (i + 1) files) else Some (damage_at (place + ENTRY_LEN * i) p.file.media.0))
overlap_step place i files p lt is so_far = so_far ∙ ap (λ (l : List Placed). overlap_damage (place + ENTRY_LEN * i) (take i files) l) (drop_more files i p lt ∙ ap (λ (q : Placed). q ∷ drop (i + 1) files) (sym is))

pub overlap_more : (place i : ℕ) (files : List Placed) (p : Placed) → i < length files → p ≡ get_or files i p → is_apart (take i files) p ≡ true → overlap_damage place [] files ≡ overlap_damage (place + ENTRY_LEN * i) (take i files) (drop i files) → overlap_damage place [] files ≡ overlap_damage (place + ENTRY_LEN * (i + 1)) (take (i + 1) files) (drop (i + 1) files)
overlap_more place i files p lt is apart so_far =
    let at : place + ENTRY_LEN * i + ENTRY_LEN ≡ place + ENTRY_LEN * (i + 1) = omega arith in
    let front : take i files ++ p ∷ [] ≡ take (i + 1) files = sym (take_more files i p lt ∙ ap (λ (q : Placed). take i files ++ q ∷ []) (sym is)) in
    overlap_step place i files p lt is so_far ∙ ap (λ (b : Bool). if b then overlap_damage (place + ENTRY_LEN * i + ENTRY_LEN) (take i files ++ p ∷ []) (drop (i + 1) files) else Some (damage_at (place + ENTRY_LEN * i) p.file.media.0)) apart
    ∙ ap (λ (k : ℕ). overlap_damage k (take i files ++ p ∷ []) (drop (i + 1) files)) at ∙ ap (λ (l : List Placed). overlap_damage (place + ENTRY_LEN * (i + 1)) l (drop (i + 1) files)) front

pub overlap_refused : (place i : ℕ) (files : List Placed) (p : Placed) → i < length files → p ≡ get_or files i p → is_apart (take i files) p ≡ false → overlap_damage place [] files ≡ overlap_damage (place + ENTRY_LEN * i) (take i files) (drop i files) → overlap_damage place [] files ≡ Some (damage_at (place + ENTRY_LEN * i) p.file.media.0)
overlap_refused place i files p lt is apart so_far =
    overlap_step place i files p lt is so_far ∙ ap (λ (b : Bool). if b then overlap_damage (place + ENTRY_LEN * i + ENTRY_LEN) (take i files ++ p ∷ []) (drop (i + 1) files) else Some (damage_at (place + ENTRY_LEN * i) p.file.media.0)) apart

pub overlap_all : (place i : ℕ) (files : List Placed) → length files ≤ i → overlap_damage place [] files ≡ overlap_damage (place + ENTRY_LEN * i) (take i files) (drop i files) → overlap_damage place [] files ≡ None
overlap_all place i files le so_far = so_far ∙ at_drop_all (λ (l : List Placed). overlap_damage (place + ENTRY_LEN * i) (take i files) l) files i le
