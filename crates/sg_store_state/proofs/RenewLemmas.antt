-- The disk of an older store as it becomes one of the new format.
use Rattle.std.proofs.Common.{◌≡◌, ◌⊎◌, inl, inr, ℕ, ◌+◌, ◌<◌, ◌≤◌, ◌==◌, ◌&&◌, ◌||◌, Bool, true, false, List, [], length, get_or, Option, None, Some, MatchOption, All, refl, sym, ◌∙◌, ap, subst, arith}
use Rattle.std.proofs.lemmas.Bool.{cases_eq, ne_eqb, true≢false}
use Rattle.sg_disk.specs.View.{View, range, Only}
use Rattle.sg_disk.specs.Runs.{After, LeavesOnly}
use Rattle.sg_disk.specs.Contents.{StoredFile, Contents, IsExtent, IsSnapshot as IsOldSnapshot}
use Rattle.sg_disk.specs.StandsFor.{Two}
use Rattle.sg_disk.specs.declared.places.TheConstants.{DATA, HEADER_LEN}
use Rattle.sg_disk.proofs.Moments.{joined, weaker, at_end}
use Rattle.sg_slots.specs.Damage.{Damage, slots_damage}
use Rattle.sg_slots.proofs.HeaderLemmas.{header_open}
use Rattle.sg_slots.proofs.Soundness.{slots_sound}
use Rattle.sg_upgrade.specs.Upgrading.{AreLong, IsNewBut, IsUpgrading}
use Rattle.sg_upgrade.specs.declared.places.TheConstants.{SECOND_MARK, WHOLE}
use Rattle.sg_paged_slots.specs.Headers.{header_at, fits_disk, any_header_damage}
use Rattle.sg_paged_slots.specs.PagedSlots.{paged_slots_damage}
use Rattle.sg_paged_slots.specs.declared.headers.Header.{Header}
use Rattle.sg_contents.specs.Lawful.{IsSnapshot}
use Rattle.sg_contents.specs.StandsFor.{IsOld, IsNew, IsFormat, IsFormat1, StandsFor, StandsForOne, Between}
use Rattle.sg_contents.proofs.Standing.{between_read, stands_long}
use Rattle.sg_contents.proofs.Areas.{new_format}
use Rattle.sg_contents.proofs.Formats.{in_header, header_byte}
use Rattle.sg_contents.proofs.Upgraded.{old_version, upgrading_stands}
use Rattle.sg_soundness.proofs.SoundHeader.{version_old, version_new, header_says, header_undamaged}
use Rattle.sg_soundness.proofs.SoundSlots.{slots_sound as new_slots_sound}

-- the header says of which format the disk is
old_of : (room number : ℕ) (text : Option (List ℕ)) (files seals : List StoredFile) (c : List ℕ) → 8 ≤ length c → (header_at c).old ≡ true → IsFormat room number text files seals c → IsFormat1 room number text files seals c
old_of room number text files seals c long is (inl old) = old
old_of room number text files seals c long is (inr new) = absurd (true≢false (sym is ∙ version_new c long new.version))

new_of : (room number : ℕ) (text : Option (List ℕ)) (files seals : List StoredFile) (c : List ℕ) → (header_at c).old ≡ false → IsFormat room number text files seals c → IsNew (range c 0 HEADER_LEN)
new_of room number text files seals c is (inl old) = absurd (true≢false (sym (version_old c old.version) ∙ is))
new_of room number text files seals c is (inr new) = new.version

pub format_old : (p : Contents) (c : List ℕ) → StandsFor p c → (header_at c).old ≡ true → IsFormat1 p.room p.number p.text p.files p.seals c
format_old p c standing is = old_of p.room p.number p.text p.files p.seals c (let long = stands_long p c standing in omega (arith, long)) is standing.format

pub format_new : (p : Contents) (c : List ℕ) → StandsFor p c → (header_at c).old ≡ false → IsNew (range c 0 HEADER_LEN)
format_new p c standing is = new_of p.room p.number p.text p.files p.seals c is standing.format

-- the header of an upgraded disk
pub upgraded_new : (room : ℕ) (c d : List ℕ) → IsNewBut room c d → get_or d 4 0 ≡ 2 → IsOld (range c 0 HEADER_LEN) → IsNew (range d 0 HEADER_LEN)
upgraded_new room c d whole two old = record {
  other = λ one. absurd (omega (arith, header_byte d 4 (omega arith), two, one));
  small = old_version c d whole.front old;
  second = in_header d SECOND_MARK 8 (omega arith) ∙ whole.mark;
}

-- a disk that fits its header has the data area, and in the new format all areas
pub fits_long : (size : ℕ) (h : Header) → fits_disk size h ≡ true → DATA + h.format.room ≤ size
fits_long size h fits = elim (cases_eq size (WHOLE + h.format.room)) [
  | inl whole ↦ omega (arith, whole)
  | inr other ↦ elim (cases_eq size (DATA + h.format.room)) [
    | inl short ↦ omega (arith, short)
    | inr neither ↦ absurd (true≢false (sym fits ∙ ap (λ (b : Bool). b || (h.old && size == DATA + h.format.room)) (ne_eqb size (WHOLE + h.format.room) other) ∙ ap (λ (b : Bool). h.old && b) (ne_eqb size (DATA + h.format.room) neither) ∙ none h.old))
  ]
]
  where
    none : (b : Bool) → (b && false) ≡ false
    none true = refl
    none false = refl

pub fits_whole : (size : ℕ) (h : Header) → fits_disk size h ≡ true → h.old ≡ false → size ≡ WHOLE + h.format.room
fits_whole size h fits new = elim (cases_eq size (WHOLE + h.format.room)) [
  | inl whole ↦ whole
  | inr other ↦ absurd (true≢false (sym fits ∙ ap (λ (b : Bool). b || (h.old && size == DATA + h.format.room)) (ne_eqb size (WHOLE + h.format.room) other) ∙ ap (λ (b : Bool). b && size == DATA + h.format.room) new))
]

-- a stable disk, of which reads leave what it was
pub stable_read : (v m : View) (b : List ℕ) → Only b v → LeavesOnly v.images v m → Only b m
stable_read v m b only run c now = only c (at_end v m v.images run c now)

pub long_only : (v : View) (size room : ℕ) → v.told → Only v.bytes v → DATA + room ≤ v.size → AreLong room v
long_only v size room told only long c now = omega (arith, ap length (only c now), v.sized told, long)

-- the contents at every moment of reads of a stable disk
pub stable_stands : (v m : View) (p : Contents) → Only v.bytes v → LeavesOnly v.images v m → StandsFor p v.bytes → LeavesOnly (StandsFor p) v m
stable_stands v m p only run standing = weaker v m v.images (StandsFor p) (λ c now. subst (StandsFor p) (sym (only c now)) standing) run

-- and of its upgrade behind them
pub renewing : (v m w : View) (h : Header) (p : Contents) → Only v.bytes v → LeavesOnly v.images v m → LeavesOnly (After (IsUpgrading h.format.room) m) m w → h.old ≡ true → h ≡ header_at v.bytes → StandsFor p v.bytes → LeavesOnly (StandsFor p) v w
renewing v m w h p only reads run old is standing =
    let room : h.format.room ≡ p.room = ap (λ (x : Header). x.format.room) is ∙ (header_says p v.bytes standing).room in
    let format = format_old p v.bytes standing (sym (ap (λ (x : Header). x.old) is) ∙ old) in
    joined v m w (StandsFor p) (stable_stands v m p only reads standing) (weaker m w (After (IsUpgrading h.format.room) m) (StandsFor p) (λ c was.
    let at : was.0 ≡ v.bytes = stable_read v m v.bytes only reads was.0 was.1 in
    let step : IsUpgrading p.room v.bytes c = subst (λ (n : ℕ). IsUpgrading n v.bytes c) room (subst (λ (b : List ℕ). IsUpgrading h.format.room b c) at was.2) in
    upgrading_stands p v.bytes c step format standing) run)

-- the disk behind an upgrade
pub renewed : (v m w : View) (h : Header) (p : Contents) → m.bytes ≡ v.bytes → IsNewBut h.format.room m.bytes w.bytes → get_or w.bytes 4 0 ≡ 2 → h.old ≡ true → h ≡ header_at v.bytes → StandsFor p v.bytes → StandsFor p w.bytes × IsNew (range w.bytes 0 HEADER_LEN)
renewed v m w h p same whole two old is standing =
    let room : h.format.room ≡ p.room = ap (λ (x : Header). x.format.room) is ∙ (header_says p v.bytes standing).room in
    let format = format_old p v.bytes standing (sym (ap (λ (x : Header). x.old) is) ∙ old) in
    let step : IsNewBut p.room v.bytes w.bytes = subst (λ (n : ℕ). IsNewBut n v.bytes w.bytes) room (subst (λ (b : List ℕ). IsNewBut h.format.room b w.bytes) same whole) in
    (upgrading_stands p v.bytes w.bytes (inr step) format standing, upgraded_new p.room v.bytes w.bytes step two format.version)

-- the slots of the old format have no fault
old_snapshot : (room number : ℕ) (text : Option (List ℕ)) (files : List StoredFile) → All IsExtent files → MatchOption text ((number ≡ 0) × (files ≡ [])) (λ t. IsSnapshot room number t files) → MatchOption text ((number ≡ 0) × (files ≡ [])) (λ t. IsOldSnapshot room number t files)
old_snapshot room number None files extents none = none
old_snapshot room number (Some t) files extents snapshot = record {
  numbered = snapshot.numbered;
  long = snapshot.long;
  listed = snapshot.listed;
  extents = extents;
  inside = snapshot.inside;
  apart = snapshot.apart;
}

pub old_undamaged : (p : Contents) (c : List ℕ) (h : Header) (damage : Damage) → h ≡ header_at c → h.old ≡ true → StandsFor p c → slots_damage h.format.room c ≡ Some damage → ⊥
old_undamaged p c h damage is old standing bad =
    let room : h.format.room ≡ p.room = ap (λ (x : Header). x.format.room) is ∙ (header_says p c standing).room in
    let format = format_old p c standing (sym (ap (λ (x : Header). x.old) is) ∙ old) in
    let none : slots_damage h.format.room c ≡ None = ap (λ (n : ℕ). slots_damage n c) room ∙ slots_sound p.room p.number p.text p.files c standing.lawful.room.high (old_snapshot p.room p.number p.text p.files format.extents standing.lawful.snapshot) format.slots in
    let wrong : None ≡ Some damage = sym none ∙ bad in
    cc

-- nor do those of the new one
pub new_undamaged : (p : Contents) (c : List ℕ) (room : ℕ) (damage : Damage) → room ≡ p.room → IsNew (range c 0 HEADER_LEN) → StandsFor p c → paged_slots_damage room c ≡ Some damage → ⊥
new_undamaged p c room damage at new standing bad =
    let format = new_format p.room p.number p.text p.files p.seals c new standing.format in
    let none : paged_slots_damage room c ≡ None = ap (λ (n : ℕ). paged_slots_damage n c) at ∙ new_slots_sound p.room p.number p.text p.files c standing.lawful.room.high standing.lawful.snapshot format.slots in
    let wrong : None ≡ Some damage = sym none ∙ bad in
    cc

-- refusals of the header that a disk which stands for contents doesn't meet
pub not_unformatted : (v : View) (p : Contents) (size : ℕ) → v.told → StandsFor p v.bytes → size ≡ v.size → (size < DATA) ⊎ (v.told → get_or v.bytes 0 0 ≡ 1 → ⊥) → ⊥
not_unformatted v p size told standing same (inl short) = (let long = stands_long p v.bytes standing in absurd (omega (arith, short, same, v.sized told, long)))
not_unformatted v p size told standing same (inr closed) = closed told (header_open v.bytes standing.header.gate)

pub header_not_damaged : (v : View) (p : Contents) (size : ℕ) (damage : Damage) → v.told → StandsFor p v.bytes → size ≡ v.size → get_or v.bytes 4 0 < 256 → any_header_damage size v.bytes ≡ Some damage → ⊥
header_not_damaged v p size damage told standing same byte is =
    let none : any_header_damage size v.bytes ≡ None = ap (λ (n : ℕ). any_header_damage n v.bytes) (same ∙ sym (v.sized told)) ∙ header_undamaged p v.bytes byte standing in
    let wrong : None ≡ Some damage = sym none ∙ is in
    cc

-- one of two contents, at every moment of an opening: of the header's reading, of the renewal, and of the slots' reading
pub both_read : (v m : View) (p q : Contents) → Between v (Two p q) → LeavesOnly v.images v m → LeavesOnly (StandsForOne (Two p q)) v m
both_read v m p q between run = weaker v m v.images (StandsForOne (Two p q)) between.each run

pub both_renewed : (v m w : View) (p q : Contents) → Between v (Two p q) → LeavesOnly v.images v m → ((r : Contents) → StandsFor r v.bytes → LeavesOnly (StandsFor r) m w) → LeavesOnly (StandsForOne (Two p q)) v w
both_renewed v m w p q between run renew =
    let one = between_read v (Two p q) between in
    joined v m w (StandsForOne (Two p q)) (both_read v m p q between run) (weaker m w (StandsFor one.0) (StandsForOne (Two p q)) (λ c standing. (one.0, one.1, standing)) (renew one.0 one.2))

pub both_opened : (v m u w : View) (p q : Contents) → Between v (Two p q) → LeavesOnly v.images v m → ((r : Contents) → StandsFor r v.bytes → LeavesOnly (StandsFor r) m u) → LeavesOnly u.images u w → LeavesOnly (StandsForOne (Two p q)) v w
both_opened v m u w p q between run renew reads =
    joined v u w (StandsForOne (Two p q)) (both_renewed v m u p q between run renew) (weaker u w u.images (StandsForOne (Two p q)) (λ c now.
    at_end v u (StandsForOne (Two p q)) (both_renewed v m u p q between run renew) c now) reads)
