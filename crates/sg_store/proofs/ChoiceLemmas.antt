-- The files of a new snapshot, chosen among those that are whole.
use Rattle.std.proofs.Common.{◌≡◌, inl, inr, ℕ, zero, suc, ◌+◌, ◌-◌, ◌<◌, ◌≤◌, ◌^◌, eqb, ◌&&◌, Bool, true, cond, List, [], ◌∷◌, ◌++◌, length, get_or, map, Option, Some, is_some, option_map, unwrap_or, All, AllPairs, refl, sym, ◌∙◌, ap, subst, arith}
use Rattle.std.specs.List.{flat_map}
use Rattle.std.specs.Cmp.Lexicographic.{pointwise}
use Rattle.std.proofs.lemmas.Bool.{cases_Bool, cases_lt, cases_eq, true≢false, and_parts, eqb-true}
use Rattle.std.proofs.lemmas.Slice.Eq.{bytes_eq-Decides}
use Rattle.std.proofs.lemmas.List.{append-nil, length-map, get_or-map}
use Rattle.md5.specs.Md5.{md5}
use Rattle.sg_base.specs.declared.file.Listed.{Listed}
use Rattle.sg_disk.specs.View.{range}
use Rattle.sg_disk.specs.Contents.{Segment, StoredFile, IsClear, IsInside, IsExtent, IsSnapshot, taken, parts}
use Rattle.sg_disk.specs.Contents.{Extent}
use Rattle.sg_disk.specs.StandsFor.{place_of, entry, IsHeld, AreFiles}
use Rattle.sg_base.specs.declared.limits.TheConstants.{MANIFEST_FILES, MANIFEST_TEXT, MAX_FILE_LEN}
use Rattle.sg_disk.specs.declared.places.TheConstants.{DATA}
use Rattle.sg_disk.proofs.Ranges.{range-range, length-range}
use Rattle.sg_disk.proofs.Extents.{extent_of, apart_extents}
use Rattle.sg_placing.specs.Placing.{segment_of, segments_of_placed, placed_of, same_file, IsPlaced, AreApart}
use Rattle.sg_placing.specs.declared.placed.Placed.{Placed}
use Rattle.sg_slots.specs.Bytes.{placed_entry}
use Rattle.sg_store.specs.Ready.{placed_as, chosen, stored_file, bytes_in, IsWhole}

-- a listed file among these: its place in the list, and what stands there
pub record Member (files : List Placed) (f : Listed) : Type 0 where
  pub q : Placed
  pub found : placed_as files f ≡ Some q
  pub same : q.file ≡ f
  pub k : ℕ
  pub lt : k < length files
  pub at : (d : Placed) → get_or files k d ≡ q

same_by : (a b : Listed) → same_file a b ≡ true → a ≡ b
same_by a b passes =
    let one = and_parts (eqb a.media.0 b.media.0) (eqb a.length b.length && pointwise eqb a.md5 b.md5) passes in
    let two = and_parts (eqb a.length b.length) (pointwise eqb a.md5 b.md5) one.1 in
    let media : a.media.0 ≡ b.media.0 = eqb-true a.media.0 b.media.0 one.0 in
    let long : a.length ≡ b.length = eqb-true a.length b.length two.0 in
    let digest : a.md5 ≡ b.md5 = (bytes_eq-Decides a.md5 b.md5).0 two.1 in
    ap (λ (m : ℕ). made m a.length a.md5) media ∙ ap (λ (l : ℕ). made b.media.0 l a.md5) long ∙ ap (λ (d : List ℕ). made b.media.0 b.length d) digest
  where
    made : ℕ → ℕ → List ℕ → Listed
    made m l d = record { media = record { 0 = m }; length = l; md5 = d }

pub member : (files : List Placed) (f : Listed) → is_some (placed_as files f) ≡ true → Member files f
member [] f some = absurd (true≢false (sym some))
member (p ∷ files) f some = elim (cases_Bool (same_file p.file f)) [
  | inl here ↦ record {
    q = p;
    found = ap (λ (b : Bool). cond b (Some p) (placed_as files f)) here;
    same = same_by p.file f here;
    k = 0;
    lt = omega arith;
    at = λ d. refl;
  }
  | inr other ↦
      let later : placed_as (p ∷ files) f ≡ placed_as files f = ap (λ (b : Bool). cond b (Some p) (placed_as files f)) other in
      let m : Member files f = member files f (sym (ap is_some later) ∙ some) in
      record {
        q = m.q;
        found = later ∙ m.found;
        same = m.same;
        k = suc m.k;
        lt = omega (arith, m.lt);
        at = m.at;
      }
]

-- the stored file of a member
pub chosen_is : (files : List Placed) (f : Listed) (m : Member files f) → chosen files f ≡ m.q
chosen_is files f m = ap (λ (o : Option Placed). unwrap_or o (record { file = f; place = 0 })) m.found

-- a file with another's place and the bytes that stand there
abbrev pub stored_as : List ℕ → Listed → Placed → StoredFile
stored_as c f q = record { listed = f; stand = Extent q.place; bytes = bytes_in c (segments_of_placed q) }

pub stored_is : (files : List Placed) (c : List ℕ) (f : Listed) (m : Member files f) → stored_file files c f ≡ stored_as c f m.q
stored_is files c f m = ap (λ (q : Placed). stored_as c f q) (chosen_is files f m)

-- it takes what the member takes, and its bytes stand there
stored_taken : (files : List Placed) (c : List ℕ) (f : Listed) (m : Member files f) → taken (stored_file files c f) ≡ segments_of_placed m.q
stored_taken files c f m = ap (λ (s : StoredFile). taken s) (stored_is files c f m) ∙ ap (λ (g : Listed). record { place = m.q.place; size = g.length } ∷ []) (sym m.same)

stored_parts : (files : List Placed) (c : List ℕ) (f : Listed) (m : Member files f) → parts (stored_file files c f) ≡ segments_of_placed m.q
stored_parts files c f m = ap (λ (s : StoredFile). parts s) (stored_is files c f m) ∙ ap (λ (g : Listed). record { place = m.q.place; size = g.length } ∷ []) (sym m.same)

placed_stored : (files : List Placed) (c : List ℕ) (f : Listed) (m : Member files f) → placed_of (stored_file files c f) ≡ m.q
placed_stored files c f m = ap (λ (q : Placed). placed_here f q.place) (chosen_is files f m) ∙ ap (λ (g : Listed). placed_here g m.q.place) (sym m.same)
  where
    placed_here : Listed → ℕ → Placed
    placed_here g n = record { file = g; place = n }

pub chosen_stored : (files : List Placed) (c : List ℕ) (listed : List Listed) → All (λ f. is_some (placed_as files f) ≡ true) listed → map (chosen files) listed ≡ map placed_of (map (stored_file files c) listed)
chosen_stored files c [] held = refl
chosen_stored files c (f ∷ listed) held =
    let m : Member files f = member files f (held zero f (omega arith)) in
    ap (λ (q : Placed). q ∷ map (chosen files) listed) (chosen_is files f m ∙ sym (placed_stored files c f m)) ∙ ap (λ (l : List Placed). placed_of (stored_file files c f) ∷ l) (chosen_stored files c listed (λ k d lt. held (suc k) d (omega (arith, lt))))

-- the chosen files are the listed ones
pub chosen_files : (files : List Placed) (listed : List Listed) → All (λ f. is_some (placed_as files f) ≡ true) listed → map (λ p. p.file) (map (chosen files) listed) ≡ listed
chosen_files files [] held = refl
chosen_files files (f ∷ listed) held =
    let m : Member files f = member files f (held zero f (omega arith)) in
    ap (λ (g : Listed). g ∷ map (λ p. p.file) (map (chosen files) listed)) (ap (λ (q : Placed). q.file) (chosen_is files f m) ∙ m.same) ∙ ap (λ (l : List Listed). f ∷ l) (chosen_files files listed (λ k d lt. held (suc k) d (omega (arith, lt))))

-- the entries of a table
entry_same : (f : StoredFile) → placed_entry (placed_of f) ≡ entry f
unfolding placed_entry entry
entry_same f = refl

pub entries_same : (files : List StoredFile) → flat_map placed_entry (map placed_of files) ≡ flat_map entry files
entries_same [] = refl
entries_same (f ∷ files) = ap (λ (l : List ℕ). l ++ flat_map placed_entry (map placed_of files)) (entry_same f) ∙ ap (λ (l : List ℕ). entry f ++ l) (entries_same files)

-- a file that is read out of place, where there is none
nothing_listed : Listed
nothing_listed = record { media = record { 0 = 0 }; length = 0; md5 = [] }

-- what holds of each stored file
each_stored : (files : List Placed) (c : List ℕ) (listed : List Listed) (P : StoredFile → Type 0) → ((k : ℕ) → k < length listed → P (stored_file files c (get_or listed k nothing_listed))) → All P (map (stored_file files c) listed)
each_stored files c listed P each k d lt =
    let near : k < length listed = omega (arith, lt, length-map listed (stored_file files c)) in
    subst P (sym (get_or-map (stored_file files c) listed k nothing_listed d near)) (each k near)

member_at : (files : List Placed) (listed : List Listed) (k : ℕ) → All (λ f. is_some (placed_as files f) ≡ true) listed → k < length listed → Member files (get_or listed k nothing_listed)
member_at files listed k held lt = member files (get_or listed k nothing_listed) (held k nothing_listed lt)

placed_member : (room : ℕ) (files : List Placed) (f : Listed) (m : Member files f) → All (IsPlaced room) files → IsPlaced room m.q
placed_member room files f m placed = subst (IsPlaced room) (m.at m.q) (placed m.k m.q m.lt)

stored_extent : (files : List Placed) (c : List ℕ) (f : Listed) (m : Member files f) → IsExtent (stored_file files c f)
stored_extent files c f m = ((chosen files f).place, refl)

-- two stored files of different ids are apart
apart_members : (files : List Placed) (f g : Listed) (m : Member files f) (n : Member files g) → AreApart files → f.media.0 < g.media.0 → IsClear n.q.place n.q.file.length (segment_of m.q)
apart_members files f g m n apart ids = elim (cases_lt m.k n.k) [
  | inl before ↦ subst (λ (p : Placed). IsClear n.q.place n.q.file.length (segment_of p)) (m.at m.q) (subst (λ (p : Placed). IsClear p.place p.file.length (segment_of (get_or files m.k m.q))) (n.at m.q) (apart m.k n.k m.q before n.lt))
  | inr later ↦ elim (cases_eq m.k n.k) [
    | inl same ↦
        let one : m.q ≡ n.q = sym (m.at m.q) ∙ ap (λ (k : ℕ). get_or files k m.q) same ∙ n.at m.q in
        let ids_same : f.media.0 ≡ g.media.0 = ap (λ (l : Listed). l.media.0) (sym m.same ∙ ap (λ (p : Placed). p.file) one ∙ n.same) in
        absurd (omega (arith, ids, ids_same))
    | inr differ ↦
        let after : n.k < m.k = omega (arith, later, differ) in
        let pair : IsClear m.q.place m.q.file.length (segment_of n.q) = subst (λ (p : Placed). IsClear m.q.place m.q.file.length (segment_of p)) (n.at m.q) (subst (λ (p : Placed). IsClear p.place p.file.length (segment_of (get_or files n.k m.q))) (m.at m.q) (apart n.k m.k m.q after m.lt)) in
        elim pair [
          | inl below ↦ inr below
          | inr above ↦ inl above
        ]
  ]
]

-- the files of a new snapshot are sound
pub stored_snapshot : (room number : ℕ) (text : List ℕ) (files : List Placed) (c : List ℕ) (listed : List Listed) → (1 ≤ number) × (number < 2 ^ 32) → (1 ≤ length text) × (length text ≤ MANIFEST_TEXT) → length listed ≤ MANIFEST_FILES → AllPairs (λ f g. f.media.0 < g.media.0) listed → All (λ f. is_some (placed_as files f) ≡ true) listed → All (IsPlaced room) files → All (λ p. length p.file.md5 ≡ 16) files → AreApart files → IsSnapshot room number text (map (stored_file files c) listed)
stored_snapshot room number text files c listed number_ok text_ok few ascending held placed whole apart =
    let F : List StoredFile = map (stored_file files c) listed in
    let m : (k : ℕ) → (lt : k < length listed) → Member files (get_or listed k nothing_listed) = λ k lt. member_at files listed k held lt in
    let is : (k : ℕ) → (lt : k < length listed) → IsPlaced room (m k lt).q = λ k lt. placed_member room files (get_or listed k nothing_listed) (m k lt) placed in
    let extents : All IsExtent F = each_stored files c listed IsExtent (λ k lt. stored_extent files c (get_or listed k nothing_listed) (m k lt)) in
    record {
      numbered = number_ok;
      long = text_ok;
      listed = record {
        few = omega (arith, few, length-map listed (stored_file files c));
        ids = each_stored files c listed (λ f. (1 ≤ f.listed.media.0) × (f.listed.media.0 < 2 ^ 32)) (λ k lt. subst (λ (l : Listed). (1 ≤ l.media.0) × (l.media.0 < 2 ^ 32)) (m k lt).same (is k lt).media);
        ascending = rising listed ascending;
        lengths = each_stored files c listed (λ f. (1 ≤ f.listed.length) × (f.listed.length ≤ MAX_FILE_LEN)) (λ k lt. subst (λ (l : Listed). (1 ≤ l.length) × (l.length ≤ MAX_FILE_LEN)) (m k lt).same (is k lt).length);
        digests = each_stored files c listed (λ f. length f.listed.md5 ≡ 16) (λ k lt. subst (λ (l : Listed). length l.md5 ≡ 16) (m k lt).same (subst (λ (p : Placed). length p.file.md5 ≡ 16) ((m k lt).at (m k lt).q) (whole (m k lt).k (m k lt).q (m k lt).lt)));
      };
      extents = extents;
      inside = each_stored files c listed (λ f. All (IsInside room) (taken f)) (λ k lt. subst (All (IsInside room)) (sym (stored_taken files c (get_or listed k nothing_listed) (m k lt))) (one_inside (m k lt).q (is k lt).inside));
      apart = apart_extents F extents (pairs listed ascending held);
    }
  where
    one_inside : (q : Placed) → IsInside room (segment_of q) → All (IsInside room) (segment_of q ∷ [])
    one_inside q inside zero d lt = inside
    one_inside q inside (suc k) d lt = absurd (omega (arith, lt))

    rising : (l : List Listed) → AllPairs (λ f g. f.media.0 < g.media.0) l → AllPairs (λ f g. f.listed.media.0 < g.listed.media.0) (map (stored_file files c) l)
    rising l up i j d lt below =
        let far : j < length l = omega (arith, below, length-map l (stored_file files c)) in
        let near : i < length l = omega (arith, lt, far) in
        let first : get_or (map (stored_file files c) l) i d ≡ stored_file files c (get_or l i nothing_listed) = get_or-map (stored_file files c) l i nothing_listed d near in
        let second : get_or (map (stored_file files c) l) j d ≡ stored_file files c (get_or l j nothing_listed) = get_or-map (stored_file files c) l j nothing_listed d far in
        omega (arith, up i j nothing_listed lt far, ap (λ (f : StoredFile). f.listed.media.0) first, ap (λ (f : StoredFile). f.listed.media.0) second)

    pairs : (l : List Listed) → AllPairs (λ f g. f.media.0 < g.media.0) l → All (λ f. is_some (placed_as files f) ≡ true) l → AllPairs (λ f g. IsClear (place_of g.stand) g.listed.length (extent_of f)) (map (stored_file files c) l)
    pairs l up has i j d lt below =
        let far : j < length l = omega (arith, below, length-map l (stored_file files c)) in
        let near : i < length l = omega (arith, lt, far) in
        let f : Listed = get_or l i nothing_listed in
        let g : Listed = get_or l j nothing_listed in
        let mf : Member files f = member_at files l i has near in
        let mg : Member files g = member_at files l j has far in
        let first : get_or (map (stored_file files c) l) i d ≡ stored_file files c f = get_or-map (stored_file files c) l i nothing_listed d near in
        let second : get_or (map (stored_file files c) l) j d ≡ stored_file files c g = get_or-map (stored_file files c) l j nothing_listed d far in
        let clear : IsClear mg.q.place mg.q.file.length (segment_of mf.q) = apart_members files f g mf mg apart (up i j nothing_listed lt far) in
        let left : IsClear mg.q.place mg.q.file.length (segment_of (placed_of (stored_file files c f))) = subst (λ (p : Placed). IsClear mg.q.place mg.q.file.length (segment_of p)) (sym (placed_stored files c f mf)) clear in
        let both : IsClear (placed_of (stored_file files c g)).place (placed_of (stored_file files c g)).file.length (segment_of (placed_of (stored_file files c f))) = subst (λ (p : Placed). IsClear p.place p.file.length (segment_of (placed_of (stored_file files c f)))) (sym (placed_stored files c g mg)) left in
        subst (λ (x : StoredFile). IsClear (place_of (get_or (map (stored_file files c) l) j d).stand) (get_or (map (stored_file files c) l) j d).listed.length (extent_of x)) (sym first) (subst (λ (y : StoredFile). IsClear (place_of y.stand) y.listed.length (extent_of (stored_file files c f))) (sym second) both)

-- and the disk holds them
pub stored_held : (room : ℕ) (files : List Placed) (c : List ℕ) (listed : List Listed) → length c ≡ DATA + room → All (λ f. is_some (placed_as files f) ≡ true) listed → All (IsPlaced room) files → All (IsWhole c) files → AreFiles (map (stored_file files c) listed) (range c DATA room)
stored_held room files c listed size held placed whole = each_stored files c listed (IsHeld (range c DATA room)) (λ k lt. one (get_or listed k nothing_listed) (member_at files listed k held lt))
  where
    one : (f : Listed) → Member files f → IsHeld (range c DATA room) (stored_file files c f)
    one f m =
        let is : IsPlaced room m.q = placed_member room files f m placed in
        let good : IsWhole c m.q = subst (IsWhole c) (m.at m.q) (whole m.k m.q m.lt) in
        let place : DATA + (m.q.place - DATA) ≡ m.q.place = omega (arith, is.inside.0) in
        let there : range (range c DATA room) (m.q.place - DATA) m.q.file.length ≡ range c m.q.place m.q.file.length = range-range c DATA room (m.q.place - DATA) m.q.file.length (omega (arith, is.inside.0, is.inside.1)) ∙ ap (λ (p : ℕ). range c p m.q.file.length) place in
        let bytes : (stored_file files c f).bytes ≡ range c m.q.place m.q.file.length ++ [] = ap (λ (s : StoredFile). s.bytes) (stored_is files c f m) in
        record {
          there = ap (λ (l : List Segment). flat_map (λ s. range (range c DATA room) (s.place - DATA) s.size) l) (stored_parts files c f m) ∙ ap (λ (l : List ℕ). l ++ []) there ∙ sym bytes;
          long = ap length bytes ∙ ap length (append-nil (range c m.q.place m.q.file.length)) ∙ length-range c m.q.place m.q.file.length (omega (arith, size, is.inside.1)) ∙ ap (λ (l : Listed). l.length) m.same;
          digest = ap md5 bytes ∙ good ∙ ap (λ (l : Listed). l.md5) m.same;
        }

-- what is chosen stands in the data area
pub chosen_placed : (room : ℕ) (files : List Placed) (listed : List Listed) → All (λ f. is_some (placed_as files f) ≡ true) listed → All (IsPlaced room) files → All (IsPlaced room) (map (chosen files) listed)
chosen_placed room files listed held placed k d lt =
    let near : k < length listed = omega (arith, lt, length-map listed (chosen files)) in
    let m : Member files (get_or listed k nothing_listed) = member_at files listed k held near in
    subst (IsPlaced room) (sym (get_or-map (chosen files) listed k nothing_listed d near ∙ chosen_is files (get_or listed k nothing_listed) m)) (placed_member room files (get_or listed k nothing_listed) m placed)
