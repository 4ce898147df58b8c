-- What is staged beside the snapshot.
use Rattle.std.proofs.Common.{◌≡◌, ◌⊎◌, inl, inr, ℕ, zero, suc, ◌+◌, ◌<◌, ◌≤◌, Bool, List, [], ◌∷◌, ◌++◌, length, get_or, Option, None, Some, option_map, find, filter, cond, map, take, drop, MatchOption, All, AllPairs, IfSome, IsSomeAnd, refl, sym, ◌∙◌, ap, subst, arith, length-append}
use Rattle.std.proofs.lemmas.Bool.{cases_lt, cases_Bool}
use Rattle.std.proofs.lemmas.List.{append-nil, append_assoc, get_or_append_left, get_or_push, length_push, get_or-map, length-map, map-append, drop-drop}
use Rattle.std.proofs.Math.Seq.{take-add}
use Rattle.std.proofs.lemmas.List.Folds.{find-append}
use Rattle.std.proofs.lemmas.List.Elements.{All-append, All-push, All-filter}
use Rattle.sg_placing.proofs.GapLemmas.{All-front, All-back}
use Rattle.std.proofs.lemmas.List.Quantifiers.{all_pairs_push}
use Rattle.std.specs.Option.{option_or}
use Rattle.md5.specs.Md5.{md5, Holds}
use Rattle.sg_disk.specs.View.{View, range, put, Torn, Written, Passed, Elapses, Follows}
use Rattle.sg_disk.specs.Runs.{LeavesOnly, Within}
use Rattle.sg_disk.specs.Contents.{Segment, StoredFile, Contents, IsClear, AreClear, IsLawful}
use Rattle.sg_disk.specs.Contents.{Extent}
use Rattle.sg_disk.specs.StandsFor.{IsOpen, IsCurrent, StandsFor, Settled}
use Rattle.sg_disk.specs.declared.places.TheConstants.{DATA, JOURNAL, SLOT_LEN, SLOT_ONE, SLOT_ZERO}
use Rattle.sg_disk.proofs.Ranges.{range_kept, range_put, put_is_torn, length-range}
use Rattle.sg_disk.proofs.Moments.{one_call}
use Rattle.sg_disk.proofs.Writes.{one_kept, bytes_kept, within_wider}
use Rattle.sg_disk.proofs.Standing.{settled_read, settled_leaves}
use Rattle.sg_disk.proofs.Extents.{clear_extents}
use Rattle.sg_disk.proofs.Areas.{staged}
use Rattle.sg_slots.specs.Slots.{slot_of, opposite}
use Rattle.sg_slots.specs.declared.slots.Slot.{Slot}
use Rattle.sg_slots.specs.declared.slots.Slot.TheVariants.{Zero, One}
use Rattle.sg_store.proofs.FileLemmas.{so_far, all_so_far, none_so_far, files_kept}
use Rattle.sg_store.proofs.OpenLemmas.{extents_of}
use Rattle.sg_placing.specs.Placing.{segment_of, segments_of_placed, placed_of, IsPlaced, IsFree, IsLongest, AreApart}
use Rattle.sg_placing.specs.declared.placed.Placed.{Placed}
use Rattle.sg_store.specs.Halves.{half_files}
use Rattle.sg_store.specs.Ready.{whole_files, taken_files, bytes_so_far, file_at, sealed_files, half_file, IsWhole, IsBegun, HasStaged, KeepsSnapshot, Knows, IsHalf, IsReady}
use Rattle.sg_store.specs.declared.store.Store.{Store}
use Rattle.sg_store.specs.declared.store.Half.{Half}

-- where no gap has the bytes, the longest one is shorter
pub refused_gap : (room need longest : ℕ) (taken : List Placed) → 1 ≤ need → ((q : ℕ) → IsFree room taken need q → ⊥) → IsLongest room taken longest → longest < need
refused_gap room need longest taken some none is = elim (cases_lt longest need) [
  | inl short ↦ short
  | inr long ↦
      let found = is.found (omega (arith, some, long)) in
      absurd (none found.0 (record { low = found.1.low; high = omega (arith, found.1.high, long); clear = smaller found.0 long found.1.clear }))
]
  where
    smaller : (place : ℕ) → need ≤ longest → All (λ p. IsClear place longest (segment_of p)) taken → All (λ p. IsClear place need (segment_of p)) taken
    smaller place le clear k d lt = elim (clear k d lt) [
      | inl below ↦ inl below
      | inr above ↦ inr (omega (arith, above, le))
    ]

-- a file more, apart from the others
pub apart_more : (files : List Placed) (p : Placed) → AreApart files → All (λ q. IsClear p.place p.file.length (segment_of q)) files → AreApart (files ++ p ∷ [])
apart_more files p apart clear = all_pairs_push (λ q r. IsClear r.place r.file.length (segment_of q)) files p apart clear

-- a file is begun in a gap
pub begun_in_gap : (old new : Store) (c : List ℕ) (room : ℕ) (half : Half) → new.current ≡ old.current → new.staged ≡ old.staged → old.half ≡ None → new.half ≡ Some half → half.count ≡ 0 → Holds half.hasher [] → IsFree room (taken_files old) half.placed.file.length half.placed.place → HasStaged old c → HasStaged new c
begun_in_gap old new c room half current staged idle is count holds free has =
    let whole : whole_files new ≡ whole_files old = ap (λ (l : List Placed). l ++ new.staged) current ∙ ap (λ (l : List Placed). old.current ++ l) staged in
    let before : taken_files old ≡ whole_files old = ap (λ (h : Option Half). whole_files old ++ half_files h) idle ∙ append-nil (whole_files old) in
    let taken : taken_files new ≡ whole_files old ++ half.placed ∷ [] = ap (λ (h : Option Half). whole_files new ++ half_files h) is ∙ ap (λ (l : List Placed). l ++ half.placed ∷ []) whole in
    let Clear : List Placed → Type 0 = λ l. All (λ q. IsClear half.placed.place half.placed.file.length (segment_of q)) l in
    record {
      whole = subst (All (IsWhole c)) (sym whole) has.whole;
      begun = subst (λ (h : Option Half). IfSome h (IsBegun c)) (sym is) (subst (Holds half.hasher) (sym (none_so_far c half count)) holds);
      apart = subst AreApart (sym taken) (apart_more (whole_files old) half.placed (subst AreApart before has.apart) (subst Clear before free.clear));
    }

-- the lists that a search for a gap goes over, where nothing is half staged
pub taken_idle : (s : Store) (xs ys : List Placed) → xs ≡ s.current → ys ≡ s.staged → s.half ≡ None → xs ++ ys ≡ taken_files s
taken_idle s xs ys first second idle =
    ap (λ (l : List Placed). l ++ ys) first ∙ ap (λ (l : List Placed). s.current ++ l) second ∙ sym (append-nil (whole_files s)) ∙ ap (λ (h : Option Half). whole_files s ++ half_files h) (sym idle)

-- pairs of a list, by its front
pairs_tail : {X : Type 0} (R : X → X → Type 0) (x : X) (xs : List X) → AllPairs R (x ∷ xs) → AllPairs R xs
pairs_tail R x xs all i j d lt below = all (suc i) (suc j) d (omega (arith, lt)) (omega (arith, below))

pairs_head : {X : Type 0} (R : X → X → Type 0) (x : X) (xs : List X) → AllPairs R (x ∷ xs) → All (R x) xs
pairs_head R x xs all k d lt = all zero (suc k) d (omega arith) (omega (arith, lt))

pairs_cons : {X : Type 0} (R : X → X → Type 0) (x : X) (xs : List X) → All (R x) xs → AllPairs R xs → AllPairs R (x ∷ xs)
pairs_cons R x xs one rest zero zero d lt below = absurd (omega (arith, lt))
pairs_cons R x xs one rest zero (suc j) d lt below = one j d (omega (arith, below))
pairs_cons R x xs one rest (suc i) zero d lt below = absurd (omega (arith, lt))
pairs_cons R x xs one rest (suc i) (suc j) d lt below = rest i j d (omega (arith, lt)) (omega (arith, below))

pub pairs_front : {X : Type 0} (R : X → X → Type 0) (xs ys : List X) → AllPairs R (xs ++ ys) → AllPairs R xs
pairs_front R [] ys all = λ i j d lt below. absurd (omega (arith, below))
pairs_front R (x ∷ xs) ys all = pairs_cons R x xs (All-front (R x) xs ys (pairs_head R x (xs ++ ys) all)) (pairs_front R xs ys (pairs_tail R x (xs ++ ys) all))

-- with some of the middle left out
all_fewer : {X : Type 0} (P : X → Type 0) (test : X → Bool) (xs ys zs : List X) → All P (xs ++ (ys ++ zs)) → All P (xs ++ (filter test ys ++ zs))
all_fewer P test xs ys zs all =
    let rest : All P (ys ++ zs) = All-back P xs (ys ++ zs) all in
    All-append P xs (filter test ys ++ zs) (All-front P xs (ys ++ zs) all) (All-append P (filter test ys) zs (All-filter test P ys (All-front P ys zs rest)) (All-back P ys zs rest))

pairs_fewer_front : {X : Type 0} (R : X → X → Type 0) (test : X → Bool) (ys zs : List X) → AllPairs R (ys ++ zs) → AllPairs R (filter test ys ++ zs)
pairs_fewer_front R test [] zs all = all
pairs_fewer_front {X} R test (y ∷ ys) zs all =
    let rest : AllPairs R (filter test ys ++ zs) = pairs_fewer_front R test ys zs (pairs_tail R y (ys ++ zs) all) in
    let one : All (R y) (filter test ys ++ zs) = all_fewer (R y) test [] ys zs (pairs_head R y (ys ++ zs) all) in
    elim (cases_Bool (test y)) [
      | inl passes ↦ subst (λ (b : Bool). AllPairs R (cond b (y ∷ filter test ys) (filter test ys) ++ zs)) (sym passes) (pairs_cons R y (filter test ys ++ zs) one rest)
      | inr fails ↦ subst (λ (b : Bool). AllPairs R (cond b (y ∷ filter test ys) (filter test ys) ++ zs)) (sym fails) rest
    ]

pub pairs_fewer : {X : Type 0} (R : X → X → Type 0) (test : X → Bool) (xs ys zs : List X) → AllPairs R (xs ++ (ys ++ zs)) → AllPairs R (xs ++ (filter test ys ++ zs))
pairs_fewer R test [] ys zs all = pairs_fewer_front R test ys zs all
pairs_fewer R test (x ∷ xs) ys zs all =
    pairs_cons R x (xs ++ (filter test ys ++ zs)) (all_fewer (R x) test xs ys zs (pairs_head R x (xs ++ (ys ++ zs)) all)) (pairs_fewer R test xs ys zs (pairs_tail R x (xs ++ (ys ++ zs)) all))

-- some sealed files are given up, and maybe the half staged one
pub kept_staged : (old new : Store) (c : List ℕ) (test : Placed → Bool) → new.current ≡ old.current → new.staged ≡ filter test old.staged → (new.half ≡ old.half) ⊎ (new.half ≡ None) → HasStaged old c → HasStaged new c
kept_staged old new c test current staged half has =
    let whole : whole_files new ≡ old.current ++ filter test old.staged = ap (λ (l : List Placed). l ++ new.staged) current ∙ ap (λ (l : List Placed). old.current ++ l) staged in
    let Apart : Placed → Placed → Type 0 = λ p q. IsClear q.place q.file.length (segment_of p) in
    let all : AllPairs Apart (old.current ++ (old.staged ++ half_files old.half)) = subst (AllPairs Apart) (append_assoc old.current old.staged (half_files old.half)) has.apart in
    let fewer : AllPairs Apart (old.current ++ (filter test old.staged ++ half_files old.half)) = pairs_fewer Apart test old.current old.staged (half_files old.half) all in
    let joined : AllPairs Apart (old.current ++ filter test old.staged ++ half_files old.half) = subst (AllPairs Apart) (sym (append_assoc old.current (filter test old.staged) (half_files old.half))) fewer in
    let kept : All (IsWhole c) (old.current ++ filter test old.staged) = All-append (IsWhole c) old.current (filter test old.staged) (All-front (IsWhole c) old.current old.staged has.whole) (All-filter test (IsWhole c) old.staged (All-back (IsWhole c) old.current old.staged has.whole)) in
    record {
      whole = subst (All (IsWhole c)) (sym whole) kept;
      begun = elim half [
        | inl same ↦ subst (λ (h : Option Half). IfSome h (IsBegun c)) (sym same) has.begun
        | inr none ↦ subst (λ (h : Option Half). IfSome h (IsBegun c)) (sym none) tt
      ];
      apart = elim half [
        | inl same ↦ subst (AllPairs Apart) (sym (ap (λ (l : List Placed). l ++ half_files new.half) whole ∙ ap (λ (h : Option Half). old.current ++ filter test old.staged ++ half_files h) same)) joined
        | inr none ↦ subst (AllPairs Apart) (sym (ap (λ (l : List Placed). l ++ half_files new.half) whole ∙ ap (λ (h : Option Half). old.current ++ filter test old.staged ++ half_files h) none ∙ append-nil (old.current ++ filter test old.staged))) (pairs_front Apart (old.current ++ filter test old.staged) (half_files old.half) joined)
      ];
    }

-- the half staged file is given up
pub dropped_staged : (old new : Store) (c : List ℕ) → new.current ≡ old.current → new.staged ≡ old.staged → new.half ≡ None → HasStaged old c → HasStaged new c
dropped_staged old new c current staged half has =
    let whole : whole_files new ≡ whole_files old = ap (λ (l : List Placed). l ++ new.staged) current ∙ ap (λ (l : List Placed). old.current ++ l) staged in
    let Apart : Placed → Placed → Type 0 = λ p q. IsClear q.place q.file.length (segment_of p) in
    let taken : taken_files new ≡ whole_files old = ap (λ (h : Option Half). whole_files new ++ half_files h) half ∙ append-nil (whole_files new) ∙ whole in
    record {
      whole = subst (All (IsWhole c)) (sym whole) has.whole;
      begun = subst (λ (h : Option Half). IfSome h (IsBegun c)) (sym half) tt;
      apart = subst (AllPairs Apart) (sym taken) (pairs_front Apart (whole_files old) (half_files old.half) has.apart);
    }

-- the half staged file is sealed
pub sealed_staged : (old new : Store) (c : List ℕ) (half : Half) → old.half ≡ Some half → new.current ≡ old.current → new.staged ≡ old.staged ++ half.placed ∷ [] → new.half ≡ None → half.count ≡ half.placed.file.length → ((bytes : List ℕ) → Holds half.hasher bytes → md5 bytes ≡ half.placed.file.md5) → HasStaged old c → HasStaged new c
sealed_staged old new c half was current staged idle count digest has =
    let p : Placed = half.placed in
    let whole : whole_files new ≡ whole_files old ++ p ∷ [] = ap (λ (l : List Placed). l ++ new.staged) current ∙ ap (λ (l : List Placed). old.current ++ l) staged ∙ sym (append_assoc old.current old.staged (p ∷ [])) in
    let Apart : Placed → Placed → Type 0 = λ p q. IsClear q.place q.file.length (segment_of p) in
    let before : taken_files old ≡ whole_files old ++ p ∷ [] = ap (λ (h : Option Half). whole_files old ++ half_files h) was in
    let taken : taken_files new ≡ whole_files old ++ p ∷ [] = ap (λ (h : Option Half). whole_files new ++ half_files h) idle ∙ append-nil (whole_files new) ∙ whole in
    let begun : Holds half.hasher (bytes_so_far c half) = subst (λ (h : Option Half). IfSome h (IsBegun c)) was has.begun in
    record {
      whole = subst (All (IsWhole c)) (sym whole) (All-push (IsWhole c) (whole_files old) p has.whole (ap md5 (sym (all_so_far c half count)) ∙ digest (bytes_so_far c half) begun));
      begun = subst (λ (h : Option Half). IfSome h (IsBegun c)) (sym idle) tt;
      apart = subst (AllPairs Apart) (sym taken) (subst (AllPairs Apart) before has.apart);
    }

-- the file that comes last is clear of the others
pub last_clear : (files : List Placed) (p : Placed) → AreApart (files ++ p ∷ []) → All (λ q. IsClear p.place p.file.length (segment_of q)) files
last_clear files p apart k d lt =
    let all : List Placed = files ++ p ∷ [] in
    let pair = apart k (length files) d lt (omega (arith, length_push files p)) in
    let first : get_or all k d ≡ get_or files k d = get_or_append_left files (p ∷ []) d k lt in
    let second : get_or all (length files) d ≡ p = get_or_push files p d (length files) refl in
    subst (λ (q : Placed). IsClear p.place p.file.length (segment_of q)) first (subst (λ (q : Placed). IsClear q.place q.file.length (segment_of (get_or all k d))) second pair)

-- a part of a range that is clear
pub part_clear : (place n p l : ℕ) (s : Segment) → place ≤ p → p + l ≤ place + n → IsClear place n s → IsClear p l s
part_clear place n p l s low high (inl below) = inl (omega (arith, below, low))
part_clear place n p l s low high (inr above) = inr (omega (arith, above, high))

-- the bytes of the half staged file that come next are clear of the files that are whole
pub half_clear : (s : Store) (c : List ℕ) (half : Half) (n : ℕ) → s.half ≡ Some half → half.count + n ≤ half.placed.file.length → HasStaged s c → All (λ q. IsClear (half.placed.place + half.count) n (segment_of q)) (whole_files s)
half_clear s c half n is fits has k d lt =
    let all : AreApart (whole_files s ++ half.placed ∷ []) = subst (λ (h : Option Half). AreApart (whole_files s ++ half_files h)) is has.apart in
    part_clear half.placed.place half.placed.file.length (half.placed.place + half.count) n (segment_of (get_or (whole_files s) k d)) (omega arith) (omega (arith, fits)) (last_clear (whole_files s) half.placed all k d lt)

-- and so of the files of the contents
pub contents_clear : (s : Store) (p : Contents) (place n : ℕ) → s.current ≡ map placed_of p.files → IsLawful p → All (λ q. IsClear place n (segment_of q)) (whole_files s) → AreClear place n p.files
contents_clear s p place n files lawful clear =
    let current : All (λ q. IsClear place n (segment_of q)) (map placed_of p.files) = subst (λ (l : List Placed). All (λ q. IsClear place n (segment_of q)) l) files (All-front (λ q. IsClear place n (segment_of q)) s.current s.staged clear) in
    clear_extents place n p.files (extents_of p lawful) (λ k d lt. subst (λ (q : Placed). IsClear place n (segment_of q)) (get_or-map placed_of p.files k d (placed_of d) lt) (current k (placed_of d) (omega (arith, lt, length-map p.files placed_of))))

-- at every moment of a write that is clear of the files, each image stands for the contents
pub staged_moments : (v w : View) (p : Contents) (place n : ℕ) → DATA ≤ place → place + n ≤ DATA + p.room → AreClear place n p.files → Settled v p → Elapses v w → Follows (Torn place n) v w → LeavesOnly (StandsFor p) v w
staged_moments v w p place n low high clear settled time follows =
    one_call v w (StandsFor p) settled.each time (λ c now. let was = follows c now in staged p was.0 c place n low high clear was.2 (settled.each was.0 was.1))

-- what the store knows of the slots
pub knows_kept : (s t : Store) (p : Contents) (c d : List ℕ) → KeepsSnapshot s t → slot_of Zero d ≡ slot_of Zero c → slot_of One d ≡ slot_of One c → Knows s p c → Knows t p d
knows_kept s t p c d keeps first second knows =
    let here : (x : Slot) → slot_of x d ≡ slot_of x c = λ x. at x in
    let spare : slot_of t.spare d ≡ slot_of s.spare c = ap (λ (x : Slot). slot_of x d) keeps.spare ∙ here s.spare in
    let current : slot_of (opposite t.spare) d ≡ slot_of (opposite s.spare) c = ap (λ (x : Slot). slot_of (opposite x) d) keeps.spare ∙ here (opposite s.spare) in
    record {
      display = keeps.display ∙ knows.display;
      epoch = keeps.epoch ∙ knows.epoch;
      room = keeps.room ∙ knows.room;
      number = keeps.number ∙ knows.number;
      text = keeps.text ∙ knows.text;
      files = keeps.current ∙ knows.files;
      slot = subst (λ (a : List ℕ). MatchOption p.text (Unit {0}) (λ text. IsCurrent p.room p.number text p.files a (slot_of t.spare d))) (sym current) (subst (λ (b : List ℕ). MatchOption p.text (Unit {0}) (λ text. IsCurrent p.room p.number text p.files (slot_of (opposite s.spare) c) b)) (sym spare) knows.slot);
      gate = (
        λ yes. subst IsOpen (sym spare) (knows.gate.0 (sym keeps.spare_open ∙ yes)),
        λ open_now. keeps.spare_open ∙ knows.gate.1 (subst IsOpen spare open_now),
      );
    }
  where
    at : (x : Slot) → slot_of x d ≡ slot_of x c
    at Zero = first
    at One = second

-- the bytes of a file where nothing of it is written
pub whole_kept : (place n : ℕ) (c d : List ℕ) (q : Placed) → Torn place n c d → IsClear place n (segment_of q) → IsWhole c q → IsWhole d q
whole_kept place n c d q torn clear whole = ap (λ (l : List ℕ). md5 (l ++ [])) (range_kept place n q.place q.file.length c d torn clear) ∙ whole

range_parts : (c : List ℕ) (p k n : ℕ) → range c p (k + n) ≡ range c p k ++ range c (p + k) n
unfolding range
range_parts c p k n = take-add k n (drop p c) ∙ ap (λ (l : List ℕ). take k (drop p c) ++ take n l) (drop-drop k p c)

-- the bytes that came before, and those that are written behind them
pub bytes_behind : (c : List ℕ) (p k : ℕ) (bs : List ℕ) → p + k + length bs ≤ length c → range (put c (p + k) bs) p (k + length bs) ≡ range c p k ++ bs
bytes_behind c p k bs fits =
    let d : List ℕ = put c (p + k) bs in
    let torn : Torn (p + k) (length bs) c d = put_is_torn c (p + k) bs fits in
    range_parts d p k (length bs) ∙ ap (λ (l : List ℕ). l ++ range d (p + k) (length bs)) (range_kept (p + k) (length bs) p k c d torn (inl (omega arith))) ∙ ap (λ (l : List ℕ). range c p k ++ l) (range_put c (p + k) bs fits)

-- what has come of a file, with the bytes that are written behind it
more_so_far : (c : List ℕ) (half next : Half) (bs : List ℕ) → next.placed ≡ half.placed → next.count ≡ half.count + length bs → half.count + length bs ≤ half.placed.file.length → half.placed.place + half.count + length bs ≤ length c → bytes_so_far (put c (half.placed.place + half.count) bs) next ≡ bytes_so_far c half ++ bs
more_so_far c half next bs placed count fits room =
    let d : List ℕ = put c (half.placed.place + half.count) bs in
    let near : next.count ≤ next.placed.file.length = omega (arith, count, fits, ap (λ (q : Placed). q.file.length) placed) in
    so_far d next near ∙ ap (λ (q : Placed). range d q.place next.count) placed ∙ ap (λ (n : ℕ). range d half.placed.place n) count ∙ bytes_behind c half.placed.place half.count bs room ∙ ap (λ (l : List ℕ). l ++ bs) (sym (so_far c half (omega (arith, fits))))

-- as many of its bytes stand there as have come
half_long : (s : Store) (p : Contents) (c : List ℕ) (half : Half) → IsPlaced s.room half.placed → half.count ≤ half.placed.file.length → StandsFor p c → Knows s p c → half.count ≡ length (bytes_so_far c half)
half_long s p c half placed fits stands knows =
    sym (ap length (so_far c half fits) ∙ length-range c half.placed.place half.count (omega (arith, stands.size, knows.room, placed.inside.1, fits)))

-- the half staged file with the bytes that stand there
half_stands : (v : View) (s : Store) (p : Contents) (half : Half) → s.half ≡ Some half → IsPlaced s.room half.placed → half.count ≤ half.placed.file.length → IsReady v s p → IsHalf s half.placed (bytes_so_far v.bytes half)
half_stands v s p half is placed fits ready = record {
  half = half;
  is = is;
  placed_is = refl;
  count = half_long s p v.bytes half placed fits (settled_read v p ready.settled) ready.knows;
  holds = subst (λ (h : Option Half). IfSome h (IsBegun v.bytes)) is ready.staged.begun;
}

-- The next bytes of a half staged file are written. The store takes them in
pub record Writes (v w : View) (s t : Store) (half : Half) (bs : List ℕ) : Type 0 where
  pub is : s.half ≡ Some half
  pub placed : IsPlaced s.room half.placed
  pub fits : half.count + length bs ≤ half.placed.file.length
  pub size : v.size ≡ DATA + s.room
  pub call : Passed (Written (half.placed.place + half.count) bs) (Torn (half.placed.place + half.count) (length bs)) v w
  pub keeps : KeepsSnapshot s t
  pub sealed : t.staged ≡ s.staged
  pub takes : (placed : Placed) (before : List ℕ) → IsHalf s placed before → IsHalf t placed (before ++ bs)

-- the store then has the same file half staged, with more bytes
record More (v w : View) (t : Store) (half : Half) (bs : List ℕ) : Type 0 where
  after : IsHalf t half.placed (bytes_so_far v.bytes half ++ bs)
  bytes : bytes_so_far w.bytes after.half ≡ bytes_so_far v.bytes half ++ bs
  torn : Torn (half.placed.place + half.count) (length bs) v.bytes w.bytes

has_more : (v w : View) (s t : Store) (p : Contents) (half : Half) (bs : List ℕ) → Writes v w s t half bs → IsReady v s p → More v w t half bs
has_more v w s t p half bs writes ready =
    let told = ready.settled.told in
    let c : List ℕ = v.bytes in
    let fits : half.count ≤ half.placed.file.length = omega (arith, writes.fits) in
    let long : length c ≡ DATA + s.room = v.sized told ∙ writes.size in
    let room : half.placed.place + half.count + length bs ≤ length c = omega (arith, long, writes.placed.inside.1, writes.fits) in
    let before = half_stands v s p half writes.is writes.placed fits ready in
    let after = writes.takes half.placed (bytes_so_far c half) before in
    let count : after.half.count ≡ half.count + length bs = after.count ∙ length-append (bytes_so_far c half) bs ∙ ap (λ (n : ℕ). n + length bs) (sym (half_long s p c half writes.placed fits (settled_read v p ready.settled) ready.knows)) in
    record {
      after = after;
      bytes = ap (λ (d : List ℕ). bytes_so_far d after.half) (writes.call.bytes told) ∙ more_so_far c half after.half bs after.placed_is count writes.fits room;
      torn = subst (λ (d : List ℕ). Torn (half.placed.place + half.count) (length bs) c d) (sym (writes.call.bytes told)) (put_is_torn c (half.placed.place + half.count) bs room);
    }

-- after the write of the next bytes the store is as ready as before
pub ready_after : (v w : View) (s t : Store) (p : Contents) (half : Half) (bs : List ℕ) → Writes v w s t half bs → Within DATA s.room v w → IsReady v s p → IsReady w t p
ready_after v w s t p half bs writes within ready =
    let told = ready.settled.told in
    let c : List ℕ = v.bytes in
    let place : ℕ = half.placed.place + half.count in
    let more = has_more v w s t p half bs writes ready in
    let clear = half_clear s c half (length bs) writes.is writes.fits ready.staged in
    let lawful : IsLawful p = (settled_read v p ready.settled).lawful in
    let moments = staged_moments v w p place (length bs) (omega (arith, writes.placed.inside.0)) (omega (arith, writes.placed.inside.1, writes.fits, ready.knows.room)) (contents_clear s p place (length bs) ready.knows.files lawful clear) ready.settled writes.call.time writes.call.images in
    let whole : whole_files t ≡ whole_files s = ap (λ (l : List Placed). l ++ t.staged) writes.keeps.current ∙ ap (λ (l : List Placed). s.current ++ l) writes.sealed in
    record {
      settled = settled_leaves v w p told moments writes.call.told;
      front = one_kept DATA s.room 0 JOURNAL v w told (inl (omega arith)) ready.front within;
      knows = knows_kept s t p c w.bytes writes.keeps (bytes_kept DATA s.room SLOT_ZERO SLOT_LEN v w told (inl (omega arith)) within) (bytes_kept DATA s.room SLOT_ONE SLOT_LEN v w told (inl (omega arith)) within) ready.knows;
      staged = record {
        whole = subst (All (IsWhole w.bytes)) (sym whole) (λ k d lt. whole_kept place (length bs) c w.bytes (get_or (whole_files s) k d) more.torn (clear k d lt) (ready.staged.whole k d lt));
        begun = subst (λ (h : Option Half). IfSome h (IsBegun w.bytes)) (sym more.after.is) (subst (Holds more.after.half.hasher) (sym more.bytes) more.after.holds);
        apart = subst AreApart (sym (ap (λ (l : List Placed). l ++ half_files t.half) whole ∙ ap (λ (h : Option Half). whole_files s ++ half_files h) more.after.is ∙ ap (λ (q : Placed). whole_files s ++ q ∷ []) more.after.placed_is ∙ sym (ap (λ (h : Option Half). whole_files s ++ half_files h) writes.is))) ready.staged.apart;
      };
    }

-- the sealed files have the same bytes
pub sealed_after : (v w : View) (s t : Store) (p : Contents) (half : Half) (bs : List ℕ) → Writes v w s t half bs → IsReady v s p → sealed_files t w.bytes ≡ sealed_files s v.bytes
sealed_after v w s t p half bs writes ready =
    let more = has_more v w s t p half bs writes ready in
    let place : ℕ = half.placed.place + half.count in
    let clear = All-back (λ q. IsClear place (length bs) (segment_of q)) s.current s.staged (half_clear s v.bytes half (length bs) writes.is writes.fits ready.staged) in
    ap (λ (l : List Placed). map (file_at w.bytes) l) writes.sealed ∙ files_kept place (length bs) v.bytes w.bytes s.staged more.torn clear

-- a placed file with bytes
with_bytes : Placed → List ℕ → StoredFile
with_bytes q bytes = record { listed = q.file; stand = Extent q.place; bytes = bytes }

-- the file of which a part is staged
half_is : (s : Store) (c : List ℕ) (half : Half) → s.half ≡ Some half → half_file s c ≡ Some (with_bytes half.placed (bytes_so_far c half))
unfolding with_bytes
half_is s c half is = ap (λ (o : Option Half). option_map (λ h. with_bytes h.placed (bytes_so_far c h)) o) is

-- one that was begun has no byte yet
pub half_begun : (s : Store) (c : List ℕ) (p : Placed) → IsHalf s p [] → half_file s c ≡ Some (record (file_at c p) { bytes = [] })
unfolding with_bytes
half_begun s c p has =
    half_is s c has.half has.is ∙ ap (λ (q : Placed). Some (with_bytes q (bytes_so_far c has.half))) has.placed_is ∙ ap (λ (l : List ℕ). Some (with_bytes p l)) (none_so_far c has.half has.count)

-- the file of which a part is staged, with as many bytes as have come
pub record HalfThere (s : Store) (c : List ℕ) (half : Half) : Type 0 where
  pub f : StoredFile
  pub is : half_file s c ≡ Some f
  pub listed : f.listed ≡ half.placed.file
  pub long : length f.bytes ≡ half.count

pub half_there : (s : Store) (p : Contents) (c : List ℕ) (half : Half) → s.half ≡ Some half → StandsFor p c → Knows s p c → HalfThere s c half
unfolding with_bytes
half_there s p c half is stands knows = record {
  f = with_bytes half.placed (bytes_so_far c half);
  is = half_is s c half is;
  listed = refl;
  long = sym (half_long s p c half (s.half_placed half is) (s.half_count half is) stands knows);
}

half_one : (s : Store) (c : List ℕ) (half : Half) (f : StoredFile) → s.half ≡ Some half → half_file s c ≡ Some f → f ≡ with_bytes half.placed (bytes_so_far c half)
half_one s c half f is was = let same : Some f ≡ Some (with_bytes half.placed (bytes_so_far c half)) = sym was ∙ half_is s c half is in cc

-- and the half staged one has more
pub half_after : (v w : View) (s t : Store) (p : Contents) (half : Half) (bs : List ℕ) (f : StoredFile) → Writes v w s t half bs → IsReady v s p → half_file s v.bytes ≡ Some f → half_file t w.bytes ≡ Some (record f { bytes = f.bytes ++ bs })
unfolding with_bytes
half_after v w s t p half bs f writes ready was =
    let more = has_more v w s t p half bs writes ready in
    let one : f ≡ with_bytes half.placed (bytes_so_far v.bytes half) = half_one s v.bytes half f writes.is was in
    half_is t w.bytes more.after.half more.after.is ∙ ap (λ (q : Placed). Some (with_bytes q (bytes_so_far w.bytes more.after.half))) more.after.placed_is ∙ ap (λ (l : List ℕ). Some (with_bytes half.placed l)) more.bytes ∙ ap (λ (g : StoredFile). Some (record g { bytes = g.bytes ++ bs })) (sym one)

-- a file whose bytes have all come goes behind the sealed ones
pub sealed_more : (s : Store) (staged : List Placed) (c : List ℕ) (half : Half) (f : StoredFile) → s.half ≡ Some half → half.count ≡ half.placed.file.length → staged ≡ s.staged ++ half.placed ∷ [] → half_file s c ≡ Some f → map (file_at c) staged ≡ sealed_files s c ++ f ∷ []
unfolding with_bytes
sealed_more s staged c half f is count all was =
    let one : f ≡ with_bytes half.placed (bytes_so_far c half) = half_one s c half f is was in
    let last : file_at c half.placed ≡ f = ap (λ (l : List ℕ). with_bytes half.placed l) (sym (all_so_far c half count)) ∙ sym one in
    ap (λ (l : List Placed). map (file_at c) l) all ∙ map-append (file_at c) s.staged (half.placed ∷ []) ∙ ap (λ (g : StoredFile). sealed_files s c ++ g ∷ []) last

pub sealed_digest : (s : Store) (c : List ℕ) (half : Half) (f : StoredFile) → s.half ≡ Some half → ((bytes : List ℕ) → Holds half.hasher bytes → md5 bytes ≡ half.placed.file.md5) → HasStaged s c → half_file s c ≡ Some f → md5 f.bytes ≡ f.listed.md5
unfolding with_bytes
sealed_digest s c half f is digest has was =
    let one : f ≡ with_bytes half.placed (bytes_so_far c half) = half_one s c half f is was in
    let begun : Holds half.hasher (bytes_so_far c half) = subst (λ (h : Option Half). IfSome h (IsBegun c)) is has.begun in
    ap (λ (g : StoredFile). md5 g.bytes) one ∙ digest (bytes_so_far c half) begun ∙ ap (λ (g : StoredFile). g.listed.md5) (sym one)

-- where the digest differs, so do the bytes that came
pub differs_digest : (s : Store) (c : List ℕ) (half : Half) (f : StoredFile) (found : List ℕ) → s.half ≡ Some half → ((bytes : List ℕ) → Holds half.hasher bytes → md5 bytes ≡ found) → (found ≡ half.placed.file.md5 → ⊥) → HasStaged s c → half_file s c ≡ Some f → (md5 f.bytes ≡ found) × (found ≡ f.listed.md5 → ⊥)
unfolding with_bytes
differs_digest s c half f found is digest other has was =
    let one : f ≡ with_bytes half.placed (bytes_so_far c half) = half_one s c half f is was in
    let begun : Holds half.hasher (bytes_so_far c half) = subst (λ (h : Option Half). IfSome h (IsBegun c)) is has.begun in
    (ap (λ (g : StoredFile). md5 g.bytes) one ∙ digest (bytes_so_far c half) begun, λ same. other (same ∙ ap (λ (g : StoredFile). g.listed.md5) one))

-- a half staged file
pub some_half : (h : Option Half) (P : Half → Type 0) → IsSomeAnd h P → (half : Half) × (h ≡ Some half) × P half
some_half None P none = absurd none
some_half (Some half) P holds = (half, refl, holds)

-- a write in the place of the half staged file is inside the data area, whether it passed or failed
pub staged_within : (v w : View) (s : Store) (half : Half) (place n : ℕ) → place ≡ half.placed.place + half.count → IsPlaced s.room half.placed → half.count + n ≤ half.placed.file.length → Within place n v w → Within DATA s.room v w
staged_within v w s half place n at placed fits within = within_wider place n DATA s.room v w (omega (arith, at, placed.inside.0)) (omega (arith, at, placed.inside.1, fits)) within

pub staged_leaves : (v w : View) (s : Store) (p : Contents) (half : Half) (place n : ℕ) → place ≡ half.placed.place + half.count → s.half ≡ Some half → IsPlaced s.room half.placed → half.count + n ≤ half.placed.file.length → Elapses v w → Follows (Torn place n) v w → IsReady v s p → LeavesOnly (StandsFor p) v w
staged_leaves v w s p half place n at is placed fits time follows ready =
    let clear : All (λ q. IsClear place n (segment_of q)) (whole_files s) = subst (λ (k : ℕ). All (λ q. IsClear k n (segment_of q)) (whole_files s)) (sym at) (half_clear s v.bytes half n is fits ready.staged) in
    let lawful : IsLawful p = (settled_read v p ready.settled).lawful in
    staged_moments v w p place n (omega (arith, at, placed.inside.0)) (omega (arith, at, placed.inside.1, fits, ready.knows.room)) (contents_clear s p place n ready.knows.files lawful clear) ready.settled time follows

-- the first of two lists has it, or the second one does
pub some_found : {X : Type 0} (test : X → Bool) (xs ys : List X) (x : X) → Some x ≡ find test xs → Some x ≡ find test (xs ++ ys)
some_found {X} test xs ys x is = sym (find-append test xs ys ∙ ap (λ (o : Option X). option_or o (find test ys)) (sym is))

pub none_found : {X : Type 0} (test : X → Bool) (xs ys : List X) → None ≡ find test xs → find test ys ≡ find test (xs ++ ys)
none_found {X} test xs ys is = sym (find-append test xs ys ∙ ap (λ (o : Option X). option_or o (find test ys)) (sym is))
