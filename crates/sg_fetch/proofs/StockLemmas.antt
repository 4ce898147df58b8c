-- Bytes that come of a file after others of it.
use Rattle.std.proofs.Common.{◌≡◌, ◌≢◌, ℕ, ◌+◌, ◌%◌, ◌≤◌, ◌==◌, ◌&&◌, ◌||◌, eqb, Bool, true, false, List, [], ◌++◌, None, Some, length, if◌then◌else◌, refl, sym, ◌∙◌, ap, subst, inl, inr, arith}
use Rattle.std.specs.Prelude.{IfSome, IsSomeAnd, option_map}
use Rattle.std.specs.declared.option.Option.{Option}
use Rattle.std.specs.Cmp.Lexicographic.{pointwise}
use Rattle.std.proofs.lemmas.Bool.{and_parts, eqb-true}
use Rattle.std.proofs.lemmas.Slice.Eq.{bytes_eq-Decides}
use Rattle.std.proofs.lemmas.List.{append-nil}
use Rattle.md5.specs.Md5.{md5}
use Rattle.sg_base.specs.declared.file.Listed.{Listed}
use Rattle.sg_base.specs.declared.limits.TheConstants.{PIECE_LEN}
use Rattle.sg_disk.specs.View.{View}
use Rattle.sg_disk.specs.Runs.{Ran}
use Rattle.sg_disk.proofs.Moments.{ran_joined}
use Rattle.sg_exchange.specs.Heard.{Outcome, Whole, LinkFault, NotHttp, Cut, Status, Length}
use Rattle.sg_placing.specs.Placing.{same_file}
use Rattle.sg_missing.specs.declared.wanted.Wanted.{Wanted}
use Rattle.sg_missing.specs.Missing.{IsAlone, staged_of}
use Rattle.sg_missing.proofs.FileLemmas.{same_self}
use Rattle.sg_timeline.specs.declared.step.StepEnd.{StepEnd}
use Rattle.sg_fetch.specs.Fetching.{PieceEnds, WholeEnds}
use Rattle.sg_intake.specs.Stocks.{CameOf, Gains, GivesUp, HasCome, Seals, Stock}

pub ran_after : (n : ℕ) (x y z : View) → Ran 0 x y → Ran n y z → Ran n x z
ran_after n x y z first second = subst (λ (k : ℕ). Ran k x z) (zero_and n) (ran_joined 0 n x y z first second)
  where
    zero_and : (n : ℕ) → 0 + n ≡ n
    zero_and n = omega arith

pub same_by : (a b : Listed) → same_file a b ≡ true → a ≡ b
same_by a b passes =
    let one = and_parts (eqb a.media.0 b.media.0) (eqb a.length b.length && pointwise eqb a.md5 b.md5) passes in
    let two = and_parts (eqb a.length b.length) (pointwise eqb a.md5 b.md5) one.1 in
    let media : a.media.0 ≡ b.media.0 = eqb-true a.media.0 b.media.0 one.0 in
    let long : a.length ≡ b.length = eqb-true a.length b.length two.0 in
    let digest : a.md5 ≡ b.md5 = (bytes_eq-Decides a.md5 b.md5).0 two.1 in
    ap (λ (m : ℕ). made m a.length a.md5) media ∙ ap (λ (l : ℕ). made b.media.0 l a.md5) long ∙ ap (λ (d : List ℕ). made b.media.0 b.length d) digest
  where
    made : ℕ → ℕ → List ℕ → Listed
    made m l d = record { media = record { 0 = m }; length = l; md5 = d }

-- ---- where a file's begin is staged already, or nothing of it is

pub staged_is : (part : Option (Listed × ℕ)) (file : Listed) (n : ℕ) → part ≡ Some (file, n) → staged_of part file ≡ n
staged_is part file n is =
    ap (λ (p : Option (Listed × ℕ)). staged_of p file) is ∙ ap (λ (same : Bool). if same then n else 0) (same_self file)

none_more : (n : ℕ) → n ≡ n + 0
none_more n = omega arith

pub alone_part : (part : Option (Listed × ℕ)) (p : Listed × ℕ) (file : Listed) → IsAlone part file → part ≡ Some p
    → part ≡ Some (file, staged_of part file + 0)
alone_part None p file alone is = absurd (cc)
alone_part (Some q) p file alone is =
    ap (λ (f : Listed). Some (f, q.1)) (same_by q.0 file alone.0)
    ∙ ap (λ (n : ℕ). Some (file, n)) (sym (ap (λ (same : Bool). if same then q.1 else 0) alone.0) ∙ none_more (staged_of (Some q) file))

-- a part of the file is staged: nothing has to be begun
pub begun_before : (s : Stock) (p : Listed × ℕ) (file : Listed) → IsAlone s.here.part file → s.here.part ≡ Some p → Gains s file [] s
begun_before s p file alone is = record {
  holds = λ f. refl;
  part = alone_part s.here.part p file alone is;
  came = λ before came.
      subst (λ (bytes : List ℕ). s.came bytes) (sym (append-nil before))
      (subst (λ (part : Option (Listed × ℕ)). CameOf part s.came before) is came);
}

-- nothing is: it was begun
pub begun_now : (old new : Stock) (file : Listed) → old.here.part ≡ None → new.here.part ≡ Some (file, 0) → ((f : Listed) → new.here.holds f ≡ old.here.holds f)
    → new.came [] → Gains old file [] new
begun_now old new file idle begun holds none = record {
  holds = holds;
  part = begun ∙ ap (λ (n : ℕ). Some (file, n)) (sym (ap (λ (part : Option (Listed × ℕ)). staged_of part file + 0) idle));
  came = λ before came.
      let is : before ≡ [] = subst (λ (part : Option (Listed × ℕ)). CameOf part old.came before) idle came in
      subst (λ (bytes : List ℕ). new.came (bytes ++ [])) (sym is) none;
}

-- ---- and then bytes of it come

abbrev came_first : (old mid : Stock) (file : Listed) (n : ℕ) → Gains old file [] mid → mid.here.part ≡ Some (file, n) → (before : List ℕ) → HasCome old before
    → HasCome mid before
came_first old mid file n first is before came =
    subst (λ (part : Option (Listed × ℕ)). CameOf part mid.came before) (sym is)
    (subst (λ (bytes : List ℕ). mid.came bytes) (append-nil before) (first.came before came))

part_first : (old mid : Stock) (file : Listed) (n : ℕ) → Gains old file [] mid → mid.here.part ≡ Some (file, n) → staged_of mid.here.part file ≡ staged_of old.here.part file
part_first old mid file n first is = staged_is mid.here.part file (staged_of old.here.part file + 0) first.part ∙ sym (none_more (staged_of old.here.part file))

gains_after : (old mid new : Stock) (file : Listed) (n : ℕ) (bytes : List ℕ) → Gains old file [] mid → mid.here.part ≡ Some (file, n) → Gains mid file bytes new
    → Gains old file bytes new
gains_after old mid new file n bytes first is next = record {
  holds = λ f. next.holds f ∙ first.holds f;
  part = next.part ∙ ap (λ (k : ℕ). Some (file, k + length bytes)) (part_first old mid file n first is);
  came = λ before came. next.came before (came_first old mid file n first is before came);
}

seals_after : (old mid new : Stock) (file : Listed) (n : ℕ) (bytes : List ℕ) → Gains old file [] mid → mid.here.part ≡ Some (file, n) → Seals mid file bytes new
    → Seals old file bytes new
seals_after old mid new file n bytes first is next = record {
  holds = λ f. next.holds f ∙ ap (λ (held : Bool). held || same_file file f) (first.holds f);
  part = next.part;
  digest = λ before came. next.digest before (came_first old mid file n first is before came);
}

gives_up_after : (old mid new : Stock) (file : Listed) (n : ℕ) (bytes found : List ℕ) → Gains old file [] mid → mid.here.part ≡ Some (file, n)
    → GivesUp mid file bytes found new → GivesUp old file bytes found new
gives_up_after old mid new file n bytes found first is next = record {
  holds = λ f. next.holds f ∙ first.holds f;
  part = next.part;
  digest = λ before came. next.digest before (came_first old mid file n first is before came);
}

whole_after : (last : Bool) (piece : Wanted) (old mid new : Stock) (n : ℕ) (body : List ℕ) (end : StepEnd) → Gains old piece.file [] mid → mid.here.part ≡ Some (piece.file, n)
    → WholeEnds last piece mid body new end → WholeEnds last piece old body new end
whole_after false piece old mid new n body end first is ends = (gains_after old mid new piece.file n body first is ends.0, ends.1)
whole_after true piece old mid new n body end first is (inl (sealed, same)) = inl (seals_after old mid new piece.file n body first is sealed, same)
whole_after true piece old mid new n body end first is (inr (found, differs, same)) =
    inr (found, gives_up_after old mid new piece.file n body found first is differs, same)

pub ends_after : (piece : Wanted) (old mid new : Stock) (n : ℕ) (outcome : Outcome) (end : StepEnd) → Gains old piece.file [] mid → mid.here.part ≡ Some (piece.file, n)
    → PieceEnds piece mid outcome new end → PieceEnds piece old outcome new end
ends_after piece old mid new n (Whole body) end first is ends =
    (ends.0, whole_after (piece.at + piece.count == piece.file.length) piece old mid new n body end first is ends.1)
ends_after piece old mid new n (Cut got size body) end first is ends = (ends.0, gains_after old mid new piece.file n body first is ends.1, ends.2)
ends_after piece old mid new n LinkFault end first is ends = (gains_after old mid new piece.file n [] first is ends.0, ends.1)
ends_after piece old mid new n NotHttp end first is ends = (gains_after old mid new piece.file n [] first is ends.0, ends.1)
ends_after piece old mid new n (Status status) end first is ends = (gains_after old mid new piece.file n [] first is ends.0, ends.1)
ends_after piece old mid new n (Length got expected) end first is ends = (gains_after old mid new piece.file n [] first is ends.0, ends.1)

-- ---- what a call of a store makes of it

-- nothing came
pub gains_none : (s : Stock) (file : Listed) (n : ℕ) → s.here.part ≡ Some (file, n) → Gains s file [] s
gains_none s file n is = record {
  holds = λ f. refl;
  part = is ∙ ap (λ (k : ℕ). Some (file, k)) (sym (staged_is s.here.part file n is) ∙ none_more (staged_of s.here.part file));
  came = λ before came.
      subst (λ (bytes : List ℕ). s.came bytes) (sym (append-nil before))
      (subst (λ (part : Option (Listed × ℕ)). CameOf part s.came before) is came);
}

pub came_of : (s : Stock) (file : Listed) (n : ℕ) (before : List ℕ) → s.here.part ≡ Some (file, n) → HasCome s before → s.came before
came_of s file n before is came = subst (λ (part : Option (Listed × ℕ)). CameOf part s.came before) is came

pub gains_some : (old new : Stock) (file : Listed) (n : ℕ) (bytes : List ℕ) → old.here.part ≡ Some (file, n) → ((f : Listed) → new.here.holds f ≡ old.here.holds f)
    → new.here.part ≡ Some (file, n + length bytes) → ((before : List ℕ) → old.came before → new.came (before ++ bytes)) → Gains old file bytes new
gains_some old new file n bytes is holds part came = record {
  holds = holds;
  part = part ∙ ap (λ (k : ℕ). Some (file, k + length bytes)) (sym (staged_is old.here.part file n is));
  came = λ before has. came before (came_of old file n before is has);
}

-- ---- what a store is asked, and what it says, where the begin of a file is staged

pub fits_in : (part : Option (Listed × ℕ)) (file : Listed) (at n : ℕ) → part ≡ Some (file, at) → at + n ≤ file.length
    → IsSomeAnd part (λ (p : Listed × ℕ). p.1 + n ≤ p.0.length)
fits_in part file at n is fits = subst (λ (q : Option (Listed × ℕ)). IsSomeAnd q (λ (p : Listed × ℕ). p.1 + n ≤ p.0.length)) (sym is) fits

pub inside_of : (part : Option (Listed × ℕ)) (file : Listed) (at n : ℕ) → part ≡ Some (file, at) → at % PIECE_LEN + n ≤ PIECE_LEN
    → IsSomeAnd part (λ (p : Listed × ℕ). p.1 % PIECE_LEN + n ≤ PIECE_LEN)
inside_of part file at n is fits = subst (λ (q : Option (Listed × ℕ)). IsSomeAnd q (λ (p : Listed × ℕ). p.1 % PIECE_LEN + n ≤ PIECE_LEN)) (sym is) fits

pub whole_in : (part : Option (Listed × ℕ)) (file : Listed) (at : ℕ) → part ≡ Some (file, at) → at ≡ file.length → IsSomeAnd part (λ (p : Listed × ℕ). p.1 ≡ p.0.length)
whole_in part file at is whole = subst (λ (q : Option (Listed × ℕ)). IsSomeAnd q (λ (p : Listed × ℕ). p.1 ≡ p.0.length)) (sym is) whole

pub part_more : (part new : Option (Listed × ℕ)) (file : Listed) (at n : ℕ) → part ≡ Some (file, at) → new ≡ option_map (λ (p : Listed × ℕ). (p.0, p.1 + n)) part
    → new ≡ Some (file, at + n)
part_more part new file at n is more = more ∙ ap (option_map (λ (p : Listed × ℕ). (p.0, p.1 + n))) is

pub seals_some : (old mid new : Stock) (file : Listed) (at n : ℕ) (bytes : List ℕ) → old.here.part ≡ Some (file, at) → mid.here.part ≡ Some (file, n)
    → ((f : Listed) → mid.here.holds f ≡ old.here.holds f) → ((before : List ℕ) → old.came before → mid.came (before ++ bytes)) → new.here.part ≡ None
    → IfSome mid.here.part (λ (p : Listed × ℕ). (f : Listed) → new.here.holds f ≡ (mid.here.holds f || same_file p.0 f))
    → IfSome mid.here.part (λ (p : Listed × ℕ). (all : List ℕ) → mid.came all → md5 all ≡ p.0.md5) → Seals old file bytes new
seals_some old mid new file at n bytes is mid_is holds came none held digest = record {
  holds = λ f.
      subst (λ (q : Option (Listed × ℕ)). IfSome q (λ (p : Listed × ℕ). (f : Listed) → new.here.holds f ≡ (mid.here.holds f || same_file p.0 f))) mid_is held f
      ∙ ap (λ (h : Bool). h || same_file file f) (holds f);
  part = none;
  digest = λ before has.
      subst (λ (q : Option (Listed × ℕ)). IfSome q (λ (p : Listed × ℕ). (all : List ℕ) → mid.came all → md5 all ≡ p.0.md5)) mid_is digest (before ++ bytes)
      (came before (came_of old file at before is has));
}

pub gives_up_some : (old mid new : Stock) (file : Listed) (at n : ℕ) (bytes found : List ℕ) → old.here.part ≡ Some (file, at) → mid.here.part ≡ Some (file, n)
    → ((f : Listed) → mid.here.holds f ≡ old.here.holds f) → ((before : List ℕ) → old.came before → mid.came (before ++ bytes)) → new.here.part ≡ None
    → ((f : Listed) → new.here.holds f ≡ mid.here.holds f)
    → IfSome mid.here.part (λ (p : Listed × ℕ). (all : List ℕ) → mid.came all → (md5 all ≡ found) × (found ≢ p.0.md5)) → GivesUp old file bytes found new
gives_up_some old mid new file at n bytes found is mid_is holds came none same differs = record {
  holds = λ f. same f ∙ holds f;
  part = none;
  digest = λ before has.
      subst (λ (q : Option (Listed × ℕ)). IfSome q (λ (p : Listed × ℕ). (all : List ℕ) → mid.came all → (md5 all ≡ found) × (found ≢ p.0.md5))) mid_is differs (before ++ bytes)
      (came before (came_of old file at before is has));
}

pub begun_at : (part : Option (Listed × ℕ)) (file : Listed) (at here : ℕ) → part ≡ Some (file, here + 0) → at ≡ here → part ≡ Some (file, at)
begun_at part file at here is same = is ∙ ap (λ (n : ℕ). Some (file, n)) (sym (same ∙ none_more here))
