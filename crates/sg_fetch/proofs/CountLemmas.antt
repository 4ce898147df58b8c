-- What is missing after a piece was fetched.
use Rattle.std.proofs.Common.{◌≡◌, ◌≢◌, ℕ, suc, ◌+◌, ◌<◌, ◌≤◌, ◌==◌, ◌||◌, Bool, true, false, List, [], ◌∷◌, ◌++◌, None, Some, length, if◌then◌else◌, refl, sym, ◌∙◌, ap, subst, inl, inr, arith}
use Rattle.std.specs.declared.option.Option.{Option}
use Rattle.std.proofs.lemmas.Bool.{eqb-false, eqb-true}
use Rattle.sg_base.specs.declared.file.Listed.{Listed}
use Rattle.sg_devices.specs.declared.link.Exchange.{Exchange}
use Rattle.sg_exchange.specs.Asking.{Caller}
use Rattle.sg_exchange.specs.Heard.{Outcome, Whole, LinkFault, NotHttp, Cut, Status, Length}
use Rattle.sg_placing.specs.Placing.{same_file}
use Rattle.sg_missing.specs.declared.wanted.Wanted.{Wanted}
use Rattle.sg_missing.specs.Missing.{AreFiles, Holding, IsAlone, IsFirst, IsOf, IsUnderWay, first_missing, holding, missing, pieces_of, staged_of, with_bytes}
use Rattle.sg_missing.specs.Pieces.{piece_end}
use Rattle.sg_missing.proofs.FileLemmas.{alone_lacks, same_self, whole_comes}
use Rattle.sg_timeline.specs.declared.step.StepEnd.{StepEnd}
use Rattle.sg_intake.specs.declared.intake.Lack.{Lack}
use Rattle.sg_intake.specs.Stocks.{Gains, Seals, Stays, Stock}
use Rattle.sg_fetch.specs.Fetching.{Fetches, IsNext, PieceEnds, WholeEnds, comes_whole}
use Rattle.sg_fetch.proofs.NextLemmas.{next_of, piece_fits}

-- ---- where the same is held

first_as : (h k : Listed → Bool) (files : List Listed) → ((f : Listed) → h f ≡ k f) → first_missing h files ≡ first_missing k files
first_as h k [] same = refl
first_as h k (f ∷ fs) same =
    ap (λ (held : Bool). if held then first_missing h fs else Some f) (same f)
    ∙ ap (λ (rest : Option Listed). if k f then rest else Some f) (first_as h k fs same)

missing_as : (a b : Holding) (files : List Listed) → ((f : Listed) → a.holds f ≡ b.holds f) → a.part ≡ b.part → missing a files ≡ missing b files
missing_as a b [] same part = refl
missing_as a b (f ∷ fs) same part =
    ap (λ (held : Bool). if held then missing a fs else pieces_of a.part f ++ missing a fs) (same f)
    ∙ ap (λ (rest : List (ℕ × ℕ)). if b.holds f then rest else pieces_of a.part f ++ rest) (missing_as a b fs same part)
    ∙ ap (λ (p : Option (Listed × ℕ)). if b.holds f then missing b fs else pieces_of p f ++ missing b fs) part

-- ---- nothing is staged but bytes of the first file that isn't whole

way_by : (new : Stock) (files : List Listed) (file : Listed) (n : ℕ) → new.here.part ≡ Some (file, n) → first_missing new.here.holds files ≡ Some file → n < file.length
    → IsUnderWay new.here files
way_by new files file n part first lt =
    subst (λ (p : Option (Listed × ℕ)). IsOf p (first_missing new.here.holds files)) (sym part)
    (subst (λ (f : Option Listed). IsOf (Some (file, n)) f) (sym first) (same_self file, lt))

way_none : (new : Stock) (files : List Listed) → new.here.part ≡ None → IsUnderWay new.here files
way_none new files part = subst (λ (p : Option (Listed × ℕ)). IsOf p (first_missing new.here.holds files)) (sym part) tt

gains_way : (old new : Stock) (files : List Listed) (file : Listed) (bytes : List ℕ) → first_missing old.here.holds files ≡ Some file
    → staged_of old.here.part file + length bytes < file.length → Gains old file bytes new → IsUnderWay new.here files
gains_way old new files file bytes first lt gains =
    way_by new files file (staged_of old.here.part file + length bytes) gains.part (first_as new.here.holds old.here.holds files gains.holds ∙ first) lt

stays_way : (old new : Stock) (files : List Listed) → Stays old new → IsUnderWay old.here files → IsUnderWay new.here files
stays_way old new files stays way =
    subst (λ (p : Option (Listed × ℕ)). IsOf p (first_missing new.here.holds files)) (sym stays.part)
    (subst (λ (f : Option Listed). IsOf old.here.part f) (sym (first_as new.here.holds old.here.holds files stays.holds)) way)

fewer : (at count here n : ℕ) → at ≡ here → at < n → at + count ≡ piece_end at n → (at + count ≡ n → ⊥) → here + count < n
fewer at count here n is lt ends not = omega (arith, is, not, piece_fits at count n ends)

part_fewer : (at count got here n : ℕ) → at ≡ here → at < n → at + count ≡ piece_end at n → got < count → here + got < n
part_fewer at count got here n is lt ends few = omega (arith, is, few, piece_fits at count n ends)

none_fewer : (at here n : ℕ) → at ≡ here → at < n → here + 0 < n
none_fewer at here n is lt = omega (arith, is, lt)

lacks : (part : Option (Listed × ℕ)) (piece : Wanted) → IsNext part piece → piece.at < piece.file.length
lacks part piece next = subst (λ (n : ℕ). n < piece.file.length) (sym next.begins) (alone_lacks part piece.file next.alone)

whole_way : (last : Bool) (piece : Wanted) (old new : Stock) (files : List Listed) (body : List ℕ) (end : StepEnd) → (piece.at + piece.count == piece.file.length) ≡ last
    → IsNext old.here.part piece → first_missing old.here.holds files ≡ Some piece.file → length body ≡ piece.count → WholeEnds last piece old body new end
    → IsUnderWay new.here files
whole_way false piece old new files body end is next first long ends =
    gains_way old new files piece.file body first
    (subst (λ (n : ℕ). staged_of old.here.part piece.file + n < piece.file.length) (sym long)
    (fewer piece.at piece.count (staged_of old.here.part piece.file) piece.file.length next.begins (lacks old.here.part piece next) next.ends (eqb-false _ piece.file.length is))) ends.0
whole_way true piece old new files body end is next first long (inl (sealed, same)) = way_none new files sealed.part
whole_way true piece old new files body end is next first long (inr (found, gone, same)) = way_none new files gone.part

none_way : (piece : Wanted) (old new : Stock) (files : List Listed) → IsNext old.here.part piece → first_missing old.here.holds files ≡ Some piece.file
    → Gains old piece.file [] new → IsUnderWay new.here files
none_way piece old new files next first gains =
    gains_way old new files piece.file [] first
    (none_fewer piece.at (staged_of old.here.part piece.file) piece.file.length next.begins (lacks old.here.part piece next)) gains

piece_way : (piece : Wanted) (old new : Stock) (files : List Listed) (outcome : Outcome) (end : StepEnd) → IsNext old.here.part piece
    → first_missing old.here.holds files ≡ Some piece.file → PieceEnds piece old outcome new end → IsUnderWay new.here files
piece_way piece old new files (Whole body) end next first ends =
    whole_way (piece.at + piece.count == piece.file.length) piece old new files body end refl next first ends.0 ends.1
piece_way piece old new files (Cut got n body) end next first ends =
    gains_way old new files piece.file body first
    (part_fewer piece.at piece.count (length body) (staged_of old.here.part piece.file) piece.file.length next.begins (lacks old.here.part piece next) next.ends ends.0) ends.1
piece_way piece old new files LinkFault end next first ends = none_way piece old new files next first ends.0
piece_way piece old new files NotHttp end next first ends = none_way piece old new files next first ends.0
piece_way piece old new files (Status status) end next first ends = none_way piece old new files next first ends.0
piece_way piece old new files (Length got expected) end next first ends = none_way piece old new files next first ends.0

pub way_after : (lack : Option Lack) (caller : Caller) (piece : Wanted) (asked told : Option (List Exchange)) (old new : Stock) (files : List Listed) (end : StepEnd)
    → AreFiles files → IsUnderWay old.here files → IsFirst old.here files piece → Fetches lack caller piece asked told old new end → IsUnderWay new.here files
way_after (Some lack) caller piece asked told old new files end are way first (same, stays, is) = stays_way old new files stays way
way_after None caller piece asked told old new files end are way first (outcome, asks, ends) =
    piece_way piece old new files outcome end (next_of old.here files piece are way first) first.file ends

-- ---- a whole piece is one less

gains_less : (piece : Wanted) (old new : Stock) (files : List Listed) (body : List ℕ) → (piece.at + piece.count == piece.file.length) ≡ false → AreFiles files
    → IsNext old.here.part piece → first_missing old.here.holds files ≡ Some piece.file → length body ≡ piece.count → Gains old piece.file body new
    → missing old.here files ≡ (piece.file.media.0, staged_of old.here.part piece.file) ∷ missing new.here files
gains_less piece old new files body is are next first long gains =
    whole_comes old.here files piece.file piece.count are next.alone first (subst (λ (n : ℕ). n + piece.count ≡ piece_end n piece.file.length) next.begins next.ends)
    ∙ ap (λ (l : List (ℕ × ℕ)). (piece.file.media.0, staged_of old.here.part piece.file) ∷ l)
    (sym (missing_as new.here (with_bytes old.here piece.file piece.count) files
    (λ f. gains.holds f ∙ ap (λ (last : Bool). (with_last last).holds f) (sym not))
    (gains.part ∙ ap (λ (n : ℕ). Some (piece.file, staged_of old.here.part piece.file + n)) long ∙ ap (λ (last : Bool). (with_last last).part) (sym not))))
  where
    with_last : Bool → Holding
    with_last last =
        if last then holding (λ f. old.here.holds f || same_file piece.file f) None
        else holding old.here.holds (Some (piece.file, staged_of old.here.part piece.file + piece.count))

    not : (staged_of old.here.part piece.file + piece.count == piece.file.length) ≡ false
    not = subst (λ (n : ℕ). (n + piece.count == piece.file.length) ≡ false) next.begins is

seals_less : (piece : Wanted) (old new : Stock) (files : List Listed) (body : List ℕ) → (piece.at + piece.count == piece.file.length) ≡ true → AreFiles files
    → IsNext old.here.part piece → first_missing old.here.holds files ≡ Some piece.file → Seals old piece.file body new
    → missing old.here files ≡ (piece.file.media.0, staged_of old.here.part piece.file) ∷ missing new.here files
seals_less piece old new files body is are next first seals =
    whole_comes old.here files piece.file piece.count are next.alone first (subst (λ (n : ℕ). n + piece.count ≡ piece_end n piece.file.length) next.begins next.ends)
    ∙ ap (λ (l : List (ℕ × ℕ)). (piece.file.media.0, staged_of old.here.part piece.file) ∷ l)
    (sym (missing_as new.here (with_bytes old.here piece.file piece.count) files
    (λ f. seals.holds f ∙ ap (λ (last : Bool). (with_last last).holds f) (sym whole))
    (seals.part ∙ ap (λ (last : Bool). (with_last last).part) (sym whole))))
  where
    with_last : Bool → Holding
    with_last last =
        if last then holding (λ f. old.here.holds f || same_file piece.file f) None
        else holding old.here.holds (Some (piece.file, staged_of old.here.part piece.file + piece.count))

    whole : (staged_of old.here.part piece.file + piece.count == piece.file.length) ≡ true
    whole = subst (λ (n : ℕ). (n + piece.count == piece.file.length) ≡ true) next.begins is

one_less : (entry : ℕ × ℕ) (old new : List (ℕ × ℕ)) → old ≡ entry ∷ new → length old ≡ length new + 1
one_less entry old new is = ap length is ∙ over (length new)
  where
    over : (n : ℕ) → suc n ≡ n + 1
    over n = omega arith

-- a step that stays brought no whole piece
no_piece : (end why : StepEnd) (A : Type 0) → end ≡ why → comes_whole why ≡ false → comes_whole end ≡ true → A
no_piece end why A is none whole = absurd (cc (ap comes_whole is))

piece_less : (last : Bool) (piece : Wanted) (old new : Stock) (files : List Listed) (body : List ℕ) (end : StepEnd) → (piece.at + piece.count == piece.file.length) ≡ last
    → AreFiles files → IsNext old.here.part piece → first_missing old.here.holds files ≡ Some piece.file → length body ≡ piece.count
    → WholeEnds last piece old body new end → comes_whole end ≡ true → length (missing old.here files) ≡ length (missing new.here files) + 1
piece_less false piece old new files body end is are next first long ends whole =
    one_less _ (missing old.here files) (missing new.here files) (gains_less piece old new files body is are next first long ends.0)
piece_less true piece old new files body end is are next first long (inl (sealed, same)) whole =
    one_less _ (missing old.here files) (missing new.here files) (seals_less piece old new files body is are next first sealed)
piece_less true piece old new files body end is are next first long (inr (found, gone, same)) whole = no_piece end _ _ same refl whole

outcome_less : (piece : Wanted) (old new : Stock) (files : List Listed) (outcome : Outcome) (end : StepEnd) → AreFiles files → IsNext old.here.part piece
    → first_missing old.here.holds files ≡ Some piece.file → PieceEnds piece old outcome new end → comes_whole end ≡ true
    → length (missing old.here files) ≡ length (missing new.here files) + 1
outcome_less piece old new files (Whole body) end are next first ends whole =
    piece_less (piece.at + piece.count == piece.file.length) piece old new files body end refl are next first ends.0 ends.1 whole
outcome_less piece old new files (Cut got n body) end are next first ends whole = no_piece end _ _ ends.2 refl whole
outcome_less piece old new files LinkFault end are next first ends whole = no_piece end _ _ ends.1 refl whole
outcome_less piece old new files NotHttp end are next first ends whole = no_piece end _ _ ends.1 refl whole
outcome_less piece old new files (Status status) end are next first ends whole = no_piece end _ _ ends.1 refl whole
outcome_less piece old new files (Length got expected) end are next first ends whole = no_piece end _ _ ends.1 refl whole

pub less_after : (lack : Option Lack) (caller : Caller) (piece : Wanted) (asked told : Option (List Exchange)) (old new : Stock) (files : List Listed) (end : StepEnd)
    → AreFiles files → IsUnderWay old.here files → IsFirst old.here files piece → Fetches lack caller piece asked told old new end → comes_whole end ≡ true
    → length (missing old.here files) ≡ length (missing new.here files) + 1
less_after (Some lack) caller piece asked told old new files end are way first (same, stays, is) whole = no_piece end _ _ is refl whole
less_after None caller piece asked told old new files end are way first (outcome, asks, ends) whole =
    outcome_less piece old new files outcome end are (next_of old.here files piece are way first) first.file ends whole
