-- The bytes of staged files, as they stand on a disk.
use Rattle.std.proofs.Common.{◌≡◌, ℕ, zero, suc, ◌+◌, ◌<◌, ◌≤◌, List, [], ◌∷◌, ◌++◌, length, take, map, Option, None, Some, IfSome, option_map, Result, Err, IsErrOf, All, refl, sym, ◌∙◌, ap, subst, arith, length-append}
use Rattle.std.proofs.lemmas.List.{map-append, take_all}
use Rattle.md5.specs.Md5.{Holds}
use Rattle.sg_base.specs.declared.file.Listed.{Listed}
use Rattle.sg_base.specs.declared.limits.TheConstants.{MANIFEST_FILES}
use Rattle.sg_disk.specs.View.{put, Torn}
use Rattle.sg_disk.specs.Contents.{StoredFile, IsClear, taken_at}
use Rattle.sg_disk.specs.Contents.{Pages}
use Rattle.sg_disk.specs.declared.places.TheConstants.{DATA}
use Rattle.sg_placing.proofs.GapLemmas.{All-back}
use Rattle.sg_pages.specs.Shelves.{FileAt, Shelved, stands}
use Rattle.sg_staging.specs.Staged.{HalfStaged, half_at, IsStagedIn, IsHalf}
use Rattle.sg_store_state.specs.State.{State}
use Rattle.sg_store_state.specs.Ready.{bytes_here, bytes_so_far, IsBegun, HasStaged, file_here, sealed_files, half_file}
use Rattle.sg_store_state.proofs.StageLemmas.{Goes, half_standing, place_clear, here_same, so_far_long, more_so_far}
use Rattle.sg_store_state.proofs.StepLemmas.{bytes_short}

-- a file in pages, with these bytes
abbrev pub stored_with : Listed → List ℕ → List ℕ → StoredFile
stored_with listed pages bytes = record { listed = listed; stand = Pages pages; bytes = bytes }

abbrev file_with : FileAt → List ℕ → StoredFile
file_with f bytes = record { listed = f.file; stand = f.stand; bytes = bytes }

-- files where nothing is written keep their bytes
files_same : (c d : List ℕ) (place n : ℕ) (files : List FileAt) → Torn place n c d → All (λ f. All (IsClear place n) (taken_at f.file.length f.stand)) files → map (file_here d) files ≡ map (file_here c) files
files_same c d place n [] torn clear = refl
files_same c d place n (f ∷ files) torn clear =
    ap (λ (b : List ℕ). file_with f b ∷ map (file_here d) files) (here_same c d place n f (clear zero f (omega arith)) torn) ∙ ap (λ (l : List StoredFile). file_here c f ∷ l) (files_same c d place n files torn (λ k e lt. clear (suc k) e (omega (arith, lt))))

-- the sealed files, when bytes come of another one
pub sealed_same : (s t : State) (half : HalfStaged) (c d : List ℕ) (place n : ℕ) → Goes s half place n → Torn place n c d → t.staged.sealed ≡ s.staged.sealed → sealed_files t d ≡ sealed_files s c
sealed_same s t half c d place n goes torn same =
    ap (λ (k : Shelved). map (file_here d) (stands k)) same ∙ files_same c d place n (stands s.staged.sealed) torn (All-back (λ (f : FileAt). All (IsClear place n) (taken_at f.file.length f.stand)) (stands s.current) (stands s.staged.sealed) (place_clear s half place n goes))

-- the half staged file
pub half_is : (s : State) (half : HalfStaged) (c : List ℕ) (f : StoredFile) → s.staged.half ≡ Some half → half_file s c ≡ Some f → stored_with half.file half.pages (bytes_so_far c half) ≡ f
half_is s half c f now is =
    let was : half_file s c ≡ Some (stored_with half.file half.pages (bytes_so_far c half)) = ap (λ (o : Option HalfStaged). option_map (λ h. stored_with h.file h.pages (bytes_so_far c h)) o) now in
    let same : Some (stored_with half.file half.pages (bytes_so_far c half)) ≡ Some f = sym was ∙ is in
    cc

-- with the bytes that came of it
pub half_more : (s t : State) (half : HalfStaged) (c d : List ℕ) (place : ℕ) (bs : List ℕ) (f : StoredFile) → Goes s half place (length bs) → DATA + s.room ≤ length c → d ≡ put c place bs → Torn place (length bs) c d → ((before : List ℕ) → IsHalf s.staged half.file half.pages before → IsHalf t.staged half.file half.pages (before ++ bs)) → HasStaged s c → half_file s c ≡ Some f → half_file t d ≡ Some (record f { bytes = f.bytes ++ bs })
half_more s t half c d place bs f goes long is torn more has held =
    let standing = half_standing s.room s half goes.kept goes.is in
    let begun : Holds half.hasher (bytes_so_far c half) = subst (λ (h : Option HalfStaged). IfSome h (IsBegun c)) goes.is has.begun in
    let count = so_far_long s.room c half long standing (omega (arith, goes.fits)) in
    let next = more (bytes_so_far c half) (record { half = half; is = goes.is; file_is = refl; pages_are = refl; count = sym count; holds = begun }) in
    let now : bytes_so_far d next.half ≡ bytes_so_far c half ++ bs =
    ap (λ (l : Listed). take next.half.count (bytes_here d (record { file = l; stand = Pages next.half.pages }))) next.file_is ∙ ap (λ (l : List ℕ). take next.half.count (bytes_here d (record { file = half.file; stand = Pages l }))) next.pages_are ∙ ap (λ (k : ℕ). take k (bytes_here d (half_at half))) (next.count ∙ length-append (bytes_so_far c half) bs ∙ ap (λ (k : ℕ). k + length bs) count) ∙ more_so_far s half c d place bs goes long is torn in
    ap (λ (o : Option HalfStaged). option_map (λ h. stored_with h.file h.pages (bytes_so_far d h)) o) next.is
    ∙ ap (λ (l : Listed). Some (stored_with l next.half.pages (bytes_so_far d next.half))) next.file_is
    ∙ ap (λ (l : List ℕ). Some (stored_with half.file l (bytes_so_far d next.half))) next.pages_are
    ∙ ap (λ (b : List ℕ). Some (stored_with half.file half.pages b)) now
    ∙ ap (λ (x : StoredFile). Some (record x { bytes = x.bytes ++ bs })) (half_is s half c f goes.is held)

-- it is sealed
pub sealed_with : (s t : State) (half : HalfStaged) (c : List ℕ) (f : StoredFile) → s.staged.half ≡ Some half → half.count ≡ half.file.length → stands t.staged.sealed ≡ stands s.staged.sealed ++ half_at half ∷ [] → half_file s c ≡ Some f → sealed_files t c ≡ sealed_files s c ++ f ∷ []
sealed_with s t half c f now count sealed held =
    let all : bytes_so_far c half ≡ bytes_here c (half_at half) = take_all half.count (bytes_here c (half_at half)) (omega (arith, count, bytes_short c half.file.length half.pages)) in
    ap (λ (l : List FileAt). map (file_here c) l) sealed
    ∙ map-append (file_here c) (stands s.staged.sealed) (half_at half ∷ [])
    ∙ ap (λ (b : List ℕ). sealed_files s c ++ stored_with half.file half.pages b ∷ []) (sym all)
    ∙ ap (λ (x : StoredFile). sealed_files s c ++ x ∷ []) (half_is s half c f now held)

-- what its digest holds are its bytes
pub half_holds : (s : State) (half : HalfStaged) (c : List ℕ) (f : StoredFile) → s.staged.half ≡ Some half → HasStaged s c → half_file s c ≡ Some f → Holds half.hasher f.bytes
half_holds s half c f now has held =
    let begun : Holds half.hasher (bytes_so_far c half) = subst (λ (h : Option HalfStaged). IfSome h (IsBegun c)) now has.begun in
    subst (Holds half.hasher) (ap (λ (x : StoredFile). x.bytes) (half_is s half c f now held)) begun

-- as many of its bytes stand there as have come
pub all_came : (s : State) (c : List ℕ) → IsStagedIn s.room s.current s.staged → DATA + s.room ≤ length c → IfSome s.staged.half (λ h. length (bytes_so_far c h) ≡ h.count)
all_came s c kept far = by_half s.staged.half refl
  where
    by_half : (o : Option HalfStaged) → s.staged.half ≡ o → IfSome o (λ h. length (bytes_so_far c h) ≡ h.count)
    by_half None is = tt
    by_half (Some half) is =
        let fits : IfSome (Some half) (λ h. (h.count ≤ h.file.length) × (length s.staged.sealed.files < MANIFEST_FILES)) = subst (λ (o : Option HalfStaged). IfSome o (λ h. (h.count ≤ h.file.length) × (length s.staged.sealed.files < MANIFEST_FILES))) is kept.half in
        so_far_long s.room c half far (half_standing s.room s half kept is) fits.0

-- a refusal that is handed on
pub handed_on : {T U E : Type 0} (r : Result T E) (d e f : E) → r ≡ Err d → d ≡ e → IsErrOf r f → IsErrOf {T = U} (Err e) f
handed_on {T} {U} {E} r d e f at same is =
    let both : ◌≡◌ {A = Result T E} (Err d) (Err f) = sym at ∙ is in
    let one : d ≡ f = cc in
    let refusal : E → Result U E = λ x. Err x in
    ap refusal (sym same ∙ one)
