-- A store whose snapshot was switched.
use Rattle.std.proofs.Common.{◌≡◌, ℕ, zero, suc, ◌<◌, ◌≤◌, ◌^◌, Bool, true, List, [], ◌∷◌, length, get_or, drop, map, is_some, All, AllPairs, refl, sym, ◌∙◌, ap, subst, arith}
use Rattle.std.proofs.lemmas.List.{length-map, get_or-map}
use Rattle.sg_base.specs.declared.file.Listed.{Listed}
use Rattle.sg_base.specs.declared.limits.TheConstants.{MANIFEST_FILES, MANIFEST_TEXT, MAX_ROOM}
use Rattle.sg_placing.specs.Placing.{AreAscending}
use Rattle.sg_placing.specs.declared.placed.Placed.{Placed}
use Rattle.sg_pages.specs.Shelves.{FileAt, Shelved, IsFilled, pages_for, stands_in, stands}
use Rattle.sg_pages.specs.declared.page_set.TheConstants.{MAX_PAGES}
use Rattle.sg_staging.specs.Staged.{Staged, nothing_staged, whole_files, stands_as, is_among, chosen, pages_of_files}
use Rattle.sg_staging.proofs.ShelfLemmas.{stands_count, stands_pages}
use Rattle.sg_staging.proofs.ChoiceLemmas.{chosen_files}
use Rattle.sg_staging.proofs.StageLemmas.{switched_in}
use Rattle.sg_store_state.specs.State.{IsKept}

-- a shelf of chosen files
pub few_files : (next : Shelved) (files : List FileAt) (listed : List Listed) → stands next ≡ map (chosen files) listed → length listed ≤ MANIFEST_FILES → length next.files ≤ MANIFEST_FILES
few_files next files listed is few = omega (arith, stands_count next.pages next.files, ap (λ (l : List FileAt). length l) is, length-map listed (chosen files), few)

pub few_pages : (next : Shelved) (files : List FileAt) (listed : List Listed) → IsFilled next → stands next ≡ map (chosen files) listed → length (pages_of_files (map (chosen files) listed)) ≤ MAX_PAGES → length next.pages ≤ MAX_PAGES
few_pages next files listed filled is few = omega (arith, ap (λ (l : List ℕ). length l) (stands_pages next.pages next.files filled), ap (λ (l : List FileAt). length (pages_of_files l)) is, few)

-- the rows of a shelf
stands_rows : (pages : List ℕ) (files : List Placed) → map (λ f. f.file) (stands_in pages files) ≡ map (λ p. p.file) files
stands_rows pages [] = refl
stands_rows pages (p ∷ files) = ap (λ (l : List Listed). p.file ∷ l) (stands_rows (drop (pages_for p) pages) files)

pub rows_next : (next : Shelved) (files : List FileAt) (listed : List Listed) → stands next ≡ map (chosen files) listed → All (λ f. is_some (stands_as files f) ≡ true) listed → map (λ p. p.file) next.files ≡ listed
rows_next next files listed is held = sym (stands_rows next.pages next.files) ∙ ap (map (λ (f : FileAt). f.file)) is ∙ chosen_files files listed held

pub ascending_rows : (placed : List Placed) (listed : List Listed) → map (λ p. p.file) placed ≡ listed → AllPairs (λ f g. f.media.0 < g.media.0) listed → AreAscending placed
ascending_rows placed listed is up i j d lt below =
    let near : i < length placed = omega (arith, lt, below) in
    let one : (k : ℕ) → k < length placed → get_or listed k d.file ≡ (get_or placed k d).file = λ k lt. ap (λ (l : List Listed). get_or l k d.file) (sym is) ∙ get_or-map (λ (p : Placed). p.file) placed k d d.file lt in
    omega (arith, up i j d.file lt (omega (arith, below, length-map placed (λ (p : Placed). p.file), ap length is)), ap (λ (f : Listed). f.media.0) (one i near), ap (λ (f : Listed). f.media.0) (one j below))

-- what is so of the store after a switch, whatever disk it is
pub kept_switched : (room text : ℕ) (current next : Shelved) (staged : Staged) (listed : List Listed) → IsKept room text current staged → AllPairs (λ f g. f.media.0 < g.media.0) listed → All (λ f. is_among current staged f ≡ true) listed → IsFilled next → stands next ≡ map (chosen (whole_files current staged)) listed → (n : ℕ) → n ≤ MANIFEST_TEXT → IsKept room n next nothing_staged
kept_switched room text current next staged listed kept up held filled stand n fits = record {
  whole = kept.whole;
  short = fits;
  ascending = ascending_rows next.files listed (rows_next next (whole_files current staged) listed stand held) up;
  placed = switched_in room current next staged listed kept.placed up held filled stand;
}
