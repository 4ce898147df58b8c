-- The calls since a sync, made again.
use Rattle.std.proofs.Common.{◌≡◌, inl, inr, ℕ, zero, suc, ◌+◌, ◌<◌, ◌≤◌, List, [], ◌∷◌, ◌++◌, length, take, drop, replicate, get_or, reverse, true, false, refl, sym, ◌∙◌, ap, subst, arith}
use Rattle.std.proofs.lemmas.Bool.{cases_lt}
use Rattle.std.proofs.lemmas.List.{reverse-append, append_assoc, take-append-drop, take_more, get_or-drop, get_or_append_left, get_or_push, get_or-take, take-take, drop-append-le, length_push, length-drop, length-take, length-replicate}
use Rattle.std.proofs.lemmas.List.Sums.{fold-append}
use Rattle.std.proofs.Math.Seq.{take-add}
use Rattle.sg_disk.specs.HistoryLaws.{resized_sized}
use Rattle.sg_disk.specs.History.{after, end_of, room_of, end_by, is_sync, read_of, Fits, torn_by, picked, is_settled, replayed, torn_replayed}
use Rattle.sg_disk.specs.declared.history.Call.{Call}
use Rattle.sg_disk.specs.declared.history.Call.TheVariants.{Write, Resize, Sync}
use Rattle.sg_disk.specs.declared.history.Pick.{Pick}
use Rattle.sg_disk.specs.declared.history.Pick.TheVariants.{Nothing, All, Byte}
use Rattle.sg_disk.proofs.Logs.{reverse_push, read_of-reverse}
use Rattle.sg_disk.proofs.Ranges.{length-put}

-- what holds of each call holds with one more
pub all_push : (P : Call → Type 0) (xs : List Call) (x : Call) → ((k : ℕ) (d : Call) → k < length xs → P (get_or xs k d)) → P x → (k : ℕ) (d : Call) → k < length (xs ++ x ∷ []) → P (get_or (xs ++ x ∷ []) k d)
all_push P xs x each last k d lt =
    elim (cases_lt k (length xs)) [
      | inl before ↦ subst P (sym (get_or_append_left xs (x ∷ []) d k before)) (each k d before)
      | inr past ↦
          let at : length xs ≡ k = omega (arith, length_push xs x) in
          subst P (sym (get_or_push xs x d k at)) last
    ]

fits_older : (first : List ℕ) (newer older : List Call) → Fits first (newer ++ older) → Fits first older
fits_older first [] older fits = fits
fits_older first (x ∷ newer) older fits = fits_older first newer older fits.1

-- the newest calls, and those before them
pub reverse_parts : (calls : List Call) (n : ℕ) → reverse calls ≡ reverse (drop n calls) ++ reverse (take n calls)
reverse_parts calls n = ap (λ (l : List Call). reverse l) (sym (take-append-drop n calls)) ∙ reverse-append (take n calls) (drop n calls)

-- each write was inside the length that the calls before it had left
fits_at : (first : List ℕ) (calls : List Call) (i : ℕ) (d : Call) → Fits first (reverse calls) → i < length calls → end_of (get_or calls i d) ≤ length (replayed first (take i calls))
fits_at first calls i d fits lt =
    let older : Fits first (reverse (take (i + 1) calls)) = fits_older first (reverse (drop (i + 1) calls)) (reverse (take (i + 1) calls)) (subst (λ (h : List Call). Fits first h) (reverse_parts calls (i + 1)) fits) in
    let newest : reverse (take (i + 1) calls) ≡ get_or calls i d ∷ reverse (take i calls) = ap (λ (l : List Call). reverse l) (take_more calls i d lt) ∙ reverse_push (take i calls) (get_or calls i d) in
    let inside : Fits first (get_or calls i d ∷ reverse (take i calls)) = subst (λ (h : List Call). Fits first h) newest older in
    subst (λ (c : List ℕ). end_of (get_or calls i d) ≤ length c) (read_of-reverse first (take i calls)) inside.0

-- the same of the calls from some one on
pub replay_fits : (first c : List ℕ) (calls tail : List Call) (n : ℕ) → Fits first (reverse calls) → c ≡ replayed first (take n calls) → tail ≡ drop n calls → (k : ℕ) (d : Call) → k < length tail → end_of (get_or tail k d) ≤ length (replayed c (take k tail))
replay_fits first c calls tail n fits is_c is_tail k d lt =
    let within : n + k < length calls = omega (arith, lt, ap length is_tail, length-drop n calls) in
    let same : replayed c (take k tail) ≡ replayed first (take (n + k) calls) =
    ap (λ (b : List ℕ). replayed b (take k tail)) is_c ∙ ap (λ (l : List Call). replayed (replayed first (take n calls)) (take k l)) is_tail ∙ sym (fold-append (λ (b : List ℕ) (call : Call). after call b) first (take n calls) (take k (drop n calls))) ∙ sym (ap (λ (l : List Call). replayed first l) (take-add n k calls)) in
    let call : get_or tail k d ≡ get_or calls (n + k) d = ap (λ (l : List Call). get_or l k d) is_tail ∙ get_or-drop n calls k d in
    subst (λ (x : Call). end_of x ≤ length (replayed c (take k tail))) (sym call) (subst (λ (b : List ℕ). end_of (get_or calls (n + k) d) ≤ length b) (sym same) (fits_at first calls (n + k) d fits within))

-- what was stable, and the calls since
pub replayed_tail : (first c : List ℕ) (calls tail : List Call) (n : ℕ) → c ≡ replayed first (take n calls) → tail ≡ drop n calls → replayed c tail ≡ replayed first calls
replayed_tail first c calls tail n is_c is_tail =
    ap (λ (b : List ℕ). replayed b tail) is_c ∙ ap (λ (l : List Call). replayed (replayed first (take n calls)) l) is_tail ∙ sym (fold-append (λ (b : List ℕ) (call : Call). after call b) first (take n calls) (drop n calls)) ∙ ap (λ (l : List Call). replayed first l) (take-append-drop n calls)

-- a call leaves one length, whatever bytes a crash puts
pub length_torn : (b : ℕ) (x : Call) (c d : List ℕ) → length c ≡ length d → end_of x ≤ length d → length (torn_by (Byte b) x c) ≡ length (after x d)
length_torn b (Write place written) c d same fits =
    let filled : place + length (replicate (length written.items) b) ≤ length c = omega (arith, same, fits, length-replicate (length written.items) b) in
    length-put c place (replicate (length written.items) b) filled ∙ same ∙ sym (length-put d place written.items fits)
length_torn b (Resize n) c d same fits = let short = resized_sized n b c in let long = resized_sized n 0 d in short.is_long ∙ sym long.is_long
length_torn b Sync c d same fits = same

length_torn_replayed : (b : ℕ) (c d : List ℕ) (xs : List Call) → length c ≡ length d → ((k : ℕ) (e : Call) → k < length xs → end_of (get_or xs k e) ≤ length (replayed d (take k xs))) → length (torn_replayed (Byte b) c xs) ≡ length (replayed d xs)
length_torn_replayed b c d [] same fits = same
length_torn_replayed b c d (x ∷ xs) same fits =
    length_torn_replayed b (torn_by (Byte b) x c) (after x d) xs (length_torn b x c d same (fits zero x (omega arith))) (λ k e lt. fits (suc k) e (omega (arith, lt)))

-- a crash's bytes go where the calls wrote
pub tear_fits : (pick : Pick) (c : List ℕ) (xs : List Call) → ((k : ℕ) (d : Call) → k < length xs → end_of (get_or xs k d) ≤ length (replayed c (take k xs))) → (k : ℕ) (d : Call) → k < length xs → end_by pick (get_or xs k d) ≤ length (torn_replayed pick c (take k xs))
tear_fits Nothing c xs fits k d lt = omega arith
tear_fits All c xs fits k d lt = fits k d lt
tear_fits (Byte b) c xs fits k d lt =
    let front : (j : ℕ) (e : Call) → j < length (take k xs) → end_of (get_or (take k xs) j e) ≤ length (replayed c (take j (take k xs))) = λ j e below. fits_front c xs k fits (omega arith) j e below in
    omega (arith, fits k d lt, length_torn_replayed b c c (take k xs) refl front)
  where
    fits_front : (c : List ℕ) (xs : List Call) (k : ℕ) → ((j : ℕ) (e : Call) → j < length xs → end_of (get_or xs j e) ≤ length (replayed c (take j xs))) → k ≤ length xs → (j : ℕ) (e : Call) → j < length (take k xs) → end_of (get_or (take k xs) j e) ≤ length (replayed c (take j (take k xs)))
    fits_front c xs k fits le j e below =
        let lt : j < k = omega (arith, below, length-take k xs) in
        let far : j < length xs = omega (arith, lt, le) in
        subst (λ (x : Call). end_of x ≤ length (replayed c (take j (take k xs)))) (sym (get_or-take k xs j e lt)) (subst (λ (l : List Call). end_of (get_or xs j e) ≤ length (replayed c l)) (sym (take-take j k xs (omega (arith, lt)))) (fits j e far))

-- right after a sync there is one image
picked_settled : (pick : Pick) (first : List ℕ) (h : List Call) → is_settled h ≡ true → picked pick first h ≡ read_of first h
picked_settled pick first [] is = refl
picked_settled pick first (Write place written ∷ before) is = cc
picked_settled pick first (Resize n ∷ before) is = cc
picked_settled pick first (Sync ∷ before) is = refl

picked_step : (pick : Pick) (first : List ℕ) (x : Call) (before : List Call) → is_sync x ≡ false → picked pick first (x ∷ before) ≡ torn_by pick x (picked pick first before)
picked_step pick first (Write place written) before is = refl
picked_step pick first (Resize n) before is = refl
picked_step pick first Sync before is = cc

picked_since : (pick : Pick) (first : List ℕ) (h xs : List Call) → ((k : ℕ) (d : Call) → k < length xs → is_sync (get_or xs k d) ≡ false) → picked pick first (reverse xs ++ h) ≡ torn_replayed pick (picked pick first h) xs
picked_since pick first h [] pending = refl
picked_since pick first h (x ∷ xs) pending =
    ap (λ (l : List Call). picked pick first (l ++ h)) (reverse-append (x ∷ []) xs) ∙ ap (λ (l : List Call). picked pick first l) (append_assoc (reverse xs) (x ∷ []) h) ∙ picked_since pick first (x ∷ h) xs (λ k d lt. pending (suc k) d (omega (arith, lt))) ∙ ap (λ (c : List ℕ). torn_replayed pick c xs) (picked_step pick first x h (pending zero x (omega arith)))

-- an image is what was stable, and what a crash makes of the calls since
pub picked_tail : (pick : Pick) (first c : List ℕ) (calls tail : List Call) (n : ℕ) → c ≡ replayed first (take n calls) → tail ≡ drop n calls → is_settled (reverse (take n calls)) ≡ true → ((k : ℕ) (d : Call) → n ≤ k → k < length calls → is_sync (get_or calls k d) ≡ false) → picked pick first (reverse calls) ≡ torn_replayed pick c tail
picked_tail pick first c calls tail n is_c is_tail settled pending =
    let h : List Call = reverse (take n calls) in
    let since : (k : ℕ) (d : Call) → k < length (drop n calls) → is_sync (get_or (drop n calls) k d) ≡ false = λ k d lt. ap is_sync (get_or-drop n calls k d) ∙ pending (n + k) d (omega arith) (omega (arith, lt, length-drop n calls)) in
    ap (λ (l : List Call). picked pick first l) (reverse_parts calls n) ∙ picked_since pick first h (drop n calls) since ∙ ap (λ (l : List Call). torn_replayed pick (picked pick first h) l) (sym is_tail) ∙ ap (λ (b : List ℕ). torn_replayed pick b tail) (picked_settled pick first h settled ∙ read_of-reverse first (take n calls) ∙ sym is_c)

-- a sync asks for no room
pub room_tail : (cap : ℕ) (calls grown old new : List Call) (n : ℕ) → n ≤ length calls → grown ≡ calls ++ Sync ∷ [] → old ≡ drop n calls → new ≡ drop n grown → ((k : ℕ) (d : Call) → k < length old → room_of (get_or old k d) ≤ cap) → (k : ℕ) (d : Call) → k < length new → room_of (get_or new k d) ≤ cap
room_tail cap calls grown old new n le is_grown is_old is_new each =
    let Asks : List Call → Type 0 = λ l. (k : ℕ) (d : Call) → k < length l → room_of (get_or l k d) ≤ cap in
    let same : new ≡ drop n calls ++ Sync ∷ [] = is_new ∙ ap (λ (l : List Call). drop n l) is_grown ∙ drop-append-le n calls (Sync ∷ []) le in
    subst Asks (sym same) (all_push (λ x. room_of x ≤ cap) (drop n calls) Sync (subst Asks is_old each) (omega arith))
