-- Words as moments.
use Rattle.std.proofs.Common.{◌≡◌, ℕ, ◌+◌, ◌<◌, ◌≤◌, ◌^◌, List, [], ◌∷◌, ◌++◌, length, map, take, get_or, Option, Some, None, MatchOption, SomeIff, zero, suc, sym, ap, ◌∙◌, arith, refl}
use Rattle.std.specs.Fmt.{decimal}
use Rattle.std.proofs.lemmas.Fmt.{decimal_injective}
use Rattle.std.proofs.lemmas.List.{take_more, map-append}
use Rattle.std.specs.Prelude.{codes, IfOk, Result, Ok, Err}
use Rattle.std.specs.declared.alloc.AllocError.{AllocError}
use Rattle.sg_words.specs.Table.{Said, said_by, said_in}
use Rattle.sg_words.specs.Table.Said.{Edit as SaidEdit, Format as SaidFormat, Made as SaidMade, Play as SaidPlay, Rehearse as SaidRehearse, Report as SaidReport, Serve as SaidServe}
use Rattle.signage.specs.declared.command.Command.{Command}
use Rattle.signage.specs.declared.command.Command.TheVariants.{Edit, Preview, Report, Serve}
use Rattle.signage.specs.Words.{ArePreviewWords, IsMoment, AreMoments, IsPreviewOf, NamedBy, Says, command_said}

-- a word that is the decimal of a number is a moment exactly where the number is
pub moment_found : (r : Option ℕ) (word : List ℕ) (n : ℕ) → n < 2 ^ 32 → word ≡ decimal n → SomeIff r (n ≤ 4102444799) n → MatchOption r ((m : ℕ) → IsMoment word m → ⊥) (λ m. IsMoment word m)
moment_found None word n fits is h = λ m moment.
    let same : m ≡ n = decimal_injective m n (omega (arith, moment.bound)) (omega (arith, fits)) (sym moment.is ∙ is) in
    h (omega (arith, moment.bound, same))
moment_found (Some x) word n fits is h = record { bound = omega (arith, h.0, h.1); is = is ∙ ap decimal (sym h.1) }

-- where one word is no moment, the words aren't moments
pub no_moment : {X : Type 0} (f : X → List ℕ) (xs : List X) (i : ℕ) (x : X) (ms : List ℕ) → i < length xs → x ≡ get_or xs i x → ((m : ℕ) → IsMoment (f x) m → ⊥) → AreMoments (map f xs) ms → ⊥
no_moment f [] i x ms inside is none are = omega arith
no_moment f (y ∷ ys) zero x [] inside is none are = are
no_moment f (y ∷ ys) zero x (m ∷ ms) inside is none are = none m (rw is are.0)
no_moment f (y ∷ ys) (suc i) x [] inside is none are = are
no_moment f (y ∷ ys) (suc i) x (m ∷ ms) inside is none are = no_moment f ys i x ms (omega arith) is none are.1

-- one word more, and one moment more
are_more : (ws : List (List ℕ)) (ms : List ℕ) (w : List ℕ) (m : ℕ) → AreMoments ws ms → IsMoment w m → AreMoments (ws ++ w ∷ []) (ms ++ m ∷ [])
are_more [] [] w m are is = (is, tt)
are_more [] (n ∷ ms) w m are is = absurd are
are_more (v ∷ ws) [] w m are is = absurd are
are_more (v ∷ ws) (n ∷ ms) w m are is = (are.0, are_more ws ms w m are.1 is)

pub are_push : {X : Type 0} (f : X → List ℕ) (xs : List X) (i : ℕ) (x : X) (ms : List ℕ) (m : ℕ) → i < length xs → x ≡ get_or xs i x → AreMoments (map f (take i xs)) ms → IsMoment (f x) m → AreMoments (map f (take (i + 1) xs)) (ms ++ m ∷ [])
are_push f xs i x ms m inside is are moment = rw (take_more xs i x inside, ← is, map-append) (are_more (map f (take i xs)) ms (f x) m are moment)

-- there are as many moments as words
pub length-AreMoments : {X : Type 0} (f : X → List ℕ) (xs : List X) (ms : List ℕ) → AreMoments (map f xs) ms → length ms ≡ length xs
length-AreMoments f [] [] are = refl
length-AreMoments f [] (m ∷ ms) are = absurd are
length-AreMoments f (x ∷ xs) [] are = absurd are
length-AreMoments f (x ∷ xs) (m ∷ ms) are = omega (arith, length-AreMoments f xs ms are.1)

-- words name at most one list of moments
pub one_list : (ws : List (List ℕ)) (ms ns : List ℕ) → AreMoments ws ms → AreMoments ws ns → ms ≡ ns
one_list [] [] [] a b = refl
one_list [] [] (n ∷ ns) a b = absurd b
one_list [] (m ∷ ms) ns a b = absurd a
one_list (w ∷ ws) [] ns a b = absurd a
one_list (w ∷ ws) (m ∷ ms) [] a b = absurd b
one_list (w ∷ ws) (m ∷ ms) (n ∷ ns) a b =
    let same : m ≡ n = decimal_injective m n (omega (arith, a.0.bound)) (omega (arith, b.0.bound)) (sym a.0.is ∙ b.0.is) in
    let rest : ms ≡ ns = one_list ws ms ns a.1 b.1 in
    rw (same, rest) refl

-- ---- words as commands

-- the words of a preview are no other command's
pub no_said : (w : List ℕ) (ws : List (List ℕ)) (c : Command) → w ≡ codes "preview" → Says (w ∷ ws) c → ⊥
no_said w ws c is says =
    let none : command_said (said_in (w ∷ ws)) ≡ None = ap (λ (name : List ℕ). command_said (said_by name ws)) is in
    let both : ◌≡◌ {A = Option Command} None (Some c) = sym none ∙ says in
    cc

none_named : (w : List ℕ) (ws : List (List ℕ)) → w ≡ codes "preview" → ((ms : List ℕ) → ArePreviewWords ws ms → ⊥) → (c : Command) → NamedBy w ws c → ⊥
none_named w ws is h (Preview ms) named = h ms named.moments
none_named w ws is h (Report from to) named = no_said w ws (Report from to) is named
none_named w ws is h Edit named = no_said w ws Edit is named
none_named w ws is h (Serve key n) named = no_said w ws (Serve key n) is named

-- what `preview` names
pub preview_named : (w : List ℕ) (ws : List (List ℕ)) (r : Result (Option Command) AllocError) → w ≡ codes "preview"
    → IfOk r (λ o. MatchOption o ((ms : List ℕ) → ArePreviewWords ws ms → ⊥) (IsPreviewOf ws)) → IfOk r (λ o. MatchOption o ((c : Command) → NamedBy w ws c → ⊥) (λ c. NamedBy w ws c))
preview_named w ws (Err e) is h = tt
preview_named w ws (Ok None) is h = none_named w ws is h
preview_named w ws (Ok (Some (Preview ms))) is h = record { command = is; moments = h }
preview_named w ws (Ok (Some (Report from to))) is h = absurd h
preview_named w ws (Ok (Some Edit)) is h = absurd h
preview_named w ws (Ok (Some (Serve key n))) is h = absurd h

-- the table has no preview
no_preview : (o : Option Said) (ms : List ℕ) → Some (Preview ms) ≡ command_said o → ⊥
no_preview None ms is = cc
no_preview (Some (SaidFormat s v d k n)) ms is = cc
no_preview (Some (SaidPlay s v k n p)) ms is = cc
no_preview (Some (SaidServe d l k n)) ms is = cc
no_preview (Some (SaidEdit d)) ms is = cc
no_preview (Some (SaidReport d f t)) ms is = cc
no_preview (Some SaidRehearse) ms is = cc
no_preview (Some (SaidMade n)) ms is = cc

none_said : (w : List ℕ) (ws : List (List ℕ)) → (w ≡ codes "preview" → ⊥) → ◌≡◌ {A = Option Command} None (command_said (said_in (w ∷ ws))) → (c : Command) → NamedBy w ws c → ⊥
none_said w ws other h (Preview ms) named = other named.command
none_said w ws other h (Report from to) named = let both : ◌≡◌ {A = Option Command} None (Some (Report from to)) = h ∙ named in cc
none_said w ws other h Edit named = let both : ◌≡◌ {A = Option Command} None (Some Edit) = h ∙ named in cc
none_said w ws other h (Serve key n) named = let both : ◌≡◌ {A = Option Command} None (Some (Serve key n)) = h ∙ named in cc

-- what the words say by the table
pub said_named : (w : List ℕ) (ws : List (List ℕ)) (r : Result (Option Command) AllocError) → (w ≡ codes "preview" → ⊥) → IfOk r (λ o. o ≡ command_said (said_in (w ∷ ws)))
    → IfOk r (λ o. MatchOption o ((c : Command) → NamedBy w ws c → ⊥) (λ c. NamedBy w ws c))
said_named w ws (Err e) other h = tt
said_named w ws (Ok None) other h = none_said w ws other h
said_named w ws (Ok (Some (Preview ms))) other h = absurd (no_preview (said_in (w ∷ ws)) ms h)
said_named w ws (Ok (Some (Report from to))) other h = sym h
said_named w ws (Ok (Some Edit)) other h = sym h
said_named w ws (Ok (Some (Serve key n))) other h = sym h
