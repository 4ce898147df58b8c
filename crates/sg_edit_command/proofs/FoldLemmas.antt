-- One line more after others.
use Rattle.std.proofs.Common.{◌≡◌, ◌∙◌, ℕ, ◌+◌, List, [], ◌∷◌, ◌++◌, length, refl, sym, ap, arith, append_assoc}
use Rattle.std.proofs.lemmas.List.{append-nil}
use Rattle.std.specs.List.{AllByRecursion}
use Rattle.sg_edit_command.specs.Asking.{content_after, content_then, core_after, core_then, line_step, replies, reply_if}
use Rattle.sg_edit_command.specs.Reading.{text_of}
use Rattle.sg_steps.specs.State.{Content, Core}

pub core_more : (core : Core) (lines : List (List ℕ)) (line : List ℕ) → core_after core (lines ++ line ∷ []) ≡ core_then (core_after core lines) (line_step (core_after core lines) line)
core_more core [] line = refl
core_more core (l ∷ ls) line = core_more (core_then core (line_step core l)) ls line

pub content_more : (core : Core) (lines : List (List ℕ)) (line : List ℕ) (content : Content)
    → content_after core (lines ++ line ∷ []) content ≡ content_then (line_step (core_after core lines) line) (content_after core lines content)
content_more core [] line content = refl
content_more core (l ∷ ls) line content = content_more (core_then core (line_step core l)) ls line (content_then (line_step core l) content)

pub replies_more : (core : Core) (lines : List (List ℕ)) (line : List ℕ) → replies core (lines ++ line ∷ []) ≡ replies core lines ++ reply_if (line_step (core_after core lines) line)
replies_more core [] line = append-nil (reply_if (line_step core line))
replies_more core (l ∷ ls) line =
    ap (λ (t : List ℕ). reply_if (line_step core l) ++ t) (replies_more (core_then core (line_step core l)) ls line)
    ∙ sym (append_assoc (reply_if (line_step core l)) (replies (core_then core (line_step core l)) ls) (reply_if (line_step (core_after core (l ∷ ls)) line)))

pub all_more : {X : Type 0} (P : X → Type 0) (xs : List X) (x : X) → AllByRecursion P xs → P x → AllByRecursion P (xs ++ x ∷ [])
all_more P [] x all is = (is, tt)
all_more P (y ∷ ys) x all is = (all.0, all_more P ys x all.1 is)

-- the bytes of one line more, and what comes after it
pub text_more : (lines : List (List ℕ)) (line others : List ℕ) → text_of (lines ++ line ∷ []) ++ others ≡ text_of lines ++ (line ++ 10 ∷ others)
text_more [] line others = append_assoc line (10 ∷ []) others
text_more (l ∷ ls) line others =
    append_assoc l (10 ∷ text_of (ls ++ line ∷ [])) others
    ∙ (ap (λ (t : List ℕ). l ++ 10 ∷ t) (text_more ls line others) ∙ sym (append_assoc l (10 ∷ text_of ls) (line ++ 10 ∷ others)))

pub length_more : {X : Type 0} (xs : List X) (x : X) → length (xs ++ x ∷ []) ≡ length xs + 1
length_more [] x = refl
length_more (y ∷ ys) x = omega (arith, length_more ys x)
