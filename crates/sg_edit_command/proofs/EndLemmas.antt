-- From the ends of one call to those of the command.
use Rattle.std.proofs.Common.{◌≡◌, ◌∙◌, ℕ, List, [], ◌∷◌, ◌++◌, Option, ap, refl, sym, subst, arith}
use Rattle.std.specs.Io.KnownBytes.{Appends}
use Rattle.std.proofs.KnownBytes.{Appends-nil, Appends-trans}
use Rattle.std.specs.Prelude.{Err, MatchOption, None, Ok, OnErr, Result, Some, option_map}
use Rattle.sg_base.specs.Causes.{Rose}
use Rattle.sg_edit_command.specs.Answering.{EndsAt, EndsNext, IsDone, IsNext, IsUnanswered}
use Rattle.sg_edit_command.specs.Answering.EndsAt.{bad as bad_line_ends, keeper as keeper_line_ends, memory as memory_line_ends}
use Rattle.sg_edit_command.specs.Answering.EndsNext.{at as at_line}
use Rattle.sg_edit_command.specs.Asking.{reply_if, reply_text}
use Rattle.sg_edit_command.specs.Edits.{Answers, Edits, EditsRows}
use Rattle.sg_edit_command.specs.Edits.Edits.{all as ends_all, bad as ends_bad, cut as ends_cut, keeper as ends_keeper, long as ends_long, memory as ends_memory, much as ends_much, read as ends_read}
use Rattle.sg_edit_command.specs.Edits.EditsRows.{opened}
use Rattle.sg_endings.proofs.Endings.{part_behind, retold}
use Rattle.sg_endings.specs.Ends.{Ends}
use Rattle.sg_endings.specs.Stops.{status_of, text_of}
use Rattle.sg_endings.specs.declared.stop.Stop.{Stop}
use Rattle.sg_endings.specs.declared.stop.Stop.TheVariants as stop
use Rattle.sg_keeper.specs.View.{Ran, Same, View}
use Rattle.sg_lines.specs.Reading.{Gives, Input, Reader}
use Rattle.sg_outside.specs.Streams.{AppendsPart}
use Rattle.sg_records.specs.declared.reply.Reply.{Reply}
use Rattle.sg_loading.proofs.RunLemmas.{ran_failed, ran_fewer, ran_joined}
use Rattle.sg_loading.specs.declared.fault.LoadFault.TheVariants as fault
use Rattle.sg_opening.specs.Opening.{IsOpened}
use Rattle.sg_steps.specs.State.{Core, Stands}
use Rattle.sg_steps.specs.Step.{Stepped}

-- an end after other bytes
pub ends_behind : (P Q : ℕ → List ℕ → Type 0) (front : List ℕ) (result : ℕ) (old mid new : Option (List ℕ)) (faults between faults' : ℕ) → Appends old mid front → between ≡ faults
    → ((status : ℕ) (text : List ℕ) → P status text → Q status (front ++ text)) → Ends P result mid new between faults' → Ends Q result old new faults faults'
ends_behind P Q front result old mid new faults between faults' before same tell e = record {
  done = λ fine. record {
    text = front ++ (e.done fine).text;
    is = tell result (e.done fine).text (e.done fine).is;
    put = Appends-trans old mid new front (e.done fine).text before (e.done fine).put;
  };
  quiet = λ fine. e.quiet fine ∙ same;
  write = λ five. record {
    rose = subst (λ (n : ℕ). Rose n faults') same (e.write five).rose;
    status = (e.write five).status;
    text = front ++ (e.write five).text;
    is = tell (e.write five).status (e.write five).text (e.write five).is;
    put = part_behind old mid new front (e.write five).text before (e.write five).put;
  };
}

-- an end without a byte
pub ends_now : (P : ℕ → List ℕ → Type 0) (out : Option (List ℕ)) (faults : ℕ) → P 0 [] → Ends P 0 out out faults faults
ends_now P out faults is = record {
  done = λ fine. record { text = []; is = is; put = Appends-nil out };
  quiet = λ fine. refl;
  write = λ five. absurd (omega (arith, five));
}

-- a part of a second text is one of both
pub on_err_behind : {T E : Type 0} (r : Result T E) (old mid new : Option (List ℕ)) (front text : List ℕ) → Appends old mid front → OnErr r (AppendsPart mid new text)
    → OnErr r (AppendsPart old new (front ++ text))
on_err_behind (Ok t) old mid new front text before h = tt
on_err_behind (Err e) old mid new front text before h = part_behind old mid new front text before h

-- the reply of a line that has one
pub reply_said : (o : Option Stepped) (reply : Reply) → Some reply ≡ option_map (λ (s : Stepped). s.reply) o → reply_if o ≡ reply_text reply
reply_said None reply is = absurd cc
reply_said (Some s) reply is =
    let same : reply ≡ s.reply = cc in
    ap reply_text (sym same)

-- an option that is no value
pub if_none : {A : Type 0} (r : Option A) (P : Type 0) (Q : A → Type 0) → ((x : A) → r ≡ Some x → ⊥) → MatchOption r P Q → P
if_none None P Q none h = h
if_none (Some x) P Q none h = absurd (none x refl)

-- the next line, by what was answered to it
pub next_line : (before after : Input) (reader reader' : Reader) (number : ℕ) (core later : Core) (old new : View) (line : List ℕ) (out out' : Option (List ℕ)) (faults faults' : ℕ) (r : Option ℕ)
    → Gives before after reader reader' line
    → MatchOption r (IsDone line core later old new out out' faults faults') (λ status. Ends (EndsAt line number core old new) status out out' faults faults')
    → MatchOption r (IsNext before after reader reader' core later old new out out' faults faults') (λ status. Ends (EndsNext before after reader number core old new) status out out' faults faults')
next_line before after reader reader' number core later old new line out out' faults faults' None gives h = record { line = line; gives = gives; done = h }
next_line before after reader reader' number core later old new line out out' faults faults' (Some s) gives h =
    retold (EndsAt line number core old new) (EndsNext before after reader number core old new) s out out' faults faults' (λ status text e. at_line reader' line gives e) h

-- a line without an answer
pub ends_unanswered : (line : List ℕ) (number : ℕ) (core : Core) (old new : View) (s : Stop) → IsUnanswered s number line old new → Same old new → EndsAt line number core old new (status_of s) (text_of s)
ends_unanswered line number core old new (stop.Line n) is same = rw is.0 (bad_line_ends is.1 is.2 same)
ends_unanswered line number core old new stop.Memory is same = memory_line_ends is same
ends_unanswered line number core old new stop.Keeper is same = keeper_line_ends is same
ends_unanswered line number core old new stop.TooLong is same = absurd is
ends_unanswered line number core old new stop.Read is same = absurd is
ends_unanswered line number core old new (stop.BadRow key) is same = absurd is

-- ---- over the rows as they were before they were loaded

answers_before : (core : Core) (old mid new : View) (lines : List (List ℕ)) → (old.told → mid.told) → Same old mid → Answers core mid new lines → Answers core old new lines
answers_before core old mid new lines told same a = record {
  edits = a.edits;
  rows = λ content t stands. a.rows content (told t) (subst (λ (kept : ℕ → Option (List ℕ)). Stands core content kept) (sym (same t)) stands);
}

module _ (core : Core) (before after : Input) (old mid new : View) (loaded : Ran 9 old mid) (same : Same old mid) where
  earlier : (lines : List (List ℕ)) → Answers core mid new lines → Answers core old new lines
  earlier lines a = answers_before core old mid new lines loaded.told same a

  ran_too : Ran 0 mid new → Ran 0 old new
  ran_too ran = ran_fewer 9 0 old new (omega arith) (ran_joined 9 0 old mid new loaded ran)

  edits_before : {status : ℕ} {text : List ℕ} → Edits core before after mid new status text → Edits core before after old new status text
  edits_before (ends_all lines a read ran) = ends_all lines (earlier lines a) read (ran_too ran)
  edits_before (ends_bad lines line a read none ran) = ends_bad lines line (earlier lines a) read none (ran_too ran)
  edits_before (ends_long lines a read ran) = ends_long lines (earlier lines a) read (ran_too ran)
  edits_before (ends_much lines a read ran) = ends_much lines (earlier lines a) read (ran_too ran)
  edits_before (ends_read lines a read ran) = ends_read lines (earlier lines a) read (ran_too ran)
  edits_before (ends_cut lines last a read ran) = ends_cut lines last (earlier (lines ++ last ∷ []) a) read (ran_too ran)
  edits_before (ends_memory lines others a read ran) = ends_memory lines others (earlier lines a) read (ran_too ran)
  edits_before (ends_keeper lines line a read broke) = ends_keeper lines line (earlier lines a) read (ran_failed 9 old mid new fault.Keeper loaded broke)

  -- what a server that was opened does is what the command does
  pub edits_opened : IsOpened old core → (status : ℕ) (text : List ℕ) → Edits core before after mid new status text → EditsRows before after old new status text
  edits_opened is status text e = opened core is (edits_before e)
