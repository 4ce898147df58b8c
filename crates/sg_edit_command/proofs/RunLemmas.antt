-- From one line to all lines before and with it.
use Rattle.std.proofs.Common.{◌≡◌, ◌∙◌, ℕ, ◌+◌, List, [], ◌∷◌, ◌++◌, Option, length, refl, sym, ap, subst, append-nil}
use Rattle.std.specs.Io.KnownBytes.{Appends}
use Rattle.std.proofs.KnownBytes.{Appends-trans}
use Rattle.sg_edit_command.proofs.FoldLemmas.{all_more, content_more, core_more, replies_more}
use Rattle.sg_edit_command.proofs.ReadLemmas.{cannot_read, given_all, given_more, long_read, next_read, some_read, too_much_read}
use Rattle.sg_edit_command.specs.Answering.{EndsAt, EndsNext, HasAnswered, HasGiven, IsAnswered, stop_of}
use Rattle.sg_edit_command.specs.Answering.EndsAt.{bad as bad_line_ends, cut as cut_line_ends, keeper as keeper_line_ends, memory as memory_line_ends}
use Rattle.sg_edit_command.specs.Answering.EndsNext.{at as at_line, none as no_line, stopped as stopped_line}
use Rattle.sg_edit_command.specs.Asking.{IsAnswerable, content_after, core_after, line_step, replies, reply_if}
use Rattle.sg_edit_command.specs.Edits.{Answers, Edits}
use Rattle.sg_edit_command.specs.Edits.Edits.{all as ends_all, bad as ends_bad, cut as ends_cut, keeper as ends_keeper, long as ends_long, memory as ends_memory, much as ends_much, read as ends_read}
use Rattle.sg_edit_command.specs.Reading.{ReadsNext}
use Rattle.sg_endings.specs.Stops.{status_of, text_of}
use Rattle.sg_keeper.specs.View.{Ran, Same, View}
use Rattle.sg_lines.specs.Reading.{Gives, GivesNone, Input, Reader, Stops}
use Rattle.sg_lines.specs.declared.stop.LineStop.{LineStop}
use Rattle.sg_lines.specs.declared.stop.LineStop.TheVariants as line_stop
use Rattle.sg_loading.proofs.RunLemmas.{ran_failed, ran_joined, ran_none}
use Rattle.sg_loading.specs.declared.fault.LoadFault.TheVariants as fault
use Rattle.sg_steps.specs.State.{Core, Stands}

-- ---- answers

-- no line
pub answers_none : (core : Core) (v : View) → Answers core v v []
answers_none core v = record { edits = tt; rows = λ content told stands. stands }

-- the rows stay
pub answers_same : (core : Core) (old mid new : View) (lines : List (List ℕ)) → (old.told → mid.told) → Answers core old mid lines → Same mid new → Answers core old new lines
answers_same core old mid new lines told a same = record {
  edits = a.edits;
  rows = λ content t stands. subst (λ (rows : ℕ → Option (List ℕ)). Stands (core_after core lines) (content_after core lines content) rows) (sym (same (told t))) (a.rows content t stands);
}

-- one line more
after_more : (core later : Core) (mid new : View) (lines : List (List ℕ)) (line : List ℕ) → IsAnswered line (core_after core lines) later mid new → core_after core (lines ++ line ∷ []) ≡ later
after_more core later mid new lines line is = core_more core lines line ∙ sym is.step

answers_then : (core later : Core) (old mid new : View) (lines : List (List ℕ)) (line : List ℕ) → (old.told → mid.told) → Answers core old mid lines
    → IsAnswered line (core_after core lines) later mid new → Answers core old new (lines ++ line ∷ [])
answers_then core later old mid new lines line told a is = record {
  edits = all_more IsAnswerable lines line a.edits is.edit;
  rows = λ content t stands.
      rw (after_more core later mid new lines line is, content_more core lines line content)
      (is.rows (content_after core lines content) (told t) (a.rows content t stands));
}

-- and its reply after theirs
pub put_more : (core at : Core) (lines : List (List ℕ)) (line : List ℕ) (old mid new : Option (List ℕ)) → at ≡ core_after core lines → Appends old mid (replies core lines)
    → Appends mid new (reply_if (line_step at line)) → Appends old new (replies core (lines ++ line ∷ []))
put_more core at lines line old mid new is before then =
    let more : replies core (lines ++ line ∷ []) ≡ replies core lines ++ reply_if (line_step at line) =
    replies_more core lines line ∙ ap (λ (c : Core). replies core lines ++ reply_if (line_step c line)) (sym is) in
    subst (Appends old new) (sym more) (Appends-trans old mid new (replies core lines) (reply_if (line_step at line)) before then)

pub answered_none : (before : Input) (reader : Reader) (core : Core) (v : View) → HasGiven before before reader [] → HasAnswered before before reader core core v v []
answered_none before reader core v given = record { reads = given; answers = answers_none core v; after = refl; ran = ran_none v }

module _ (before now after : Input) (reader : Reader) (core at : Core) (old mid new : View) (given : List (List ℕ)) (h : HasAnswered before now reader core at old mid given) where
  told : old.told → mid.told
  told t = h.ran.told t

  here : (later : Core) (line : List ℕ) → IsAnswered line at later mid new → IsAnswered line (core_after core given) later mid new
  here later line is = subst (λ (c : Core). IsAnswered line c later mid new) h.after is

  -- a server that has answered lines answers one more
  pub answered_more : (later : Core) (reader' : Reader) (line : List ℕ) → Gives now after reader reader' line → IsAnswered line at later mid new
      → HasAnswered before after reader' core later old new (given ++ line ∷ [])
  answered_more later reader' line gives is = record {
    reads = given_more before now after reader reader' given line h.reads gives;
    answers = answers_then core later old mid new given line told h.answers (here later line is);
    after = sym (after_more core later mid new given line (here later line is));
    ran = ran_joined 0 0 old mid new h.ran is.ran;
  }

  kept : Same mid new → Answers core old new given
  kept same = answers_same core old mid new given told h.answers same

  ran_on : Ran 0 mid new → Ran 0 old new
  ran_on ran = ran_joined 0 0 old mid new h.ran ran

  ends_none : (reader' : Reader) → GivesNone now after reader reader' → Ran 0 mid new → Same mid new → Edits core before after old new 0 (replies core given ++ [])
  ends_none reader' none ran same =
      subst (Edits core before after old new 0) (sym (append-nil (replies core given)))
      (ends_all given (kept same) (given_all before now after reader reader' given h.reads none) (ran_on ran))

  ends_stopped : (number : ℕ) (why : LineStop) → number ≡ length given + 1 → Stops now after reader why → Ran 0 mid new → Same mid new
      → Edits core before after old new (status_of (stop_of why number)) (replies core given ++ text_of (stop_of why number))
  ends_stopped number line_stop.Read numbered stops ran same = ends_read given (kept same) (cannot_read before now after reader stops.cause.0 given h.reads stops.early stops.cause.1) (ran_on ran)
  ends_stopped number line_stop.LongLine numbered stops ran same =
      rw numbered (ends_long given (kept same) (long_read before now after reader stops.cause.0 given h.reads stops.early stops.cause.1 stops.cause.2) (ran_on ran))
  ends_stopped number line_stop.TooLong numbered stops ran same =
      ends_much given (kept same) (too_much_read before now after reader stops.cause.0 given h.reads stops.early stops.cause.1 (stops.quiet (λ e. cc))) (ran_on ran)
  ends_stopped number line_stop.Memory numbered stops ran same =
      ends_memory given (reader.held ++ stops.cause.0) (kept same)
      (some_read before now after reader given stops.cause.0 h.reads stops.early stops.cause.1 stops.cause.2 (stops.quiet (λ e. cc))) (ran_on ran)

  ends_at : (number : ℕ) (line : List ℕ) → number ≡ length given + 1 → ReadsNext before after given line → {status : ℕ} {text : List ℕ} → EndsAt line number at mid new status text
      → Edits core before after old new status (replies core given ++ text)
  ends_at number line numbered read (bad_line_ends none ran same) = rw numbered (ends_bad given line (kept same) read none (ran_on ran))
  ends_at number line numbered read (cut_line_ends later is) =
      let more : replies core (given ++ line ∷ []) ≡ replies core given ++ reply_if (line_step at line) =
      replies_more core given line ∙ ap (λ (c : Core). replies core given ++ reply_if (line_step c line)) (sym h.after) in
      subst (Edits core before after old new 5) more
      (ends_cut given line (answers_then core later old mid new given line told h.answers (here later line is)) read (ran_on is.ran))
  ends_at number line numbered read (memory_line_ends ran same) = ends_memory given read.others (kept same) read.read (ran_on ran)
  ends_at number line numbered read (keeper_line_ends broke same) = ends_keeper given line (kept same) read (ran_failed 0 old mid new fault.Keeper h.ran broke)

  -- how a run ends after lines that were answered
  pub ends_after : (number : ℕ) → number ≡ length given + 1 → (status : ℕ) (text : List ℕ) → EndsNext now after reader number at mid new status text
      → Edits core before after old new status (replies core given ++ text)
  ends_after number numbered status text (no_line reader' none ran same) = ends_none reader' none ran same
  ends_after number numbered status text (stopped_line why stops ran same) = ends_stopped number why numbered stops ran same
  ends_after number numbered status text (at_line reader' line gives ends) =
      ends_at number line numbered (next_read before now after reader reader' given line h.reads gives) ends
