use Rattle.std.proofs.Common.{◌≡◌, IsTrue, subst, arith}
use Rattle.sg_base.specs.Keys.{number_of}
use Rattle.sg_base.specs.Rows.{kind_of}
use Rattle.sg_records.specs.Saved.{IsSavedText, is_state}
use Rattle.sg_records.proofs.SavedLemmas.{row_id}
use Rattle.sg_tables.specs.Entries.{Kept, number_of_kept}
use Rattle.sg_tables.specs.Rows.{code_of}
use Rattle.sg_tables.specs.Tables.{file_of}
use Rattle.sg_tables.proofs.KindLemmas.{same_code}
use Rattle.sg_records.proofs.saved.read_of.Goals as goal

pub returns-then-not-is_own : goal.returns-then-not-is_own
returns-then-not-is_own c e h n text =
    let id = row_id e.row h.row in
    let code : code_of (kind_of e.row) ≡ code_of c.args.kind = omega (arith, id, n, c.requires.kind) in
    let said = c.in_ok-saved.ensures.again e h (same_code (kind_of e.row) c.args.kind code) text in
    let is : e ≡ c.in-Some.saved = cc in
    let own = subst (λ (s : Kept). (number_of_kept s ≡ number_of c.args.key) × IsTrue (is_state (file_of s.row) s.received s.complete)) is (n, h.state) in
    let yes = c.is_own.ensures.1 own in
    let no = c.if-not-is_own.true in
    absurd (cc)

pub returns-else-branch : goal.returns-else-branch
returns-else-branch c e h n text =
    let id = row_id e.row h.row in
    let code : code_of (kind_of e.row) ≡ code_of c.args.kind = omega (arith, id, n, c.requires.kind) in
    let said = c.in_ok-saved.ensures.again e h (same_code (kind_of e.row) c.args.kind code) text in
    let is : e ≡ c.in-Some.saved = cc in
    let yes = c.in_ok-is_text-in-Some.ensures.1 (subst (λ (s : Kept). IsSavedText s c.args.bytes.now) is text) in
    let no = c.if-branch.false in
    absurd (cc)
