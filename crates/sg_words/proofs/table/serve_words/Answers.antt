use Rattle.sg_words.specs.Table.{serve_words}
use Rattle.sg_words.proofs.table.serve_words.Goals as goal

pub returns-in-Some : goal.returns-in-Some
unfolding serve_words
returns-in-Some c =
    let found = rw c.in-Some.is at c.in_ok-matches.ensures in
    rw (← found) c.serve_in.ensures
