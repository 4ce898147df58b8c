use Rattle.sg_words.specs.Table.{format_words}
use Rattle.sg_words.proofs.table.format_words.Goals as goal

pub returns-in-Some : goal.returns-in-Some
unfolding format_words
returns-in-Some c =
    let found = rw c.in-Some.is at c.in_ok-matches.ensures in
    rw (← found) c.format_in.ensures
