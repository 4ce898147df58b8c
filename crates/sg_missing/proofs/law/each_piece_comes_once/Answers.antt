use Rattle.sg_missing.proofs.FileLemmas.{part_comes, whole_comes}
use Rattle.sg_missing.proofs.PieceLemmas.{places}
use Rattle.sg_missing.proofs.RunLemmas.{all_pieces}
use Rattle.sg_missing.proofs.law.each_piece_comes_once.Goals as goal

pub returns-clause-whole : goal.returns-clause-whole
returns-clause-whole c = whole_comes

pub returns-clause-part : goal.returns-clause-part
returns-clause-part c = part_comes

pub returns-clause-places : goal.returns-clause-places
returns-clause-places c = places

pub returns-clause-all : goal.returns-clause-all
returns-clause-all c = all_pieces
