use Rattle.sg_base_tests.proofs.values.counts_in_no_room.Given as goal

abbrev pub ghosts-count : goal.ghosts-count
ghosts-count g a = record { name = a.blank.name; parts = a.blank.parts }
