use Rattle.sg_resolver_tests.proofs.tests.slots_of_the_default_layout.Given as goal

abbrev pub ghosts-shown_at : goal.ghosts-shown_at
ghosts-shown_at g a = record { name = a.blank.name; parts = a.blank.parts }
