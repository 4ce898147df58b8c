use Rattle.sg_resolver_tests.proofs.tests.a_segment_ends_with_the_hour_or_where_an_event_changes.Given as goal

abbrev pub ghosts-shown_at : goal.ghosts-shown_at
ghosts-shown_at g a = record { name = a.blank.name; parts = a.blank.parts }
