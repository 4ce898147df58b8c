use Rattle.sg_tables.proofs.references.add_of_event.Goals as goal

pub returns-clause-short : goal.returns-clause-short
returns-clause-short c = λ all.
    c.in_ok-add_groups.ensures.short (c.in_ok-add_displays.ensures.short (c.in_ok-add_daypart.ensures.short (c.in_ok-add.ensures.short all)))
