use Rattle.sg_events.proofs.ActiveLemmas.{test_custom, test_named}
use Rattle.sg_events.proofs.activity.is_active.Goals as goal

pub returns-in-Custom-clause-test : goal.returns-in-Custom-clause-test
returns-in-Custom-clause-test c =
    test_custom _ _ _ _ _ _ _ _ c.in-Custom.ensures.value c.repeat.ensures.value c.is_running.ensures

pub returns-in-Some-clause-test : goal.returns-in-Some-clause-test
returns-in-Some-clause-test c =
    rw c.in-Some.is (test_named _ _ _ _ _ _ _ c.in-Named.ensures.value c.is_open.ensures.valid c.is_open.ensures.meaning)
