use Rattle.lalrpop_lr1_tests.proofs.lanes.lead_to_2.Goals as goal

pub returns : goal.returns
returns g c = (c.in-Ok.ensures.gains 0).conflicts
