use Rattle.lalrpop_lane.proofs.merging.rows_of.Goals as goal

pub returns-in-Ok : goal.returns-in-Ok
returns-in-Ok c = λ n columns h. (c.in-Ok.ensures.each n columns h).long
