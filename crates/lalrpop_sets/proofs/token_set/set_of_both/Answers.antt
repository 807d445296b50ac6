use Rattle.std.proofs.Common.{◌∙◌}
use Rattle.lalrpop_sets.proofs.TokenSetLemmas.{asc_set, has_set}
use Rattle.lalrpop_sets.proofs.token_set.set_of_both.Goals as goal

pub invariant_of-result : goal.invariant_of-result
invariant_of-result c =
    record { apart = c.take_end-end.ensures.apart; free = c.take_end-end.ensures.free; room = c.take_end-end.ensures.room }

pub returns-clause-both : goal.returns-clause-both
returns-clause-both c k =
    has_set c.take_end-end.new.ranges.items c.take_end-end.result _
    (record { apart = c.take_end-end.ensures.apart; free = c.take_end-end.ensures.free; room = c.take_end-end.ensures.room }) k
    ∙ c.take_end-end.ensures.same k ∙ c.in_ok-ranges.ensures.covered k

pub returns-clause-ordered : goal.returns-clause-ordered
returns-clause-ordered c =
    asc_set c.take_end-end.new.ranges.items c.take_end-end.result _
    (record { apart = c.take_end-end.ensures.apart; free = c.take_end-end.ensures.free; room = c.take_end-end.ensures.room })
