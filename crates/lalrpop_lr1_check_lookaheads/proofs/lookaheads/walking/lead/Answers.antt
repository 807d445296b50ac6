use Rattle.std.proofs.Common.{◌<◌, ◌≤◌, arith, length}
use Rattle.lalrpop_lr1_check_lookaheads.proofs.GainLemmas.{get_at}
use Rattle.lalrpop_lr1_check_lookaheads.proofs.WalkLemmas.{lead_past, lead_there}
use Rattle.lalrpop_lr1_check_lookaheads.proofs.lookaheads.walking.lead.Goals as goal

pub returns-then-number-states : goal.returns-then-number-states
returns-then-number-states c = λ look m.
    let s = c.index-states-number.result in
    let here : c.args.number < length c.args.states.now = omega arith in
    lead_there look c.args.states.now c.args.number s c.args.symbol.now m c.target_of.result
    (get_at c.args.states.now c.args.number s here c.index-states-number.is) c.target_of.ensures.ordered
    c.target_of.ensures.target

pub returns-else-number-states : goal.returns-else-number-states
returns-else-number-states c = λ look m.
    let past : length c.args.states.now ≤ c.args.number = omega arith in
    lead_past look c.args.states.now c.args.number c.args.symbol.now m past
