use Rattle.std.proofs.Common.{◌≡◌, ◌+◌, ◌*◌, length, cond}
use Rattle.lalrpop_sets.specs.Tokens.{eof_number}
use Rattle.lalrpop_lr1_first.specs.Flows.{MarksAreWithin, all_marks}
use Rattle.lalrpop_lr1_first.specs.FlowEdges.{edges_seen}
use Rattle.lalrpop_lr1_first.specs.FlowSteps.{IsFlowing}
use Rattle.lalrpop_lr1_first.specs.FirstSteps.{missing_in}
use Rattle.lalrpop_lr1_first.proofs.flowing.flow.Given as goal

abbrev pub invariant-loop-changed : goal.invariant-loop-changed
invariant-loop-changed g l =
    IsFlowing g.L.ClosureLookahead.firsts (eof_number l.terminals) (edges_seen l.firsts l.edges)
    (all_marks g.L.ClosureLookahead.marks (eof_number l.terminals + 2) l.fn.slots.items)
    (all_marks g.L.ClosureLookahead.marks (eof_number l.terminals + 2) l.slots.items) l.changed
    × MarksAreWithin g.L.ClosureLookahead.marks (eof_number l.terminals) l.slots.items
    × (length l.slots.items ≡ length l.fn.slots.items)

abbrev pub decreases-loop-changed : goal.decreases-loop-changed
decreases-loop-changed g l =
    2 * missing_in (eof_number l.terminals + 3) (all_marks g.L.ClosureLookahead.marks (eof_number l.terminals + 2) l.slots.items)
    + cond l.changed 1 0
