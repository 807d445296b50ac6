use Rattle.std.proofs.Common.{◌≡◌, ◌+◌, length}
use Rattle.lalrpop_sets.specs.Tokens.{eof_number}
use Rattle.lalrpop_lr1_first.specs.Flows.{MarksAreWithin, all_marks}
use Rattle.lalrpop_lr1_first.specs.FlowEdges.{edges_seen}
use Rattle.lalrpop_lr1_first.specs.FlowSteps.{FlowsTo}
use Rattle.lalrpop_lr1_first.proofs.flowing.sweep.Given as goal

abbrev pub invariant-loop-step : goal.invariant-loop-step
invariant-loop-step g l =
    (length l.slots.items ≡ length l.fn.slots.items)
    × MarksAreWithin g.L.ClosureLookahead.marks (eof_number l.terminals) l.slots.items
    × FlowsTo g.L.ClosureLookahead.firsts (eof_number l.terminals) (edges_seen l.firsts l.edges) l.forward l.step
    (all_marks g.L.ClosureLookahead.marks (eof_number l.terminals + 2) l.fn.slots.items)
    (all_marks g.L.ClosureLookahead.marks (eof_number l.terminals + 2) l.slots.items) l.changed
