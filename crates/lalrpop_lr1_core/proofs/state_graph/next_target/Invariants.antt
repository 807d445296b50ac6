use Rattle.std.proofs.Common.{◌≡◌, length}
use Rattle.lalrpop_lr1_core.specs.Edges.{targets_of}
use Rattle.lalrpop_lr1_core.proofs.state_graph.next_target.Given as goal

abbrev pub invariant-loop-last : goal.invariant-loop-last
invariant-loop-last l = targets_of l.state l.edges.now ≡ targets_of l.state l.initial.edges.now

abbrev pub decreases-loop-last : goal.decreases-loop-last
decreases-loop-last l = length l.edges.now
