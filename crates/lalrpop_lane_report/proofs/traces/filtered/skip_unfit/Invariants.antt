use Rattle.std.proofs.Common.{◌≡◌, ◌≤◌, length}
use Rattle.lalrpop_grammar_repr.specs.declared.grammar.Grammar.{Grammar}
use Rattle.lalrpop_lr1_first.specs.FirstSetsOf.{AreFirstSetsOf}
use Rattle.lalrpop_lane_report.specs.FittingPaths.{SkipsUnfit}
use Rattle.lalrpop_lane_report.proofs.traces.filtered.skip_unfit.Given as goal

abbrev pub invariant-loop-alloc : goal.invariant-loop-alloc
invariant-loop-alloc l = record {
  skipped : (g : Grammar) → AreFirstSetsOf g l.first_sets → l.terminals ≡ g.terminals → SkipsUnfit g l.lookahead l.fn.paths.left l.paths.left;
  shorter : length l.paths.left ≤ length l.fn.paths.left;
  graph : l.paths.graph ≡ l.fn.paths.graph;
}

abbrev pub decreases-loop-alloc : goal.decreases-loop-alloc
decreases-loop-alloc l = length l.paths.left
