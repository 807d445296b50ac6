use Rattle.std.proofs.Common.{ℕ, ◌-◌, ◌^◌, map, Option}
use Rattle.lalrpop_grammar_repr.specs.declared.grammar.Grammar.{Grammar}
use Rattle.lalrpop_sets.specs.declared.nil.Nil.{Nil}
use Rattle.lalrpop_lr1_core.specs.declared.item.Item.{Item}
use Rattle.lalrpop_lane_report.specs.TraceGraphs.{IsWhole}
use Rattle.lalrpop_lane_report.specs.Tracings.{IsBacktracing, Suits, pair_asked}
use Rattle.lalrpop_lane_report.proofs.traces.tracer.draw_all.Given as goal

abbrev pub invariant-loop-number : goal.invariant-loop-number
invariant-loop-number l = record {
  whole : IsWhole l.graph;
  tracing :
      (by : Option Grammar) → Suits l.kind l.ground.first_sets.now l.ground.terminals.now by → (n : ℕ) (item : Item Nil) →
      IsBacktracing l.ground.states.now by n item (map pair_asked l.fn.visited.keys) 0 l.fn.graph →
      IsBacktracing l.ground.states.now by n item (map pair_asked l.visited.keys) l.number l.graph;
}

abbrev pub decreases-loop-number : goal.decreases-loop-number
decreases-loop-number l = 2 ^ 63 - l.number
