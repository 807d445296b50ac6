use Rattle.std.proofs.Common.{map, take, Option}
use Rattle.lalrpop_grammar_repr.specs.declared.grammar.Grammar.{Grammar}
use Rattle.lalrpop_lane_report.specs.TraceGraphs.{IsWhole}
use Rattle.lalrpop_lane_report.specs.Tracings.{AsksOfItems, Suits, pair_asked}
use Rattle.lalrpop_lane_report.proofs.traces.tracer.draw_items.Given as goal

abbrev pub invariant-loop-item : goal.invariant-loop-item
invariant-loop-item l = record {
  whole : IsWhole l.graph;
  asks :
      (by : Option Grammar) → Suits l.kind l.ground.first_sets.now l.ground.terminals.now by →
      AsksOfItems l.ground.states.now by (pair_asked l.asked) (take l.item-index l.items) (map pair_asked l.fn.visited.keys)
      (map pair_asked l.visited.keys) l.fn.graph l.graph;
}
