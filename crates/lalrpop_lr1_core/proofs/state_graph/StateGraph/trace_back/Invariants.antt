use Rattle.std.proofs.Common.{◌↔◌, ℕ, length}
use Rattle.lalrpop_lr1_core.specs.Edges.{SymbolsLead}
use Rattle.lalrpop_lr1_core.proofs.EdgeLemmas.{LeadsInto}
use Rattle.lalrpop_lr1_core.proofs.state_graph.StateGraph.trace_back.Given as goal

abbrev pub invariant-loop-last : goal.invariant-loop-last
invariant-loop-last l =
    (n : ℕ) → SymbolsLead l.self n l.symbols l.fn.state.0 ↔ LeadsInto l.self l.left l.reached.keys n

abbrev pub decreases-loop-last : goal.decreases-loop-last
decreases-loop-last l = length l.left
