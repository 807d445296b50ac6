use Rattle.std.proofs.Common.{◌↔◌, ◌∙◌, ℕ, List, Contains, subst}
use Rattle.lalrpop_lr1_core.specs.Steps.{IsSourceBy}
use Rattle.lalrpop_lr1_core.specs.declared.edge.Edge.{Edge}
use Rattle.lalrpop_lr1_core.proofs.EdgeLemmas.{lead_goes_on}
use Rattle.lalrpop_lr1_core.proofs.state_graph.StateGraph.trace_back.Goals as goal

pub loop-last-preserved : goal.loop-last-preserved
loop-last-preserved c =
    let old = c.loop-last.reached.keys in
    let new = c.in_ok-reached.reached.keys in
    let by = c.in-Some.last.now in
    let made : (n : ℕ) → Contains new n ↔ IsSourceBy old by c.args.self.now n =
    subst (λ (es : List Edge). (n : ℕ) → Contains new n ↔ IsSourceBy old by es n) (c.as_slice.ensures ∙ c.self.view_is)
    c.in_ok-reached.ensures in
    lead_goes_on c.args.self.now c.args.symbols.now c.loop-last.left.now c.in-Some.front.now by c.args.state.0 old new
    c.in-Some.ensures.cases.0 made c.loop-last.invariant
