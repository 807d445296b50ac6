use Rattle.std.proofs.Common.{rules, ◌≡◌, ◌<◌, ℕ, List, Some, length, refl, slice_get, subst}
use Rattle.std.proofs.lemmas.Option.{slice_get_read}
use Rattle.lalrpop_lr1_core.specs.IncomingEdges.{HaveAllTo}
use Rattle.lalrpop_lr1_core.specs.declared.edge.Edge.{Edge}
use Rattle.lalrpop_lr1_core.proofs.state_graph.StateGraph.count_to.Goals as goal

pub returns-in-Some : goal.returns-in-Some
returns-in-Some c =
    let kept = c.as_slice.result.now in
    let count = c.in-Some.count.now in
    let within : c.args.state < length kept = search rules in
    let read : slice_get kept c.args.state ≡ Some count =
    slice_get_read kept (length kept) c.args.state count refl within c.in-Some.ensures.lookup.1 in
    let found : slice_get c.self.inside.newest c.args.state ≡ Some count =
    subst (λ (l : List ℕ). slice_get l c.args.state ≡ Some count) c.as_slice.ensures read in
    subst (λ (es : List Edge). HaveAllTo c.args.state es (length es) count) c.self.view_is
    (c.self.invariant.0 c.args.state count found)
