use Rattle.std.proofs.Common.{rules, ◌≡◌, ◌<◌, ℕ, List, Some, length, refl, slice_get, subst, sym}
use Rattle.std.proofs.lemmas.Option.{slice_get_read}
use Rattle.lalrpop_lr1_core.specs.IncomingEdges.{HaveAllTo}
use Rattle.lalrpop_lr1_core.specs.declared.edge.Edge.{Edge}
use Rattle.lalrpop_lr1_core.proofs.state_graph.StateGraph.count_before.Goals as goal

pub returns-in-Some : goal.returns-in-Some
returns-in-Some c = λ edge at.
    let kept = c.as_slice.result.now in
    let count = c.in-Some.count.now in
    let within : c.args.place < length kept = search rules in
    let read : slice_get kept c.args.place ≡ Some count =
    slice_get_read kept (length kept) c.args.place count refl within c.in-Some.ensures.lookup.1 in
    let found : slice_get c.self.inside.previous c.args.place ≡ Some count =
    subst (λ (l : List ℕ). slice_get l c.args.place ≡ Some count) c.as_slice.ensures read in
    let there : slice_get c.self.inside.edges c.args.place ≡ Some edge =
    subst (λ (es : List Edge). slice_get es c.args.place ≡ Some edge) (sym c.self.view_is) at in
    subst (λ (es : List Edge). HaveAllTo edge.target es c.args.place count) c.self.view_is
    (c.self.invariant.1 c.args.place count edge there found)
