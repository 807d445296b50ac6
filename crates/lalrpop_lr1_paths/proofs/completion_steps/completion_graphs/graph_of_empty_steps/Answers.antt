use Rattle.std.proofs.Common.{subst, sym}
use Rattle.lalrpop_lr1_first.specs.FirstSetsOf.{IsProductionOf}
use Rattle.lalrpop_lr1_paths.specs.CompletionSteps.{AreEmptyEdges, AreListedEdges}
use Rattle.lalrpop_lr1_paths.proofs.StepEdgeLemmas.{listed_edges_below}
use Rattle.lalrpop_lr1_paths.proofs.completion_steps.completion_graphs.graph_of_empty_steps.Goals as goal

pub new-requires : goal.new-requires
new-requires c =
    let listed = c.in_ok-numbers.field-0 in
    listed_edges_below c.args.nodes c.args.steps.now listed.numbers.items listed.edges.items c.requires.steps c.in_ok-numbers.ensures.edges

pub returns-clause-edges : goal.returns-clause-edges
returns-clause-edges c =
    subst (AreListedEdges c.args.steps.now c.in_ok-numbers.field-0.numbers.items) (sym c.in_ok-graph.ensures.edges)
    c.in_ok-numbers.ensures.edges

pub returns-clause-empty : goal.returns-clause-empty
returns-clause-empty c = λ g of.
    subst (AreEmptyEdges (IsProductionOf g) c.args.steps.now c.in_ok-numbers.field-0.numbers.items) (sym c.in_ok-graph.ensures.edges)
    (c.in_ok-numbers.ensures.empty g of)
