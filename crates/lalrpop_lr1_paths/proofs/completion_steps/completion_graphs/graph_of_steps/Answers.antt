use Rattle.std.proofs.Common.{subst, sym}
use Rattle.lalrpop_lr1_paths.specs.CompletionSteps.{AreStepEdges}
use Rattle.lalrpop_lr1_paths.proofs.StepEdgeLemmas.{step_edges_below}
use Rattle.lalrpop_lr1_paths.proofs.completion_steps.completion_graphs.graph_of_steps.Goals as goal

pub new-requires : goal.new-requires
new-requires c = step_edges_below c.args.nodes c.args.steps.now c.in_ok-edges.edges.items c.requires c.in_ok-edges.ensures

pub returns-clause-edges : goal.returns-clause-edges
returns-clause-edges c = subst (AreStepEdges c.args.steps.now) (sym c.in_ok-graph.ensures.edges) c.in_ok-edges.ensures
