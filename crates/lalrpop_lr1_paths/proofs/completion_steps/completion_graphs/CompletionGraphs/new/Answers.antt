use Rattle.std.proofs.Common.{◌∙◌, arith, subst, sym}
use Rattle.std.proofs.Math.Nat.{mul-le-mul_right}
use Rattle.lalrpop_lr1_first.specs.FirstNumbers.{name_count}
use Rattle.lalrpop_lr1_first.specs.FirstSetsOf.{IsProductionOf}
use Rattle.lalrpop_lr1_paths.specs.Graphs.{graph_edges}
use Rattle.lalrpop_lr1_paths.specs.GraphPaths.{GoalsAreBelow}
use Rattle.lalrpop_lr1_paths.specs.CompletionSteps.{AreEmptyEdges, AreListedEdges, AreStepEdges, StepsAreBelow}
use Rattle.lalrpop_lr1_paths.proofs.CompletionStepLemmas.{steps_lead_out}
use Rattle.lalrpop_lr1_paths.proofs.completion_steps.completion_graphs.CompletionGraphs.new.Goals as goal

pub graph_of_steps-requires : goal.graph_of_steps-requires
graph_of_steps-requires g c =
    subst (StepsAreBelow c.in_ok-nodes.nodes) (sym c.as_slice.ensures.value)
    (subst (λ k. StepsAreBelow k c.in_ok-steps.steps.items) (sym c.in_ok-nodes.ensures) c.in_ok-steps.ensures.below)

pub graph_of_empty_steps-requires-clause-steps : goal.graph_of_empty_steps-requires-clause-steps
graph_of_empty_steps-requires-clause-steps g c =
    subst (StepsAreBelow c.in_ok-nodes.nodes) (sym c.as_slice-2.ensures.value)
    (subst (λ k. StepsAreBelow k c.in_ok-steps.steps.items) (sym c.in_ok-nodes.ensures) c.in_ok-steps.ensures.below)

pub returns-clause-graphs : goal.returns-clause-graphs
returns-clause-graphs g c =
    let any = c.in_ok-any.ensures in
    let empty = c.in_ok-empties.ensures in
    record {
      paths = c.requires;
      any_graph = any.graph;
      any = subst (λ l. AreStepEdges l (graph_edges c.in_ok-any.any)) c.as_slice.ensures.value any.edges;
      empty_graph = empty.graph;
      empty = subst (λ l. AreListedEdges l c.in_ok-empties.empties.items (graph_edges c.in_ok-empties.empty)) c.as_slice-2.ensures.value
          empty.edges;
      goals = subst (λ k. GoalsAreBelow k c.in_ok-goals.goals.items) (sym any.nodes) c.in_ok-goals.ensures.below;
      nodes = empty.nodes ∙ sym any.nodes;
    }

pub returns-clause-ways : goal.returns-clause-ways
returns-clause-ways g c = λ it look of cover paths some numbered.
    let row = mul-le-mul_right (name_count c.args.paths.now.trees.now.table) some in
    record {
      of = of;
      steps = steps_lead_out it c.args.paths.now of look c.args.states.now c.args.start.now.0 cover paths c.in_ok-steps.steps.items
          (c.in_ok-steps.ensures.steps it of);
      empty = subst (λ l. AreEmptyEdges (IsProductionOf it) l c.in_ok-empties.empties.items (graph_edges c.in_ok-empties.empty))
          c.as_slice-2.ensures.value (c.in_ok-empties.ensures.empty it of);
      end = c.in_ok-goals.ensures.end (numbered, omega (arith, row, c.in_ok-nodes.ensures));
    }
