use Rattle.std.proofs.Common.{ap, subst, sym}
use Rattle.lalrpop_lr1_paths.specs.GraphPaths.{GoalsAreBelow}
use Rattle.lalrpop_lr1_paths.specs.Graphs.{graph_node_count}
use Rattle.lalrpop_lr1_paths.proofs.WantedWayLemmas.{goals_below}
use Rattle.lalrpop_lr1_paths.proofs.completions.wanted_completion.WantedCompletion.new.Goals as goal

pub paths_to-requires-clause-goals : goal.paths_to-requires-clause-goals
paths_to-requires-clause-goals c =
    subst (λ n. GoalsAreBelow n c.as_slice.result.now) (ap graph_node_count (sym c.empty.ensures))
    (subst (GoalsAreBelow (graph_node_count c.args.steps.now.any.now.ways.now.empty)) (sym c.as_slice.ensures.value)
    (goals_below c.args.steps.now c.requires))
