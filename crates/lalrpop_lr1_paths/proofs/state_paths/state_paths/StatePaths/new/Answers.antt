use Rattle.std.proofs.Common.{◌∙◌, ap, length, map, subst, sym}
use Rattle.lalrpop_lr1_paths.specs.NumberEdges.{AreBetweenStates}
use Rattle.lalrpop_lr1_paths.specs.ReversedGraphs.{AreLastEdges, reversed_ends}
use Rattle.lalrpop_lr1_paths.specs.declared.state_paths.state_paths.StatePaths.{StatePaths}
use Rattle.lalrpop_lr1_paths.proofs.EdgeLemmas.{edges_within}
use Rattle.lalrpop_lr1_paths.proofs.TreeLemmas.{are_path_tree, are_paths}
use Rattle.lalrpop_lr1_paths.proofs.state_paths.state_paths.StatePaths.new.Goals as goal

pub last_path_edges-requires-clause-edges : goal.last_path_edges-requires-clause-edges
last_path_edges-requires-clause-edges g c =
    let states = c.args.states.now in
    subst (AreBetweenStates (length states)) (sym c.as_slice.ensures.value)
    (edges_within c.args.trees.now c.requires states c.in_ok-edges.edges.items c.in_ok-edges.ensures)

pub returns-clause-paths : goal.returns-clause-paths
returns-clause-paths g c =
    let it : StatePaths = record { trees = c.args.trees; steps = c.in_ok-steps.steps } in
    let states = c.args.states.now in
    let edges = c.in_ok-edges.edges.items in
    let found = c.in_ok-steps.ensures in
    are_paths it c.requires states edges c.in_ok-edges.ensures found.0 found.1
    (found.2 ∙ ap (map reversed_ends) c.as_slice.ensures.value) found.3
    (subst (λ es. AreLastEdges es found.0 (length states) c.in_ok-steps.steps.items) c.as_slice.ensures.value found.4)

pub returns-clause-all : goal.returns-clause-all
returns-clause-all g c = λ look reached.
    let it : StatePaths = record { trees = c.args.trees; steps = c.in_ok-steps.steps } in
    let states = c.args.states.now in
    let edges = c.in_ok-edges.edges.items in
    let found = c.in_ok-steps.ensures in
    are_path_tree it c.requires states edges c.in_ok-edges.ensures found.0 found.1
    (found.2 ∙ ap (map reversed_ends) c.as_slice.ensures.value) found.3
    (subst (λ es. AreLastEdges es found.0 (length states) c.in_ok-steps.steps.items) c.as_slice.ensures.value found.4) look
    reached
