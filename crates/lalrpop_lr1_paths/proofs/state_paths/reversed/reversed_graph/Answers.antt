use Rattle.lalrpop_lr1_paths.proofs.StateSearchLemmas.{reversed_below}
use Rattle.lalrpop_lr1_paths.proofs.state_paths.reversed.reversed_graph.Goals as goal

pub new-requires : goal.new-requires
new-requires c =
    reversed_below c.args.states c.args.edges.now c.in_ok-reversed.reversed.items c.in_ok-reversed.ensures c.requires.edges
