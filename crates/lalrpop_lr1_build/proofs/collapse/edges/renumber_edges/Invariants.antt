use Rattle.std.proofs.Common.{◌≡◌, ◌++◌, List, map}
use Rattle.lalrpop_lr1_core.specs.declared.state_index.StateIndex.{StateIndex}
use Rattle.lalrpop_lr1_build.specs.Renumbering.{renumber}
use Rattle.lalrpop_lr1_build.proofs.collapse.edges.renumber_edges.Given as goal

abbrev pub invariant-loop-key : goal.invariant-loop-key
invariant-loop-key g l =
    (done : List (g.row.K.Denot × StateIndex))
    × (done ++ l.key-iterator ≡ l.edges)
    × (l.renumbered ≡ map (renumber l.numbers) done)
