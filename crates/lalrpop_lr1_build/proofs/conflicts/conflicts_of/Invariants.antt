use Rattle.std.proofs.Common.{◌≡◌, take}
use Rattle.std.specs.Prelude.{flat_map}
use Rattle.lalrpop_lr1_build.proofs.conflicts.conflicts_of.Given as goal

abbrev pub invariant-loop-state : goal.invariant-loop-state
invariant-loop-state g l = l.conflicts.items ≡ flat_map (g.L.Lookahead.conflicts_in l.terminals) (take l.state-index l.states)
