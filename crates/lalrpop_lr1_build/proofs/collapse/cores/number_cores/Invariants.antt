use Rattle.std.proofs.Common.{map, take}
use Rattle.lalrpop_lr1_theory.proofs.NumberLemmas.{IsNumbering}
use Rattle.lalrpop_lr1_build.specs.StateCores.{core_in_state, listed_core}
use Rattle.lalrpop_lr1_build.proofs.collapse.cores.number_cores.Given as goal

abbrev pub invariant-loop-state : goal.invariant-loop-state
invariant-loop-state l =
    IsNumbering (map core_in_state (take l.state-index l.states)) (map listed_core l.cores.keys) l.numbers.items
