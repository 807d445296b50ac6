use Rattle.std.proofs.Common.{◌≡◌, ℕ, ◌+◌}
use Rattle.lalrpop_lr1_theory.specs.PathTrees.{IsBack, LedBy}
use Rattle.lalrpop_lr1_paths.specs.PathTables.{last_steps}
use Rattle.lalrpop_lr1_paths.proofs.state_paths.state_paths.StatePaths.back.Given as goal

abbrev pub invariant-loop : goal.invariant-loop
invariant-loop l = (j m : ℕ) → l.counter + j ≡ l.places → IsBack (LedBy (last_steps l.self)) l.places l.state m →
    IsBack (LedBy (last_steps l.self)) j l.place m
