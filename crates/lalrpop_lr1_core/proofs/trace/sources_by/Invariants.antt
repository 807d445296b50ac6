use Rattle.std.proofs.Common.{◌↔◌, ◌⊎◌, ℕ, length, Contains}
use Rattle.lalrpop_lr1_core.specs.Steps.{IsSourceBy}
use Rattle.lalrpop_lr1_core.proofs.trace.sources_by.Given as goal

abbrev pub invariant-loop-edge : goal.invariant-loop-edge
invariant-loop-edge l =
    (n : ℕ) → IsSourceBy l.targets.keys l.symbol l.edges n
    ↔ (Contains l.sources.keys n ⊎ IsSourceBy l.targets.keys l.symbol l.rest n)

abbrev pub decreases-loop-edge : goal.decreases-loop-edge
decreases-loop-edge l = length l.rest
