use Rattle.std.proofs.Common.{◌≡◌, ◌++◌, drop}
use Rattle.std.specs.Prelude.{flat_map}
use Rattle.lalrpop_lr1_core.specs.Conflicts.{pair_conflict}
use Rattle.lalrpop_lr1_core.proofs.token_lookahead.add_later.Given as goal

abbrev pub invariant-loop-other : goal.invariant-loop-other
invariant-loop-other l =
    l.conflicts.items ++ flat_map (λ r. pair_conflict l.state (l.reduction, r)) (drop l.other-index l.later)
    ≡ l.initial.conflicts.items ++ flat_map (λ r. pair_conflict l.state (l.reduction, r)) l.later
