use Rattle.std.proofs.Common.{◌≡◌, ◌++◌, drop}
use Rattle.lalrpop_lr1_core.specs.Conflicts.{pairs_conflicts}
use Rattle.lalrpop_lr1_core.proofs.token_lookahead.add_pairs.Given as goal

abbrev pub invariant-loop-place : goal.invariant-loop-place
invariant-loop-place l =
    l.conflicts.items ++ pairs_conflicts l.state (drop l.place l.reductions)
    ≡ l.initial.conflicts.items ++ pairs_conflicts l.state l.reductions
