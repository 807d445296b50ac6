use Rattle.std.proofs.Common.{◌≡◌, ◌++◌, map, drop}
use Rattle.lalrpop_lr1_core.specs.Conflicts.{shift_with_any}
use Rattle.lalrpop_lr1_core.proofs.nil_lookahead.add_any.Given as goal

abbrev pub invariant-loop-reduction : goal.invariant-loop-reduction
invariant-loop-reduction l =
    l.conflicts.items ++ map (shift_with_any l.state (l.terminal, l.target)) (drop l.reduction-index l.reductions)
    ≡ l.initial.conflicts.items ++ map (shift_with_any l.state (l.terminal, l.target)) l.reductions
