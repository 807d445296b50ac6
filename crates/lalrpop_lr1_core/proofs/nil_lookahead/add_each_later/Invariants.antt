use Rattle.std.proofs.Common.{◌≡◌, ◌++◌, map, drop}
use Rattle.lalrpop_lr1_core.specs.Conflicts.{later_with_first}
use Rattle.lalrpop_lr1_core.proofs.nil_lookahead.add_each_later.Given as goal

abbrev pub invariant-loop-reduction : goal.invariant-loop-reduction
invariant-loop-reduction l =
    l.conflicts.items ++ map (later_with_first l.state l.first.1) (drop l.reduction-index l.later)
    ≡ l.initial.conflicts.items ++ map (later_with_first l.state l.first.1) l.later
