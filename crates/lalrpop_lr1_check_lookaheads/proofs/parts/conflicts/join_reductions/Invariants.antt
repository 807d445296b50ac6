use Rattle.std.proofs.Common.{ℕ, ◌≡◌, take}
use Rattle.lalrpop_sets.specs.AscendingLists.{has}
use Rattle.lalrpop_lr1_check_lookaheads.specs.ApartSets.{IsApart, has_any}
use Rattle.lalrpop_lr1_check_lookaheads.specs.ListTests.{HoldsAtFirst}
use Rattle.lalrpop_lr1_check_lookaheads.proofs.parts.conflicts.join_reductions.Given as goal

abbrev pub invariant-loop-reduction : goal.invariant-loop-reduction
invariant-loop-reduction l = record {
  apart : HoldsAtFirst (IsApart l.reductions) l.reductions l.reduction-index;
  joined : (k : ℕ) → has l.joined k ≡ has_any (take l.reduction-index l.reductions) k;
}
