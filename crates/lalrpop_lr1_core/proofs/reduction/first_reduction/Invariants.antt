use Rattle.std.proofs.Common.{◌≡◌, drop}
use Rattle.std.specs.Prelude.{find}
use Rattle.lalrpop_sets.specs.Tokens.{has_number, number_of}
use Rattle.lalrpop_lr1_core.proofs.reduction.first_reduction.Given as goal

abbrev pub invariant-loop-reduction : goal.invariant-loop-reduction
invariant-loop-reduction l =
    find (λ r. has_number r.0 (number_of l.terminals l.token)) (drop l.reduction-index l.reductions)
    ≡ find (λ r. has_number r.0 (number_of l.terminals l.token)) l.reductions
