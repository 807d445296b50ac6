use Rattle.std.proofs.Common.{◌≡◌, ◌++◌, map, filter, drop}
use Rattle.lalrpop_sets.specs.AscendingLists.{has}
use Rattle.lalrpop_sets.specs.Tokens.{eof_number}
use Rattle.lalrpop_lr1_interpret.specs.Rows.{end_productions}
use Rattle.lalrpop_lr1_interpret.proofs.parse.entries.add_ends.Given as goal

abbrev pub invariant-loop-reduction : goal.invariant-loop-reduction
invariant-loop-reduction l =
    l.ends.items ++ map (λ r. r.1) (filter (λ r. has r.0 (eof_number l.terminals)) (drop l.reduction-index l.state.reductions))
    ≡ l.initial.ends.items ++ end_productions l.terminals l.state
