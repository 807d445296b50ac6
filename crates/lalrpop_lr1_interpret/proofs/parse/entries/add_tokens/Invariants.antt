use Rattle.std.proofs.Common.{◌≡◌, ◌++◌, map}
use Rattle.std.specs.Prelude.{flat_map}
use Rattle.lalrpop_sets.specs.IterLeft.{tokens_to_come}
use Rattle.lalrpop_lr1_interpret.specs.Rows.{entry_view, reduction_entries, token_entry}
use Rattle.lalrpop_lr1_interpret.proofs.parse.entries.add_tokens.Given as goal

abbrev pub invariant-loop-token : goal.invariant-loop-token
invariant-loop-token l = record {
  can : (goal.iterator-loop-token).can_next l.token-iterator;
  ends : (goal.iterator-loop-token).is_finite l.token-iterator;
  so_far : map entry_view l.entries.items ++ flat_map (token_entry l.act) (tokens_to_come l.token-iterator)
      ≡ map entry_view l.initial.entries.items ++ reduction_entries l.terminals l.reduction;
}
