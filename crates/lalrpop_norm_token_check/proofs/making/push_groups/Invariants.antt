use Rattle.std.proofs.Common.{◌≡◌, ◌++◌, ◌≤◌, map, length}
use Rattle.lalrpop_grammar_symbols.specs.Views.{literal_view}
use Rattle.lalrpop_grammar.specs.Views.{intern_entry_view, match_item_view}
use Rattle.lalrpop_norm_token_check.specs.Entries.{entries_of_groups}
use Rattle.lalrpop_norm_token_check.proofs.making.push_groups.Given as goal

abbrev pub invariant-loop-group : goal.invariant-loop-group
invariant-loop-group l = record {
  shorter : length l.rest ≤ length l.groups;
  same :
      map intern_entry_view l.fn.entries
      ++ entries_of_groups (map (λ x. literal_view x.now) l.others) (map (λ c. map match_item_view c.items) l.groups)
      ≡ map intern_entry_view l.entries
      ++ entries_of_groups (map (λ x. literal_view x.now) l.others) (map (λ c. map match_item_view c.items) l.rest);
}

abbrev pub decreases-loop-group : goal.decreases-loop-group
decreases-loop-group l = length l.rest
