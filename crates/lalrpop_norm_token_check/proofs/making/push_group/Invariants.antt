use Rattle.std.proofs.Common.{◌≡◌, ◌++◌, map, drop}
use Rattle.std.specs.Prelude.{flat_map}
use Rattle.lalrpop_grammar_symbols.specs.Views.{literal_view}
use Rattle.lalrpop_grammar.specs.Views.{intern_entry_view, match_item_view}
use Rattle.lalrpop_norm_token_check.specs.Entries.{entries_for}
use Rattle.lalrpop_norm_token_check.proofs.making.push_group.Given as goal

abbrev pub invariant-loop-written : goal.invariant-loop-written
invariant-loop-written l =
    map intern_entry_view l.fn.entries
    ++ flat_map (entries_for l.groups (map (λ x. literal_view x.now) l.others)) (map match_item_view l.group)
    ≡ map intern_entry_view l.entries
    ++ flat_map (entries_for l.groups (map (λ x. literal_view x.now) l.others)) (map match_item_view (drop l.written-index l.group))
