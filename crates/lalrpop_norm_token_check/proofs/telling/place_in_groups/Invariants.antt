use Rattle.std.proofs.Common.{◌≡◌, map, length}
use Rattle.lalrpop_grammar_symbols.specs.Views.{literal_view}
use Rattle.lalrpop_grammar.specs.Views.{match_item_view}
use Rattle.lalrpop_norm_token_check.specs.Blocks.{entries_in_groups}
use Rattle.lalrpop_norm_token_check.specs.Places.{listed_at}
use Rattle.lalrpop_norm_token_check.proofs.telling.place_in_groups.Given as goal

abbrev pub invariant-loop-group : goal.invariant-loop-group
invariant-loop-group l =
    listed_at (entries_in_groups (map (λ c. map match_item_view c.items) l.rest)) (literal_view l.literal)
    ≡ listed_at (entries_in_groups (map (λ c. map match_item_view c.items) l.groups)) (literal_view l.literal)

abbrev pub decreases-loop-group : goal.decreases-loop-group
decreases-loop-group l = length l.rest
