use Rattle.std.proofs.Common.{◌≡◌, map, length}
use Rattle.lalrpop_grammar_symbols.specs.Views.{literal_view}
use Rattle.lalrpop_grammar.specs.Views.{match_item_view}
use Rattle.lalrpop_norm_token_check.specs.Places.{listed_at}
use Rattle.lalrpop_norm_token_check.proofs.telling.place_in_group.Given as goal

abbrev pub invariant-loop-entry : goal.invariant-loop-entry
invariant-loop-entry l =
    listed_at (map match_item_view l.rest) (literal_view l.literal) ≡ listed_at (map match_item_view l.group) (literal_view l.literal)

abbrev pub decreases-loop-entry : goal.decreases-loop-entry
decreases-loop-entry l = length l.rest
