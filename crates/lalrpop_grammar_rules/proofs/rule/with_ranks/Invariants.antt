use Rattle.std.proofs.Common.{◌≡◌, ◌++◌, length, map, drop, None}
use Rattle.std.specs.Prelude.{option_map}
use Rattle.lalrpop_grammar_symbols.specs.Symbols.{Text}
use Rattle.lalrpop_grammar.specs.Views.{alternative_view}
use Rattle.lalrpop_grammar_language.specs.Enabled.{at_places, enabled_choices}
use Rattle.lalrpop_grammar_rules.specs.Ranks.{rank_view}
use Rattle.lalrpop_grammar_rules.specs.Details.{ranked_view, ranked_choices_from}
use Rattle.lalrpop_grammar_rules.proofs.rule.with_ranks.Given as goal

-- there is an entry for each alternative that was passed, and what follows goes on with the last rank
abbrev pub invariant-loop-alternative : goal.invariant-loop-alternative
invariant-loop-alternative l = record {
  as_many : length l.found ≡ l.alternative-index;
  so_far : (name : Text) → ranked_choices_from l.has_levels None
      (enabled_choices l.features (at_places name 0 (map alternative_view l.alternatives)))
      ≡ ranked_view name 0 l.found
      ++ ranked_choices_from l.has_levels (option_map rank_view l.last)
      (enabled_choices l.features (at_places name l.alternative-index (map alternative_view (drop l.alternative-index l.alternatives))));
}
