use Rattle.std.proofs.Common.{map, take}
use Rattle.lalrpop_grammar_rules.specs.RuleTable.{rules_with}
use Rattle.lalrpop_grammar_rules.specs.Views.{closed_view}
use Rattle.lalrpop_norm_theory.specs.Premises.{HasNoLevels}
use Rattle.lalrpop_norm_keys.specs.Tables.{IsKeyIndex, table_keys}
use Rattle.lalrpop_norm_keys.specs.AskedConditions.{AskRightly}
use Rattle.lalrpop_norm_keys.specs.FoundCalls.{AreCalls}
use Rattle.lalrpop_norm_keys.specs.FoundKeys.{FindsKeys}
use Rattle.lalrpop_norm_keys.specs.UseSearch.{AddsUsesOf, UsesWithItself}
use Rattle.lalrpop_norm_keys.proofs.keys.add_keys_of_calls.Given as goal

abbrev pub invariant-loop-call : goal.invariant-loop-call
invariant-loop-call g l = record {
  index : IsKeyIndex l.keys;
  found : HasNoLevels (rules_with (g.F.Finder.finds l.finder) l.rules) → AreCalls (map closed_view l.calls)
      → FindsKeys (rules_with (g.F.Finder.finds l.finder) l.rules) (map closed_view (take l.call-index l.calls))
      (table_keys l.initial.keys) (table_keys l.keys);
  order : HasNoLevels (rules_with (g.F.Finder.finds l.finder) l.rules)
      → AddsUsesOf (UsesWithItself (rules_with (g.F.Finder.finds l.finder) l.rules)) (map closed_view (take l.call-index l.calls))
      (table_keys l.initial.keys) (table_keys l.keys);
  asked : AskRightly (rules_with (g.F.Finder.finds l.finder) l.rules) (g.F.Finder.too_deep l.finder)
      (map closed_view (take l.call-index l.calls));
}
