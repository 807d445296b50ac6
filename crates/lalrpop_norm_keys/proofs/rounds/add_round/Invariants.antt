use Rattle.std.proofs.Common.{map, take}
use Rattle.lalrpop_grammar_rules.specs.RuleTable.{rules_with}
use Rattle.lalrpop_grammar_rules.specs.Views.{closed_view}
use Rattle.lalrpop_norm_keys.specs.Tables.{IsKeyIndex, table_keys}
use Rattle.lalrpop_norm_theory.specs.Premises.{HasNoLevels}
use Rattle.lalrpop_norm_keys.specs.FoundCalls.{FindsCalls}
use Rattle.lalrpop_norm_keys.specs.UseSearch.{AddsUsesOf, UsesCalls}
use Rattle.lalrpop_norm_keys.proofs.rounds.add_round.Given as goal

abbrev pub invariant-loop-call : goal.invariant-loop-call
invariant-loop-call g l = record {
  index : IsKeyIndex l.calls;
  found : FindsCalls (rules_with (g.F.Finder.finds l.finder) l.rules) (map closed_view (take l.call-index l.callers))
      (table_keys l.initial.calls) (table_keys l.calls);
  order : HasNoLevels (rules_with (g.F.Finder.finds l.finder) l.rules)
      → AddsUsesOf (UsesCalls (rules_with (g.F.Finder.finds l.finder) l.rules)) (map closed_view (take l.call-index l.callers))
      (table_keys l.initial.calls) (table_keys l.calls);
}
