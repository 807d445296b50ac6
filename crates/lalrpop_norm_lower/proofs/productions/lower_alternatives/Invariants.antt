use Rattle.std.proofs.Common.{◌≡◌, ◌+◌, ◌++◌, drop, map}
use Rattle.lalrpop_grammar.specs.Views.{alternative_view}
use Rattle.lalrpop_norm_lower.specs.LoweredLists.{alternative_productions, lowered_production_view}
use Rattle.lalrpop_norm_lower.proofs.productions.lower_alternatives.Given as goal

abbrev pub invariant-loop-alternative : goal.invariant-loop-alternative
invariant-loop-alternative l = record {
  made : map lowered_production_view l.productions
      ++ alternative_productions l.rule.name.0 l.number (map alternative_view (drop l.alternative-index l.alternative-items))
      ≡ alternative_productions l.rule.name.0 l.first (map alternative_view l.alternative-items);
  number : l.number ≡ l.first + l.alternative-index;
}
