use Rattle.std.proofs.Common.{◌≡◌, ◌+◌, ◌≤◌, ◌^◌}
use Rattle.lalrpop_grammar.specs.RulesLeft.{rules_left}
use Rattle.lalrpop_grammar.specs.Views.{grammar_view}
use Rattle.lalrpop_grammar.specs.WrittenGrammar.{rules_of}
use Rattle.lalrpop_norm_lower.specs.LoweredLists.{count_actions}
use Rattle.lalrpop_norm_lower.proofs.numbers.has_too_many_actions.Given as goal

abbrev pub invariant-loop-rule : goal.invariant-loop-rule
invariant-loop-rule l = record {
  counted : l.count + count_actions (rules_left l.rule-iterator) ≡ count_actions (rules_of (grammar_view l.grammar).items);
  few : l.count ≤ 2 ^ 32;
}
