use Rattle.std.proofs.Common.{◌≡◌, map}
use Rattle.std.specs.Prelude.{flat_map}
use Rattle.lalrpop_grammar.specs.RulesLeft.{rules_left}
use Rattle.lalrpop_grammar.specs.Views.{item_view}
use Rattle.lalrpop_grammar.specs.WrittenGrammar.{rules_of}
use Rattle.lalrpop_norm_prevalidate.specs.Firsts.{first_of}
use Rattle.lalrpop_norm_prevalidate.specs.Attributes.{unknown_on_rule}
use Rattle.lalrpop_norm_prevalidate.proofs.attributes.unknown_in_rules.Given as goal

abbrev pub invariant-loop-rule : goal.invariant-loop-rule
invariant-loop-rule l =
    first_of (flat_map unknown_on_rule (rules_left l.rule-iterator))
    ≡ first_of (flat_map unknown_on_rule (rules_of (map item_view l.grammar.items)))
