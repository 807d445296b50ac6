use Rattle.std.proofs.Common.{map, take}
use Rattle.std.specs.Prelude.{Bool, Option}
use Rattle.lalrpop_grammar_symbols.specs.Symbols.{Text}
use Rattle.lalrpop_grammar.specs.Views.{type_view}
use Rattle.lalrpop_grammar_rules.specs.RuleTable.{rules_with}
use Rattle.lalrpop_norm_macros.specs.KeyDeclarations.{ArePutUnder}
use Rattle.lalrpop_norm_macros.specs.KeyInstances.{instance_binding, instance_rule_view}
use Rattle.lalrpop_norm_macros.proofs.key_rules.types.+put.Given as goal

abbrev pub invariant-put_types-loop-part : goal.invariant-put_types-loop-part
invariant-put_types-loop-part l =
    (finds : Text → Text → Option Bool) → ArePutUnder l.instance.names.now (rules_with finds l.instance.rules.now)
    (instance_rule_view l.instance) (instance_binding l.instance) (map type_view (take l.part-index l.declared)) (map type_view l.made)
