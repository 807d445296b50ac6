use Rattle.std.proofs.Common.{◌∙◌, ap}
use Rattle.lalrpop_grammar_language.specs.Closing.{close_list}
use Rattle.lalrpop_grammar_rules.specs.RuleTable.{rules_with}
use Rattle.lalrpop_norm_macros.specs.KeyDeclarations.{declaration_scope}
use Rattle.lalrpop_norm_macros.specs.KeyInstances.{instance_binding, instance_rule_view}
use Rattle.lalrpop_norm_macros.proofs.key_rules.types.closed_in_type.Goals as goal

pub returns : goal.returns
returns c = λ finds.
    let i = c.args.instance.now in
    let s = declaration_scope (rules_with finds i.rules.now) (instance_rule_view i) (instance_binding i) in
    c.last_symbol.ensures _ (c.in_ok-side.ensures finds ∙ ap (λ xs. close_list s 0 xs) c.in_ok-alone.ensures)
