use Rattle.std.proofs.Common.{◌∙◌, ap, map, subst}
use Rattle.lalrpop_grammar.specs.Views.{alternative_view}
use Rattle.lalrpop_grammar_rules.specs.Views.{closed_view}
use Rattle.lalrpop_norm_macros.specs.InstanceRules.{IsInstanceBy}
use Rattle.lalrpop_norm_macros.specs.KeyNaming.{AreSymbolsFor}
use Rattle.lalrpop_norm_macros.specs.WrittenRules.{arguments_view}
use Rattle.lalrpop_grammar_symbols.proofs.BoolLemmas.{ok_from}
use Rattle.lalrpop_norm_macros.proofs.key_rules.alternatives.held_alternative.Goals as goal

pub returns : goal.returns
returns c =
    let i = c.args.instance.now in
    ok_from _ _ c.instance_alternative.result
    (λ made m finds. subst (λ xs. IsInstanceBy (AreSymbolsFor i.names.now) (arguments_view i.arguments.now) xs
    (alternative_view c.args.alternative.now) (alternative_view made))
    (ap (map closed_view) c.as_slice.ensures ∙ c.in_ok-side.ensures finds) m)
    c.instance_alternative.ensures
