use Rattle.std.proofs.Common.{subst}
use Rattle.lalrpop_grammar.specs.Views.{type_view}
use Rattle.lalrpop_norm_macros.specs.KeyDeclarations.{IsSymbolTypeUnder}
use Rattle.lalrpop_grammar_symbols.proofs.BoolLemmas.{ok_from}
use Rattle.lalrpop_norm_macros.proofs.key_rules.types.symbol_type.Goals as goal

pub returns : goal.returns
returns c =
    ok_from _ _ c.type_or_left.result
    (λ made h finds. subst (λ x. IsSymbolTypeUnder c.args.instance.now.names.now x (type_view made)) (c.in_ok-closed.ensures finds) h)
    c.type_or_left.ensures
