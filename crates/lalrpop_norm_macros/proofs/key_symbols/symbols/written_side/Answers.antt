use Rattle.std.proofs.Common.{◌∙◌, [], ◌∷◌, ap, arith, map, subst, take}
use Rattle.std.proofs.lemmas.List.{map-append, take_all}
use Rattle.lalrpop_grammar_symbols.specs.Views.{symbol_view}
use Rattle.lalrpop_grammar_rules.specs.Views.{closed_view}
use Rattle.lalrpop_norm_keys.proofs.TableLemmas.{take_next}
use Rattle.lalrpop_norm_macros.specs.KeyNaming.{AreSymbolsFor}
use Rattle.lalrpop_norm_macros.proofs.NamedKeyLemmas.{symbols_put}
use Rattle.lalrpop_norm_macros.proofs.key_symbols.symbols.written_side.Goals as goal

pub loop-symbol-preserved : goal.loop-symbol-preserved
loop-symbol-preserved c =
    let xs = c.args.side.now in
    let i = c.loop-symbol.symbol-index in
    symbols_put c.args.names.now (map closed_view (take i xs)) _ (map symbol_view c.loop-symbol.made) _ _ _
    (take_next closed_view xs i c.symbol-item.result c.loop-symbol-test.true c.symbol-item.is)
    (ap (map symbol_view) c.in_ok-push.ensures.ok ∙ map-append symbol_view c.loop-symbol.made (c.in_ok-written_or_error.field-0 ∷ []))
    c.loop-symbol.invariant c.in_ok-written_or_error.ensures

pub returns : goal.returns
returns c =
    subst (λ l. AreSymbolsFor c.args.names.now (map closed_view l) (map symbol_view c.loop-symbol.made))
    (take_all c.loop-symbol.symbol-index c.args.side.now (omega (arith, c.loop-symbol-test.false))) c.loop-symbol.invariant
