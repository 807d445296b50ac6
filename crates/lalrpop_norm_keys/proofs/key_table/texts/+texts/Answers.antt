use Rattle.std.proofs.Common.{◌≡◌, ◌∙◌, ap, map, arith}
use Rattle.lalrpop_grammar_symbols.specs.Symbols.{Closed}
use Rattle.lalrpop_grammar_rules.specs.Views.{closed_view, closeds}
use Rattle.lalrpop_grammar_rules.proofs.CallLemmas.{seen-Call}
use Rattle.lalrpop_norm_keys.proofs.TextLemmas.{size_in, text_of_call}
use Rattle.lalrpop_norm_keys.proofs.key_table.texts.+texts.Goals as goal

pub push_text-returns-in-Call : goal.push_text-returns-in-Call
push_text-returns-in-Call t c =
    let seen : closed_view c.args.symbol.now
    ≡ Closed.call c.in-Call.name (closeds (map closed_view c.in-Call.args)) c.in-Call.field-2 =
    ap closed_view c.in-Call.is ∙ seen-Call c.in-Call.name c.in-Call.args c.in-Call.field-2 in
    rw (seen, text_of_call c.in-Call.name (closeds (map closed_view c.in-Call.args)) c.in-Call.field-2)
    (rw c.as_slice.ensures at c.push_call.ensures)

pub push_others-push_text-requires : goal.push_others-push_text-requires
push_others-push_text-requires t c =
    let below = size_in c.args.symbols.now c.loop-symbol.symbol-index c.symbol-item.result c.loop-symbol-test.true c.symbol-item.is in
    (omega (arith, below), tt)
