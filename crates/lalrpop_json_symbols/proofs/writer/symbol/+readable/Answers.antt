use Rattle.std.proofs.Common.{refl, rules, ap, sym, ◌∙◌}
use Rattle.lalrpop_json_values.specs.Scalars.{is_name}
use Rattle.lalrpop_json_symbols.specs.Readable.{IsReadableSymbol}
use Rattle.lalrpop_json_symbols.proofs.EachLemmas.{each_goes_on, each_stops, rest_ends}
use Rattle.lalrpop_json_symbols.proofs.SymbolSpellingLemmas.{all_readable, each_readable, of_choice, of_group, of_id, of_literal}
use Rattle.lalrpop_json_symbols.proofs.SymbolSpellingLemmas.{of_macro, of_named, of_no_literal, of_no_macro, of_no_span}
use Rattle.lalrpop_json_symbols.proofs.SymbolSpellingLemmas.{of_nonterminal, of_repeat, of_spanned, of_unnamed}
use Rattle.lalrpop_json_symbols.proofs.writer.symbol.+readable.Goals as goal

pub is_readable_symbol-returns-then-is_readable_span : goal.is_readable_symbol-returns-then-is_readable_span
is_readable_symbol-returns-then-is_readable_span t c =
    of_spanned c.is_readable_kind.result c.args.symbol.now (c.is_readable_span.ensures.0 c.if-is_readable_span.true)
    c.is_readable_kind.ensures

pub is_readable_symbol-returns-else-is_readable_span : goal.is_readable_symbol-returns-else-is_readable_span
is_readable_symbol-returns-else-is_readable_span t c =
    of_no_span c.is_readable_span.result c.args.symbol.now c.is_readable_span.ensures c.if-is_readable_span.false

pub is_readable_kind-returns-in-Expr : goal.is_readable_kind-returns-in-Expr
is_readable_kind-returns-in-Expr t c =
    of_group c.are_readable_symbols.result _ _ c.in-Expr.is (rw c.as_slice.ensures at c.are_readable_symbols.ensures)

pub is_readable_kind-returns-in-AmbiguousId : goal.is_readable_kind-returns-in-AmbiguousId
is_readable_kind-returns-in-AmbiguousId t c =
    of_id c.is_name.result _ _ c.in-AmbiguousId.is (c.is_name.ensures ∙ ap is_name c.as_str.ensures)

pub is_readable_kind-returns-in-Literal : goal.is_readable_kind-returns-in-Literal
is_readable_kind-returns-in-Literal t c =
    of_literal _ _ _ c.in-Terminal.is c.in-Literal.is

pub is_readable_kind-returns-in_default : goal.is_readable_kind-returns-in_default
is_readable_kind-returns-in_default t c =
    of_no_literal _ _ c.in-Terminal.is c.in_default.not-Literal

pub is_readable_kind-returns-in-Nonterminal : goal.is_readable_kind-returns-in-Nonterminal
is_readable_kind-returns-in-Nonterminal t c = of_nonterminal _ _ c.in-Nonterminal.is

pub is_readable_kind-returns-then-is_name : goal.is_readable_kind-returns-then-is_name
is_readable_kind-returns-then-is_name t c =
    let told = c.is_name-in-Macro.ensures ∙ ap is_name c.as_str-in-Macro.ensures in
    of_macro c.are_readable_symbols-then-is_name.result _ _ c.in-Macro.is (sym told ∙ c.if-is_name.true)
    (rw c.as_slice-then-is_name.ensures at c.are_readable_symbols-then-is_name.ensures)

pub is_readable_kind-returns-else-is_name : goal.is_readable_kind-returns-else-is_name
is_readable_kind-returns-else-is_name t c =
    of_no_macro c.is_name-in-Macro.result _ _ c.in-Macro.is (c.is_name-in-Macro.ensures ∙ ap is_name c.as_str-in-Macro.ensures)
    c.if-is_name.false

pub is_readable_kind-returns-in-Repeat : goal.is_readable_kind-returns-in-Repeat
is_readable_kind-returns-in-Repeat t c =
    of_repeat c.is_readable_symbol.result _ _ c.in-Repeat.is (rw c.get.ensures at c.is_readable_symbol.ensures)

pub is_readable_kind-returns-in-Choose : goal.is_readable_kind-returns-in-Choose
is_readable_kind-returns-in-Choose t c =
    of_choice c.is_readable_symbol-in-Choose.result _ _ c.in-Choose.is (rw c.get-in-Choose.ensures at
    c.is_readable_symbol-in-Choose.ensures)

pub is_readable_kind-returns-then-is_name-2 : goal.is_readable_kind-returns-then-is_name-2
is_readable_kind-returns-then-is_name-2 t c =
    let told = c.is_name-in-Name.ensures ∙ ap is_name c.as_str-in-Name.ensures in
    of_named c.is_readable_symbol-then-is_name-2.result _ _ _ c.in-Name.is (sym told ∙ c.if-is_name-2.true)
    (rw c.get-then-is_name-2.ensures at c.is_readable_symbol-then-is_name-2.ensures)

pub is_readable_kind-returns-else-is_name-2 : goal.is_readable_kind-returns-else-is_name-2
is_readable_kind-returns-else-is_name-2 t c =
    of_unnamed c.is_name-in-Name.result _ _ _ c.in-Name.is (c.is_name-in-Name.ensures ∙ ap is_name c.as_str-in-Name.ensures)
    c.if-is_name-2.false

pub are_readable_symbols-loop-symbol-preserved : goal.are_readable_symbols-loop-symbol-preserved
are_readable_symbols-loop-symbol-preserved t c =
    each_goes_on (λ _. IsReadableSymbol) c.args.symbols.now c.is_readable_symbol.result c.loop-symbol.symbol-index c.symbol-item.result
    c.loop-symbol-test.true c.symbol-item.is c.is_readable_symbol.ensures (search rules) c.loop-symbol.invariant

pub are_readable_symbols-returns-then-not-is_readable_symbol : goal.are_readable_symbols-returns-then-not-is_readable_symbol
are_readable_symbols-returns-then-not-is_readable_symbol t c =
    let stopped = each_stops (λ _. IsReadableSymbol) c.args.symbols.now c.is_readable_symbol.result c.loop-symbol.symbol-index
    c.symbol-item.result c.loop-symbol-test.true c.symbol-item.is c.is_readable_symbol.ensures (search rules) c.loop-symbol.invariant in
    ((λ none. absurd (cc)), (λ are. stopped.1 (each_readable 0 c.args.symbols.now are)))

pub are_readable_symbols-returns : goal.are_readable_symbols-returns
are_readable_symbols-returns t c = (
  (λ _. all_readable 0 c.args.symbols.now (rest_ends (λ _. IsReadableSymbol) c.args.symbols.now c.loop-symbol.symbol-index
      c.loop-symbol-test.false c.loop-symbol.invariant)),
  (λ _. refl),
)
