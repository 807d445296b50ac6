use Rattle.std.proofs.Common.{◌<◌, rules, arith, ap, refl, sym, ◌∙◌}
use Rattle.serde_json.specs.Data.{depth, items_depth}
use Rattle.lalrpop_json_document.specs.DocumentViews.{view, items_view}
use denote.Enum.Declared.{tag_of}
use Rattle.lalrpop_json_values.specs.contracts.form.Form.{the_type}
use Rattle.lalrpop_json_values.specs.declared.form.Form.TheVariants as form
use Rattle.lalrpop_json_values.proofs.NestingLemmas.{below_items, below_array, below_member}
use Rattle.lalrpop_json_symbols.specs.Symbols.{choose_at, group_at, macro_at, named_at, repeat_at, symbol_at}
use Rattle.lalrpop_json_symbols.proofs.HandedOnLemmas.{failed, handed_on, no_memory}
use Rattle.lalrpop_json_symbols.proofs.ListLoopLemmas.{list_ends, list_stops, list_turns}
use Rattle.lalrpop_json_symbols.proofs.SymbolNestingLemmas.{no_symbol, other_symbol, symbol_by_form}
use Rattle.lalrpop_json_symbols.proofs.symbol.+symbols.Goals as goal

pub symbols_of-symbol_in-requires : goal.symbols_of-symbol_in-requires
symbols_of-symbol_in-requires t c =
    let whole = below_array (view c.args.value.now) _ (sym c.in-Some.ensures) in
    let item = below_items c.deref-value-items.result.now c.loop-index.index c.value-item.result c.loop-index-test.true in
    let is_item = ap (λ v. depth (view v)) c.value-item.is in
    let are_items = ap (λ vs. items_depth (items_view vs)) c.deref-value-items.ensures.value in
    let within : depth (view c.value-item.result) < depth (view c.args.value.now) = omega (arith, whole, item, is_item, are_items) in
    search (rules, within)

pub symbol_of-returns-in-Some-Choose : goal.symbol_of-returns-in-Some-Choose
symbol_of-returns-in-Some-Choose t c =
    symbol_by_form form.Choose (view c.args.value.now) c.choose_of.result (rw c.in-Some-Choose.field-0-is at c.in-Some-Choose.ensures)
    c.choose_of.ensures

pub symbol_of-returns-in-Some-Error : goal.symbol_of-returns-in-Some-Error
symbol_of-returns-in-Some-Error t c =
    symbol_by_form form.Error (view c.args.value.now) c.look_of.result (rw c.in-Some-Error.field-0-is at c.in-Some-Error.ensures)
    c.look_of.ensures

pub symbol_of-returns-in-Some-Group : goal.symbol_of-returns-in-Some-Group
symbol_of-returns-in-Some-Group t c =
    symbol_by_form form.Group (view c.args.value.now) c.group_of.result (rw c.in-Some-Group.field-0-is at c.in-Some-Group.ensures)
    c.group_of.ensures

pub symbol_of-returns-in-Some-Id : goal.symbol_of-returns-in-Some-Id
symbol_of-returns-in-Some-Id t c =
    symbol_by_form form.Id (view c.args.value.now) c.id_of.result (rw c.in-Some-Id.field-0-is at c.in-Some-Id.ensures) c.id_of.ensures

pub symbol_of-returns-in-Some-Lookahead : goal.symbol_of-returns-in-Some-Lookahead
symbol_of-returns-in-Some-Lookahead t c =
    symbol_by_form form.Lookahead (view c.args.value.now) c.look_of-in-Some-Lookahead.result (rw c.in-Some-Lookahead.field-0-is at
    c.in-Some-Lookahead.ensures) c.look_of-in-Some-Lookahead.ensures

pub symbol_of-returns-in-Some-Lookbehind : goal.symbol_of-returns-in-Some-Lookbehind
symbol_of-returns-in-Some-Lookbehind t c =
    symbol_by_form form.Lookbehind (view c.args.value.now) c.look_of-in-Some-Lookbehind.result (rw c.in-Some-Lookbehind.field-0-is at
    c.in-Some-Lookbehind.ensures) c.look_of-in-Some-Lookbehind.ensures

pub symbol_of-returns-in-Some-Macro : goal.symbol_of-returns-in-Some-Macro
symbol_of-returns-in-Some-Macro t c =
    symbol_by_form form.Macro (view c.args.value.now) c.macro_of.result (rw c.in-Some-Macro.field-0-is at c.in-Some-Macro.ensures)
    c.macro_of.ensures

pub symbol_of-returns-in-Some-Named : goal.symbol_of-returns-in-Some-Named
symbol_of-returns-in-Some-Named t c =
    symbol_by_form form.Named (view c.args.value.now) c.named_of.result (rw c.in-Some-Named.field-0-is at c.in-Some-Named.ensures)
    c.named_of.ensures

pub symbol_of-returns-in-Some-Repeat : goal.symbol_of-returns-in-Some-Repeat
symbol_of-returns-in-Some-Repeat t c =
    symbol_by_form form.Repeat (view c.args.value.now) c.repeat_of.result (rw c.in-Some-Repeat.field-0-is at c.in-Some-Repeat.ensures)
    c.repeat_of.ensures

pub symbol_of-returns-in-Some-Terminal : goal.symbol_of-returns-in-Some-Terminal
symbol_of-returns-in-Some-Terminal t c =
    symbol_by_form form.Terminal (view c.args.value.now) c.literal_symbol_of.result (rw c.in-Some-Terminal.field-0-is at
    c.in-Some-Terminal.ensures) c.literal_symbol_of.ensures

pub symbol_of-returns-in_default : goal.symbol_of-returns-in_default
symbol_of-returns-in_default t c = elim c.in_default.branch [
  | goal.symbol_of-in_default-via-in-Some+in_default w ↦
      other_symbol _ (view c.args.value.now) c.here.result w.in_default.ensures c.here.ensures
      (λ e. omega (arith, ap (tag_of the_type) e)) (λ e. omega (arith, ap (tag_of the_type) e)) (λ e. omega (arith, ap (tag_of the_type) e))
      (λ e. omega (arith, ap (tag_of the_type) e)) (λ e. omega (arith, ap (tag_of the_type) e)) (λ e. omega (arith, ap (tag_of the_type) e))
      (λ e. omega (arith, ap (tag_of the_type) e)) (λ e. omega (arith, ap (tag_of the_type) e)) (λ e. omega (arith, ap (tag_of the_type) e))
      (λ e. omega (arith, ap (tag_of the_type) e))
  | goal.symbol_of-in_default-via-in_default w ↦
      no_symbol (view c.args.value.now) c.here.result (sym w.in_default.is ∙ c.form_of_symbol.ensures) c.here.ensures
]

pub symbols_of-returns-in_err-symbol : goal.symbols_of-returns-in_err-symbol
symbols_of-returns-in_err-symbol t c =
    failed c.from_residual.result c.in_err-symbol.field-0.0 _ c.from_residual.ensures.1
    (list_stops (λ _. symbol_at) (view c.args.value.now) c.in-Some.values.now.items c.deref-value-items.result.now c.in-Some.ensures
    c.deref-value-items.ensures.value c.loop-index.symbols c.loop-index.index c.value-item.result c.in_err-symbol.field-0.0
    c.loop-index-test.true c.value-item.is c.in_err-symbol.ensures c.loop-index.invariant)

pub symbols_of-loop-index-preserved : goal.symbols_of-loop-index-preserved
symbols_of-loop-index-preserved t c =
    list_turns (λ _. symbol_at) c.deref-value-items.result.now c.loop-index.symbols c.push.new.self c.loop-index.index c.value-item.result
    c.in_ok-symbol.symbol c.loop-index-test.true c.value-item.is c.in_ok-symbol.ensures c.in_ok-push.ensures.ok c.loop-index.invariant

pub symbols_of-returns : goal.symbols_of-returns
symbols_of-returns t c =
    list_ends (λ _. symbol_at) (view c.args.value.now) c.in-Some.values.now.items c.deref-value-items.result.now c.in-Some.ensures
    c.deref-value-items.ensures.value c.loop-index.symbols c.loop-index.index c.loop-index-test.false c.loop-index.invariant

pub symbol_field-symbol_of-requires : goal.symbol_field-symbol_of-requires
symbol_field-symbol_of-requires t c =
    let within : depth (view c.in_ok-found.found.now) < depth (view c.args.value.now) = below_member c.args.key _ _ c.in_ok-found.ensures in
    search (rules, within)

pub symbols_field-symbols_of-requires : goal.symbols_field-symbols_of-requires
symbols_field-symbols_of-requires t c =
    let within : depth (view c.in_ok-found.found.now) < depth (view c.args.value.now) = below_member c.args.key _ _ c.in_ok-found.ensures in
    search (rules, within)

pub group_of-returns-in_err-keys : goal.group_of-returns-in_err-keys
unfolding group_at
group_of-returns-in_err-keys t c =
    handed_on c.from_residual.result c.in_err-keys.field-0.0 _ _ c.from_residual.ensures.1 c.in_err-keys.ensures

pub group_of-returns-in_err-symbols : goal.group_of-returns-in_err-symbols
unfolding group_at
group_of-returns-in_err-symbols t c =
    rw (c.in_ok-keys.ensures)
    (handed_on c.from_residual-in_err-symbols.result c.in_err-symbols.field-0.0 _ _ c.from_residual-in_err-symbols.ensures.1
    c.in_err-symbols.ensures)

pub group_of-returns-in_err-word_field : goal.group_of-returns-in_err-word_field
unfolding group_at
group_of-returns-in_err-word_field t c =
    rw (c.in_ok-keys.ensures, c.in_ok-symbols.ensures)
    (handed_on c.from_residual-in_err-word_field.result c.in_err-word_field.field-0.0 _ _ c.from_residual-in_err-word_field.ensures.1
    c.in_err-word_field.ensures)

pub group_of-returns-in_err-span : goal.group_of-returns-in_err-span
unfolding group_at
group_of-returns-in_err-span t c =
    rw (c.in_ok-keys.ensures, c.in_ok-symbols.ensures, c.in_ok-word_field.ensures)
    (handed_on c.from_residual-in_err-span.result c.in_err-span.field-0.0 _ _ c.from_residual-in_err-span.ensures.1 c.in_err-span.ensures)

pub group_of-returns : goal.group_of-returns
unfolding group_at
group_of-returns t c =
    rw (c.in_ok-keys.ensures, c.in_ok-symbols.ensures, c.in_ok-word_field.ensures, c.in_ok-span.ensures) refl

pub macro_of-returns-in_err-keys : goal.macro_of-returns-in_err-keys
unfolding macro_at
macro_of-returns-in_err-keys t c =
    handed_on c.from_residual.result c.in_err-keys.field-0.0 _ _ c.from_residual.ensures.1 c.in_err-keys.ensures

pub macro_of-returns-in_err-args : goal.macro_of-returns-in_err-args
unfolding macro_at
macro_of-returns-in_err-args t c =
    rw (c.in_ok-keys.ensures)
    (handed_on c.from_residual-in_err-args.result c.in_err-args.field-0.0 _ _ c.from_residual-in_err-args.ensures.1 c.in_err-args.ensures)

pub macro_of-returns-in_err-word_field : goal.macro_of-returns-in_err-word_field
unfolding macro_at
macro_of-returns-in_err-word_field t c =
    rw (c.in_ok-keys.ensures, c.in_ok-args.ensures)
    (handed_on c.from_residual-in_err-word_field.result c.in_err-word_field.field-0.0 _ _ c.from_residual-in_err-word_field.ensures.1
    c.in_err-word_field.ensures)

pub macro_of-returns-in_err-name : goal.macro_of-returns-in_err-name
unfolding macro_at
macro_of-returns-in_err-name t c =
    rw (c.in_ok-keys.ensures, c.in_ok-args.ensures, c.in_ok-word_field.ensures)
    (handed_on c.from_residual-in_err-name.result c.in_err-name.field-0.0 _ _ c.from_residual-in_err-name.ensures.1 c.in_err-name.ensures)

pub macro_of-returns-in_err-span : goal.macro_of-returns-in_err-span
unfolding macro_at
macro_of-returns-in_err-span t c =
    rw (c.in_ok-keys.ensures, c.in_ok-args.ensures, c.in_ok-word_field.ensures, c.in_ok-name.ensures)
    (handed_on c.from_residual-in_err-span.result c.in_err-span.field-0.0 _ _ c.from_residual-in_err-span.ensures.1 c.in_err-span.ensures)

pub macro_of-returns : goal.macro_of-returns
unfolding macro_at
macro_of-returns t c =
    rw (c.in_ok-keys.ensures, c.in_ok-args.ensures, c.in_ok-word_field.ensures, c.in_ok-name.ensures, c.in_ok-span.ensures) refl

pub repeat_of-returns-in_err-keys : goal.repeat_of-returns-in_err-keys
unfolding repeat_at
repeat_of-returns-in_err-keys t c =
    handed_on c.from_residual.result c.in_err-keys.field-0.0 _ _ c.from_residual.ensures.1 c.in_err-keys.ensures

pub repeat_of-returns-in_err-word_field : goal.repeat_of-returns-in_err-word_field
unfolding repeat_at
repeat_of-returns-in_err-word_field t c =
    rw (c.in_ok-keys.ensures)
    (handed_on c.from_residual-in_err-word_field.result c.in_err-word_field.field-0.0 _ _ c.from_residual-in_err-word_field.ensures.1
    c.in_err-word_field.ensures)

pub repeat_of-returns-in_err-op : goal.repeat_of-returns-in_err-op
unfolding repeat_at
repeat_of-returns-in_err-op t c =
    rw (c.in_ok-keys.ensures, c.in_ok-word_field.ensures)
    (handed_on c.from_residual-in_err-op.result c.in_err-op.field-0.0 _ _ c.from_residual-in_err-op.ensures.1 c.in_err-op.ensures)

pub repeat_of-returns-in_err-span : goal.repeat_of-returns-in_err-span
unfolding repeat_at
repeat_of-returns-in_err-span t c =
    rw (c.in_ok-keys.ensures, c.in_ok-word_field.ensures, c.in_ok-op.ensures)
    (handed_on c.from_residual-in_err-span.result c.in_err-span.field-0.0 _ _ c.from_residual-in_err-span.ensures.1 c.in_err-span.ensures)

pub repeat_of-returns-in_err-symbol : goal.repeat_of-returns-in_err-symbol
unfolding repeat_at
repeat_of-returns-in_err-symbol t c =
    rw (c.in_ok-keys.ensures, c.in_ok-word_field.ensures, c.in_ok-op.ensures, c.in_ok-span.ensures)
    (handed_on c.from_residual-in_err-symbol.result c.in_err-symbol.field-0.0 _ _ c.from_residual-in_err-symbol.ensures.1
    c.in_err-symbol.ensures)

pub repeat_of-returns-in_err-repeat : goal.repeat_of-returns-in_err-repeat
repeat_of-returns-in_err-repeat t c = no_memory c.from_residual-in_err-repeat.result _ c.from_residual-in_err-repeat.ensures.1

pub repeat_of-returns : goal.repeat_of-returns
unfolding repeat_at
repeat_of-returns t c =
    rw (
      c.in_ok-keys.ensures,
      c.in_ok-word_field.ensures,
      c.in_ok-op.ensures,
      c.in_ok-span.ensures,
      c.in_ok-symbol.ensures,
      c.in_ok-repeat.ensures,
    ) refl

pub choose_of-returns-in_err-keys : goal.choose_of-returns-in_err-keys
unfolding choose_at
choose_of-returns-in_err-keys t c =
    handed_on c.from_residual.result c.in_err-keys.field-0.0 _ _ c.from_residual.ensures.1 c.in_err-keys.ensures

pub choose_of-returns-in_err-word_field : goal.choose_of-returns-in_err-word_field
unfolding choose_at
choose_of-returns-in_err-word_field t c =
    rw (c.in_ok-keys.ensures)
    (handed_on c.from_residual-in_err-word_field.result c.in_err-word_field.field-0.0 _ _ c.from_residual-in_err-word_field.ensures.1
    c.in_err-word_field.ensures)

pub choose_of-returns-in_err-span : goal.choose_of-returns-in_err-span
unfolding choose_at
choose_of-returns-in_err-span t c =
    rw (c.in_ok-keys.ensures, c.in_ok-word_field.ensures)
    (handed_on c.from_residual-in_err-span.result c.in_err-span.field-0.0 _ _ c.from_residual-in_err-span.ensures.1 c.in_err-span.ensures)

pub choose_of-returns-in_err-symbol : goal.choose_of-returns-in_err-symbol
unfolding choose_at
choose_of-returns-in_err-symbol t c =
    rw (c.in_ok-keys.ensures, c.in_ok-word_field.ensures, c.in_ok-span.ensures)
    (handed_on c.from_residual-in_err-symbol.result c.in_err-symbol.field-0.0 _ _ c.from_residual-in_err-symbol.ensures.1
    c.in_err-symbol.ensures)

pub choose_of-returns-in_err-symbol-2 : goal.choose_of-returns-in_err-symbol-2
choose_of-returns-in_err-symbol-2 t c = no_memory c.from_residual-in_err-symbol-2.result _ c.from_residual-in_err-symbol-2.ensures.1

pub choose_of-returns : goal.choose_of-returns
unfolding choose_at
choose_of-returns t c =
    rw (c.in_ok-keys.ensures, c.in_ok-word_field.ensures, c.in_ok-span.ensures, c.in_ok-symbol.ensures, c.in_ok-symbol-2.ensures) refl

pub named_of-returns-in_err-keys : goal.named_of-returns-in_err-keys
unfolding named_at
named_of-returns-in_err-keys t c =
    handed_on c.from_residual.result c.in_err-keys.field-0.0 _ _ c.from_residual.ensures.1 c.in_err-keys.ensures

pub named_of-returns-in_err-word_field : goal.named_of-returns-in_err-word_field
unfolding named_at
named_of-returns-in_err-word_field t c =
    rw (c.in_ok-keys.ensures)
    (handed_on c.from_residual-in_err-word_field.result c.in_err-word_field.field-0.0 _ _ c.from_residual-in_err-word_field.ensures.1
    c.in_err-word_field.ensures)

pub named_of-returns-in_err-mutable : goal.named_of-returns-in_err-mutable
unfolding named_at
named_of-returns-in_err-mutable t c =
    rw (c.in_ok-keys.ensures, c.in_ok-word_field.ensures)
    (handed_on c.from_residual-in_err-mutable.result c.in_err-mutable.field-0.0 _ _ c.from_residual-in_err-mutable.ensures.1
    c.in_err-mutable.ensures)

pub named_of-returns-in_err-name : goal.named_of-returns-in_err-name
unfolding named_at
named_of-returns-in_err-name t c =
    rw (c.in_ok-keys.ensures, c.in_ok-word_field.ensures, c.in_ok-mutable.ensures)
    (handed_on c.from_residual-in_err-name.result c.in_err-name.field-0.0 _ _ c.from_residual-in_err-name.ensures.1 c.in_err-name.ensures)

pub named_of-returns-in_err-span : goal.named_of-returns-in_err-span
unfolding named_at
named_of-returns-in_err-span t c =
    rw (c.in_ok-keys.ensures, c.in_ok-word_field.ensures, c.in_ok-mutable.ensures, c.in_ok-name.ensures)
    (handed_on c.from_residual-in_err-span.result c.in_err-span.field-0.0 _ _ c.from_residual-in_err-span.ensures.1 c.in_err-span.ensures)

pub named_of-returns-in_err-symbol : goal.named_of-returns-in_err-symbol
unfolding named_at
named_of-returns-in_err-symbol t c =
    rw (c.in_ok-keys.ensures, c.in_ok-word_field.ensures, c.in_ok-mutable.ensures, c.in_ok-name.ensures, c.in_ok-span.ensures)
    (handed_on c.from_residual-in_err-symbol.result c.in_err-symbol.field-0.0 _ _ c.from_residual-in_err-symbol.ensures.1
    c.in_err-symbol.ensures)

pub named_of-returns-in_err-symbol-2 : goal.named_of-returns-in_err-symbol-2
named_of-returns-in_err-symbol-2 t c = no_memory c.from_residual-in_err-symbol-2.result _ c.from_residual-in_err-symbol-2.ensures.1

pub named_of-returns : goal.named_of-returns
unfolding named_at
named_of-returns t c =
    rw (
      c.in_ok-keys.ensures,
      c.in_ok-word_field.ensures,
      c.in_ok-mutable.ensures,
      c.in_ok-name.ensures,
      c.in_ok-span.ensures,
      c.in_ok-symbol.ensures,
      c.in_ok-symbol-2.ensures,
    ) refl
