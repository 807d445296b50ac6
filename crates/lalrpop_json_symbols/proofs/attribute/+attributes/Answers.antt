use Rattle.std.proofs.Common.{◌<◌, rules, arith, ap, refl, sym, ◌∙◌}
use Rattle.serde_json.specs.Data.{depth, items_depth}
use Rattle.lalrpop_json_document.specs.DocumentViews.{view, items_view}
use denote.Enum.Declared.{tag_of}
use Rattle.lalrpop_json_values.specs.contracts.form.Form.{the_type}
use Rattle.lalrpop_json_values.specs.declared.form.Form.TheVariants as form
use Rattle.lalrpop_json_values.proofs.NestingLemmas.{below_items, below_array, below_member}
use Rattle.lalrpop_json_symbols.specs.Attributes.{attribute_at, attribute_layer_at}
use Rattle.lalrpop_json_symbols.proofs.AttributeNestingLemmas.{arg_by_form, attribute_opened, no_arg, other_arg}
use Rattle.lalrpop_json_symbols.proofs.HandedOnLemmas.{failed, handed_on}
use Rattle.lalrpop_json_symbols.proofs.ListLoopLemmas.{list_ends, list_stops, list_turns}
use Rattle.lalrpop_json_symbols.proofs.attribute.+attributes.Goals as goal

pub attributes_of-attribute_in-requires : goal.attributes_of-attribute_in-requires
attributes_of-attribute_in-requires t c =
    let whole = below_array (view c.args.value.now) _ (sym c.in-Some.ensures) in
    let item = below_items c.deref-value-items.result.now c.loop-index.index c.value-item.result c.loop-index-test.true in
    let is_item = ap (λ v. depth (view v)) c.value-item.is in
    let are_items = ap (λ vs. items_depth (items_view vs)) c.deref-value-items.ensures.value in
    let within : depth (view c.value-item.result) < depth (view c.args.value.now) = omega (arith, whole, item, is_item, are_items) in
    search (rules, within)

pub arg_of-returns-in-Some-Equal : goal.arg_of-returns-in-Some-Equal
arg_of-returns-in-Some-Equal t c =
    arg_by_form form.Equal (view c.args.value.now) c.equal_of.result (sym c.is_null.ensures ∙ c.if-is_null.false)
    (rw c.in-Some-Equal.field-0-is at c.in-Some-Equal.ensures) c.equal_of.ensures

pub arg_of-returns-in-Some-Paren : goal.arg_of-returns-in-Some-Paren
arg_of-returns-in-Some-Paren t c =
    arg_by_form form.Paren (view c.args.value.now) c.paren_of.result (sym c.is_null.ensures ∙ c.if-is_null.false)
    (rw c.in-Some-Paren.field-0-is at c.in-Some-Paren.ensures) c.paren_of.ensures

pub arg_of-returns-in_default : goal.arg_of-returns-in_default
arg_of-returns-in_default t c = elim c.in_default.branch [
  | goal.arg_of-in_default-via-in-Some+in_default w ↦
      other_arg _ (view c.args.value.now) c.here.result (sym c.is_null.ensures ∙ c.if-is_null.false) w.in_default.ensures c.here.ensures
      (λ e. omega (arith, ap (tag_of the_type) e)) (λ e. omega (arith, ap (tag_of the_type) e))
  | goal.arg_of-in_default-via-in_default w ↦
      no_arg (view c.args.value.now) c.here.result (sym c.is_null.ensures ∙ c.if-is_null.false)
      (sym w.in_default.is ∙ c.form_by_key.ensures) c.here.ensures
]

pub attributes_of-returns-in_err-attribute : goal.attributes_of-returns-in_err-attribute
attributes_of-returns-in_err-attribute t c =
    failed c.from_residual.result c.in_err-attribute.field-0.0 _ c.from_residual.ensures.1
    (list_stops (λ _. attribute_at) (view c.args.value.now) c.in-Some.values.now.items c.deref-value-items.result.now c.in-Some.ensures
    c.deref-value-items.ensures.value c.loop-index.attributes c.loop-index.index c.value-item.result c.in_err-attribute.field-0.0
    c.loop-index-test.true c.value-item.is c.in_err-attribute.ensures c.loop-index.invariant)

pub attributes_of-loop-index-preserved : goal.attributes_of-loop-index-preserved
attributes_of-loop-index-preserved t c =
    list_turns (λ _. attribute_at) c.deref-value-items.result.now c.loop-index.attributes c.push.new.self c.loop-index.index
    c.value-item.result c.in_ok-attribute.attribute c.loop-index-test.true c.value-item.is c.in_ok-attribute.ensures
    c.in_ok-push.ensures.ok c.loop-index.invariant

pub attributes_of-returns : goal.attributes_of-returns
attributes_of-returns t c =
    list_ends (λ _. attribute_at) (view c.args.value.now) c.in-Some.values.now.items c.deref-value-items.result.now c.in-Some.ensures
    c.deref-value-items.ensures.value c.loop-index.attributes c.loop-index.index c.loop-index-test.false c.loop-index.invariant

pub arg_field-arg_of-requires : goal.arg_field-arg_of-requires
arg_field-arg_of-requires t c =
    let within : depth (view c.in_ok-found.found.now) < depth (view c.args.value.now) = below_member c.args.key _ _ c.in_ok-found.ensures in
    search (rules, within)

pub attributes_field-attributes_of-requires : goal.attributes_field-attributes_of-requires
attributes_field-attributes_of-requires t c =
    let within : depth (view c.in_ok-found.found.now) < depth (view c.args.value.now) = below_member c.args.key _ _ c.in_ok-found.ensures in
    search (rules, within)

pub attribute_of-returns-in_err-keys : goal.attribute_of-returns-in_err-keys
unfolding attribute_layer_at
attribute_of-returns-in_err-keys t c =
    rw (attribute_opened (view c.args.value.now))
    (handed_on c.from_residual.result c.in_err-keys.field-0.0 _ _ c.from_residual.ensures.1 c.in_err-keys.ensures)

pub attribute_of-returns-in_err-arg : goal.attribute_of-returns-in_err-arg
unfolding attribute_layer_at
attribute_of-returns-in_err-arg t c =
    rw (attribute_opened (view c.args.value.now), c.in_ok-keys.ensures)
    (handed_on c.from_residual-in_err-arg.result c.in_err-arg.field-0.0 _ _ c.from_residual-in_err-arg.ensures.1 c.in_err-arg.ensures)

pub attribute_of-returns-in_err-id : goal.attribute_of-returns-in_err-id
unfolding attribute_layer_at
attribute_of-returns-in_err-id t c =
    rw (attribute_opened (view c.args.value.now), c.in_ok-keys.ensures, c.in_ok-arg.ensures)
    (handed_on c.from_residual-in_err-id.result c.in_err-id.field-0.0 _ _ c.from_residual-in_err-id.ensures.1 c.in_err-id.ensures)

pub attribute_of-returns-in_err-span : goal.attribute_of-returns-in_err-span
unfolding attribute_layer_at
attribute_of-returns-in_err-span t c =
    rw (attribute_opened (view c.args.value.now), c.in_ok-keys.ensures, c.in_ok-arg.ensures, c.in_ok-id.ensures)
    (handed_on c.from_residual-in_err-span.result c.in_err-span.field-0.0 _ _ c.from_residual-in_err-span.ensures.1 c.in_err-span.ensures)

pub attribute_of-returns : goal.attribute_of-returns
unfolding attribute_layer_at
attribute_of-returns t c =
    rw (
      attribute_opened (view c.args.value.now),
      c.in_ok-keys.ensures,
      c.in_ok-arg.ensures,
      c.in_ok-id.ensures,
      c.in_ok-span.ensures,
    ) refl
