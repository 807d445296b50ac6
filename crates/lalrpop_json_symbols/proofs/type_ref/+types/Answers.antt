use Rattle.std.proofs.Common.{◌<◌, rules, arith, ap, sym, ◌∙◌}
use Rattle.serde_json.specs.Data.{depth, items_depth}
use Rattle.lalrpop_json_document.specs.DocumentViews.{view, items_view}
use denote.Enum.Declared.{tag_of}
use Rattle.lalrpop_json_values.specs.contracts.form.Form.{the_type}
use Rattle.lalrpop_json_values.specs.declared.form.Form.TheVariants as form
use Rattle.lalrpop_json_values.proofs.NestingLemmas.{below_items, below_array, below_member}
use Rattle.lalrpop_json_symbols.specs.Types.{type_at}
use Rattle.lalrpop_json_symbols.proofs.HandedOnLemmas.{failed}
use Rattle.lalrpop_json_symbols.proofs.ListLoopLemmas.{list_ends, list_stops, list_turns}
use Rattle.lalrpop_json_symbols.proofs.TypeNestingLemmas.{no_type, other_type, type_by_form}
use Rattle.lalrpop_json_symbols.proofs.type_ref.+types.Goals as goal

pub types_of-type_in-requires : goal.types_of-type_in-requires
types_of-type_in-requires t c =
    let whole = below_array (view c.args.value.now) _ (sym c.in-Some.ensures) in
    let item = below_items c.deref-value-items.result.now c.loop-index.index c.value-item.result c.loop-index-test.true in
    let is_item = ap (λ v. depth (view v)) c.value-item.is in
    let are_items = ap (λ vs. items_depth (items_view vs)) c.deref-value-items.ensures.value in
    let within : depth (view c.value-item.result) < depth (view c.args.value.now) = omega (arith, whole, item, is_item, are_items) in
    search (rules, within)

pub type_of-returns-in-Some-Id : goal.type_of-returns-in-Some-Id
type_of-returns-in-Some-Id t c =
    type_by_form form.Id (view c.args.value.now) c.parameter_of.result (rw c.in-Some-Id.field-0-is at c.in-Some-Id.ensures)
    c.parameter_of.ensures

pub type_of-returns-in-Some-Nominal : goal.type_of-returns-in-Some-Nominal
type_of-returns-in-Some-Nominal t c =
    type_by_form form.Nominal (view c.args.value.now) c.nominal_of.result (rw c.in-Some-Nominal.field-0-is at c.in-Some-Nominal.ensures)
    c.nominal_of.ensures

pub type_of-returns-in-Some-Ref : goal.type_of-returns-in-Some-Ref
type_of-returns-in-Some-Ref t c =
    type_by_form form.Ref (view c.args.value.now) c.ref_of.result (rw c.in-Some-Ref.field-0-is at c.in-Some-Ref.ensures) c.ref_of.ensures

pub type_of-returns-in-Some-Symbol : goal.type_of-returns-in-Some-Symbol
type_of-returns-in-Some-Symbol t c =
    type_by_form form.Symbol (view c.args.value.now) c.of_symbol_of.result (rw c.in-Some-Symbol.field-0-is at c.in-Some-Symbol.ensures)
    c.of_symbol_of.ensures

pub type_of-returns-in-Some-Text : goal.type_of-returns-in-Some-Text
type_of-returns-in-Some-Text t c =
    type_by_form form.Text (view c.args.value.now) c.opaque_of.result (rw c.in-Some-Text.field-0-is at c.in-Some-Text.ensures)
    c.opaque_of.ensures

pub type_of-returns-in-Some-Tuple : goal.type_of-returns-in-Some-Tuple
type_of-returns-in-Some-Tuple t c =
    type_by_form form.Tuple (view c.args.value.now) c.tuple_of.result (rw c.in-Some-Tuple.field-0-is at c.in-Some-Tuple.ensures)
    c.tuple_of.ensures

pub type_of-returns-in_default : goal.type_of-returns-in_default
type_of-returns-in_default t c = elim c.in_default.branch [
  | goal.type_of-in_default-via-in-Some+in_default w ↦
      other_type _ (view c.args.value.now) c.here.result w.in_default.ensures c.here.ensures
      (λ e. omega (arith, ap (tag_of the_type) e)) (λ e. omega (arith, ap (tag_of the_type) e)) (λ e. omega (arith, ap (tag_of the_type) e))
      (λ e. omega (arith, ap (tag_of the_type) e)) (λ e. omega (arith, ap (tag_of the_type) e)) (λ e. omega (arith, ap (tag_of the_type) e))
  | goal.type_of-in_default-via-in_default w ↦
      no_type (view c.args.value.now) c.here.result (sym w.in_default.is ∙ c.form_by_key.ensures) c.here.ensures
]

pub types_of-returns-in_err-found : goal.types_of-returns-in_err-found
types_of-returns-in_err-found t c =
    failed c.from_residual.result c.in_err-found.field-0.0 _ c.from_residual.ensures.1
    (list_stops (λ _. type_at) (view c.args.value.now) c.in-Some.values.now.items c.deref-value-items.result.now c.in-Some.ensures
    c.deref-value-items.ensures.value c.loop-index.types c.loop-index.index c.value-item.result c.in_err-found.field-0.0
    c.loop-index-test.true c.value-item.is c.in_err-found.ensures c.loop-index.invariant)

pub types_of-loop-index-preserved : goal.types_of-loop-index-preserved
types_of-loop-index-preserved t c =
    list_turns (λ _. type_at) c.deref-value-items.result.now c.loop-index.types c.push.new.self c.loop-index.index c.value-item.result
    c.in_ok-found.found c.loop-index-test.true c.value-item.is c.in_ok-found.ensures c.in_ok-push.ensures.ok c.loop-index.invariant

pub types_of-returns : goal.types_of-returns
types_of-returns t c =
    list_ends (λ _. type_at) (view c.args.value.now) c.in-Some.values.now.items c.deref-value-items.result.now c.in-Some.ensures
    c.deref-value-items.ensures.value c.loop-index.types c.loop-index.index c.loop-index-test.false c.loop-index.invariant

pub referent_field-type_of-requires : goal.referent_field-type_of-requires
referent_field-type_of-requires t c =
    let within : depth (view c.in_ok-found.found.now) < depth (view c.args.value.now) = below_member c.args.key _ _ c.in_ok-found.ensures in
    search (rules, within)

pub types_field-types_of-requires : goal.types_field-types_of-requires
types_field-types_of-requires t c =
    let within : depth (view c.in_ok-found.found.now) < depth (view c.args.value.now) = below_member c.args.key _ _ c.in_ok-found.ensures in
    search (rules, within)
