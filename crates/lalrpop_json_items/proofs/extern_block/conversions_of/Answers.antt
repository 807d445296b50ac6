use Rattle.lalrpop_json_document.specs.DocumentViews.{view}
use Rattle.lalrpop_json_items.specs.Externs.{conversion_at}
use Rattle.lalrpop_json_symbols.proofs.HandedOnLemmas.{failed}
use Rattle.lalrpop_json_symbols.proofs.ListLoopLemmas.{list_ends, list_stops, list_turns}
use Rattle.lalrpop_json_items.proofs.extern_block.conversions_of.Goals as goal

pub returns-in_err-conversion : goal.returns-in_err-conversion
returns-in_err-conversion c =
    failed c.from_residual.result c.in_err-conversion.field-0.0 _ c.from_residual.ensures.1
    (list_stops (λ _. conversion_at) (view c.args.value.now) c.in-Some.values.now.items c.deref-value-items.result.now c.in-Some.ensures
    c.deref-value-items.ensures.value c.loop-index.found c.loop-index.index c.value-item.result c.in_err-conversion.field-0.0
    c.loop-index-test.true c.value-item.is c.in_err-conversion.ensures c.loop-index.invariant)

pub loop-index-preserved : goal.loop-index-preserved
loop-index-preserved c =
    list_turns (λ _. conversion_at) c.deref-value-items.result.now c.loop-index.found c.push.new.self c.loop-index.index c.value-item.result
    c.in_ok-conversion.conversion c.loop-index-test.true c.value-item.is c.in_ok-conversion.ensures c.in_ok-push.ensures.ok
    c.loop-index.invariant

pub returns : goal.returns
returns c =
    list_ends (λ _. conversion_at) (view c.args.value.now) c.in-Some.values.now.items c.deref-value-items.result.now c.in-Some.ensures
    c.deref-value-items.ensures.value c.loop-index.found c.loop-index.index c.loop-index-test.false c.loop-index.invariant
