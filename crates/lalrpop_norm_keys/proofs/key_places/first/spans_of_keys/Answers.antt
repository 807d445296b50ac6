use Rattle.std.proofs.Common.{[], ◌∷◌, ◌++◌, ◌+◌, ◌∙◌, ap, map, subst, sym, take}
use Rattle.std.proofs.lemmas.List.{map-append}
use Rattle.lalrpop_grammar_symbols.specs.Views.{span_view}
use Rattle.lalrpop_grammar_rules.specs.Views.{closed_view}
use Rattle.lalrpop_norm_keys.proofs.TableLemmas.{take_next}
use Rattle.lalrpop_norm_keys.specs.FirstPlaces.{AreKeySpans}
use Rattle.lalrpop_norm_keys.specs.Views.{met_view}
use Rattle.lalrpop_norm_keys.proofs.FirstLemmas.{spans_more}
use Rattle.lalrpop_norm_keys.proofs.key_places.first.spans_of_keys.Goals as goal

pub loop-key-preserved : goal.loop-key-preserved
loop-key-preserved c =
    let keys = c.args.keys.now in
    let i = c.loop-key.key-index in
    let x = c.key-item.result in
    let ms = map met_view c.args.met.now in
    let other = span_view c.args.otherwise in
    let old = map span_view c.loop-key.spans in
    let p = span_view c.in_ok-key_span.field-0 in
    subst (λ ss. AreKeySpans ms other (map closed_view (take (i + 1) keys)) ss)
    (sym (ap (map span_view) c.in_ok-push.ensures.ok ∙ map-append span_view c.loop-key.spans (c.in_ok-key_span.field-0 ∷ [])))
    (subst (λ xs. AreKeySpans ms other xs (old ++ p ∷ []))
    (sym (take_next closed_view keys i x c.loop-key-test.true c.key-item.is))
    (spans_more ms other (map closed_view (take i keys)) (closed_view x) old p c.loop-key.invariant
    (c.in_ok-key_span.ensures ms c.in_ok-first.ensures.told)))
