use Rattle.std.proofs.Common.{◌==◌, ◌∙◌, ◌++◌, ◌∷◌, [], ap, ap₂, lit<, not, length, rules, sym}
use Rattle.std.specs.Prelude.{map}
use borrow.Author.Tests.{tests}
use Rattle.std.specs.Iterator.Adapters.{filter_callee}
use Rattle.std.specs.Str.Iter.{split_has_more, split_pattern, split_text}
use Rattle.std.specs.String.{string_bytes}
use Rattle.std.proofs.lemmas.Iterator.Consumers.{YieldsList-end, YieldsList-from_filter}
use Rattle.std.proofs.lemmas.Iterator.Splits.{YieldsList-from_str_split}
use Rattle.std.proofs.lemmas.List.{map-append}
use Rattle.lalrpop_run_options.proofs.found.features.Goals as goal

pub loop-part-preserved : goal.loop-part-preserved
loop-part-preserved c =
    ap (map string_bytes) c.in_ok-push.ensures.items
    ∙ (map-append string_bytes c.loop-part.features.items (c.in_ok-from_str.field-0 ∷ [])
    ∙ (ap₂ (λ done text. done ++ (text ∷ [])) c.loop-part.invariant c.in_ok-from_str.ensures.ok
    ∙ sym (map-append (λ s. s.now) c.loop-part.yielded (c.in-Some.part ∷ []))))

pub returns : goal.returns
returns c =
    let filter = c.filter-part-items in
    let iter = c.into_iter-part-iterator in
    let same = iter.ensures.into_iter_gives in
    let pieces = YieldsList-from_str_split {s = iter.result.iter} 44 c.args.list.now (lit< tt)
    (ap (λ f. split_text f.iter) same ∙ (ap split_text filter.ensures.source ∙ c.split.ensures.text))
    (ap (λ f. split_has_more f.iter) same ∙ (ap split_has_more filter.ensures.source ∙ c.split.ensures.has_more))
    (ap (λ f. split_pattern f.iter) same ∙ (ap split_pattern filter.ensures.source ∙ c.split.ensures.pattern)) in
    let parts = YieldsList-end
    (YieldsList-from_filter _ (λ part. not (length part == 0)) pieces (ap filter_callee same ∙ filter.ensures.closure)
    (λ x b q k. search (rules, tests)))
    c.loop-part.yielded _ c.loop-part.yielded_by _ _ c.in-None.is c.next.ensures.steps in
    c.loop-part.invariant ∙ parts.0
