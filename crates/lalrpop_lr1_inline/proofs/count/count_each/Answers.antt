use Rattle.std.proofs.Common.{◌∷◌, ◌++◌, [], ◌∙◌, ap, map, sym}
use Rattle.std.proofs.lemmas.List.{map-append}
use Rattle.lalrpop_lr1_inline.specs.declared.count.Counted.{Counted}
use Rattle.lalrpop_lr1_inline.specs.InliningSteps.{productions_named}
use Rattle.lalrpop_lr1_inline.specs.NumberCounts.{becomes_many, counts_of, counts_view, sum_of_sides, up_to_limit}
use Rattle.lalrpop_lr1_inline.proofs.LimitLemmas.{counted_on}
use Rattle.lalrpop_lr1_inline.proofs.RecordLemmas.{item_front}
use Rattle.lalrpop_lr1_inline.proofs.count.count_each.Goals as goal

pub loop-name-preserved : goal.loop-name-preserved
loop-name-preserved c =
    let es = c.args.grammar.now.nonterminals in
    let xs = c.args.order.now in
    let i = c.loop-name.name-index in
    let n = c.name-item.result in
    let one = item_front xs i n c.loop-name-test.true c.name-item.is in
    let inv = c.loop-name.invariant in
    let done = inv.0 in
    let many = c.all_become-many.result in (
      done ++ (n.0, sum_of_sides (becomes_many done) (productions_named es n.0)) ∷ [],
      ap counts_view c.in_ok-push.ensures.items
          ∙ map-append (λ (x : Counted). (x.name.now.0, x.many)) c.loop-name.counted.items _
          ∙ counted_on es done (counts_view c.loop-name.counted.items) n.0 many c.productions_for.result.now inv.1
          (c.all_become-many.ensures
          ∙ ap (λ l. up_to_limit (sum_of_sides (becomes_many (counts_view l)) c.productions_for.result.now)) c.as_slice.ensures.value)
          c.productions_for.ensures,
      sym (ap (λ l. counts_of es done (map (λ x. x.0) l)) one) ∙ inv.2,
    )
