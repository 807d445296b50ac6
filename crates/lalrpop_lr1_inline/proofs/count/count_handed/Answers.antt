use Rattle.std.proofs.Common.{◌+◌, ◌*◌, ◌∙◌, ap, drop, sym}
use Rattle.lalrpop_lr1_inline.specs.NumberCounts.{choices_at, counts_view, handed_out, up_to_limit}
use Rattle.lalrpop_lr1_inline.proofs.LimitLemmas.{handed_off, handed_on, handed_place}
use Rattle.lalrpop_lr1_inline.proofs.RecordLemmas.{item_front}
use Rattle.lalrpop_lr1_inline.proofs.count.count_handed.Goals.{then-has_named, else-has_named}
use Rattle.lalrpop_lr1_inline.proofs.count.count_handed.Goals as goal

pub loop-one-preserved : goal.loop-one-preserved
loop-one-preserved c =
    let side = c.args.symbols.now in
    let xs = c.args.counted.now in
    let i = c.loop-one.one-index in
    let x = c.one-item.result in
    let n = x.name.now.0 in
    let one = item_front xs i x c.loop-one-test.true c.one-item.is in
    let rest = counts_view (drop (i + 1) xs) in
    let first = ap (λ l. handed_out (counts_view l) side) one in
    elim c.if-has_named.branch [
      | then-has_named w ↦
          handed_on c.loop-one.total c.loop-one.many c.if-has_named.total c.if-has_named.many (choices_at n x.many side)
          (handed_out rest side) (handed_out (counts_view (drop i xs)) side) _ (w.many-is ∙ w.times_places-many.ensures)
          (w.total-is ∙ w.plus-total.ensures ∙ ap (λ k. up_to_limit (c.loop-one.total + k)) (sym w.many-is))
          (first ∙ handed_place n x.many side rest (sym c.has_named.ensures ∙ w.if-has_named.true)) c.loop-one.invariant
      | else-has_named w ↦
          ap (λ k. up_to_limit (k + c.if-has_named.many * handed_out rest side)) w.total-is
          ∙ ap (λ k. up_to_limit (c.loop-one.total + k * handed_out rest side)) w.many-is
          ∙ ap (λ k. up_to_limit (c.loop-one.total + c.loop-one.many * k))
          (sym (first ∙ handed_off n x.many side rest (sym c.has_named.ensures ∙ w.if-has_named.false)))
          ∙ c.loop-one.invariant
    ]
