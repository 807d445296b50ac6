use Rattle.std.proofs.Common.{◌+◌, ap, drop}
use Rattle.lalrpop_lr1_inline.specs.NumberCounts.{becomes_many, choices_at, counts_view}
use Rattle.lalrpop_lr1_inline.proofs.LimitLemmas.{times_on}
use Rattle.lalrpop_lr1_inline.proofs.RecordLemmas.{item_front}
use Rattle.lalrpop_lr1_inline.proofs.count.becomes.Goals as goal

pub loop-one-preserved : goal.loop-one-preserved
loop-one-preserved c =
    let side = c.args.symbols.now in
    let xs = c.args.counted.now in
    let i = c.loop-one.one-index in
    let x = c.one-item.result in
    let one = item_front xs i x c.loop-one-test.true c.one-item.is in
    times_on c.loop-one.many c.times_places-many.result (choices_at x.name.now.0 x.many side)
    (becomes_many (counts_view (drop (i + 1) xs)) side) (becomes_many (counts_view (drop i xs)) side) _ c.times_places-many.ensures
    (ap (λ l. becomes_many (counts_view l) side) one) c.loop-one.invariant
