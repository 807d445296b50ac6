use Rattle.std.proofs.Common.{◌+◌, ◌∙◌, drop, sym}
use Rattle.lalrpop_lr1_inline.proofs.LimitLemmas.{place_off, place_on}
use Rattle.lalrpop_lr1_inline.proofs.RecordLemmas.{item_front}
use Rattle.lalrpop_lr1_inline.proofs.count.times_places.Goals.{then-is_named, else-is_named}
use Rattle.lalrpop_lr1_inline.proofs.count.times_places.Goals as goal

pub loop-symbol-preserved : goal.loop-symbol-preserved
loop-symbol-preserved c =
    let n = c.args.name.now.0 in
    let t = c.args.sources in
    let xs = c.args.symbols.now in
    let i = c.loop-symbol.symbol-index in
    let s = c.symbol-item.result in
    let one = item_front xs i s c.loop-symbol-test.true c.symbol-item.is in
    elim c.if-is_named.branch [
      | then-is_named w ↦
          place_on n t s (drop (i + 1) xs) (drop i xs) c.loop-symbol.found c.if-is_named.found _ one
          (sym c.is_named.ensures ∙ w.if-is_named.true) (w.found-is ∙ w.times-found.ensures) c.loop-symbol.invariant
      | else-is_named w ↦
          place_off n t s (drop (i + 1) xs) (drop i xs) c.loop-symbol.found c.if-is_named.found _ one
          (sym c.is_named.ensures ∙ w.if-is_named.false) w.found-is c.loop-symbol.invariant
    ]
