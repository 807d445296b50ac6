use Rattle.std.proofs.Common.{◌≡◌, ◌*◌, drop}
use Rattle.lalrpop_lr1_inline.specs.NumberCounts.{choices_at, up_to_limit}
use Rattle.lalrpop_lr1_inline.proofs.count.times_places.Given as goal

abbrev pub invariant-loop-symbol : goal.invariant-loop-symbol
invariant-loop-symbol l =
    up_to_limit (l.found * choices_at l.name.0 l.sources (drop l.symbol-index l.symbols))
    ≡ up_to_limit (l.many * choices_at l.name.0 l.sources l.symbols)
