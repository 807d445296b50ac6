use Rattle.std.proofs.Common.{◌≡◌, ◌*◌, drop}
use Rattle.lalrpop_lr1_inline.specs.NumberCounts.{becomes_many, counts_view, up_to_limit}
use Rattle.lalrpop_lr1_inline.proofs.count.becomes.Given as goal

abbrev pub invariant-loop-one : goal.invariant-loop-one
invariant-loop-one l =
    up_to_limit (l.many * becomes_many (counts_view (drop l.one-index l.counted)) l.symbols)
    ≡ up_to_limit (becomes_many (counts_view l.counted) l.symbols)
