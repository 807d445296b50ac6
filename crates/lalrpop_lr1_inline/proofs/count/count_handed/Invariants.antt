use Rattle.std.proofs.Common.{◌≡◌, ◌+◌, ◌*◌, drop}
use Rattle.lalrpop_lr1_inline.specs.NumberCounts.{counts_view, handed_out, up_to_limit}
use Rattle.lalrpop_lr1_inline.proofs.count.count_handed.Given as goal

abbrev pub invariant-loop-one : goal.invariant-loop-one
invariant-loop-one l =
    up_to_limit (l.total + l.many * handed_out (counts_view (drop l.one-index l.counted)) l.symbols)
    ≡ up_to_limit (handed_out (counts_view l.counted) l.symbols)
