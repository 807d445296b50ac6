use Rattle.std.proofs.Common.{◌≡◌, ◌+◌, drop}
use Rattle.lalrpop_lr1_inline.specs.NumberCounts.{handed_out, counts_view, sum_of_sides, up_to_limit}
use Rattle.lalrpop_lr1_inline.proofs.count.all_handed.Given as goal

abbrev pub invariant-loop-production : goal.invariant-loop-production
invariant-loop-production l =
    up_to_limit (l.total + sum_of_sides (handed_out (counts_view l.counted)) (drop l.production-index l.productions))
    ≡ up_to_limit (sum_of_sides (handed_out (counts_view l.counted)) l.productions)
