use Rattle.std.proofs.Common.{◌≡◌, [], drop, map}
use Rattle.lalrpop_lr1_inline.specs.NumberCounts.{InlinedCounts, counts_of, counts_to_limit, counts_view}
use Rattle.lalrpop_lr1_inline.proofs.count.count_each.Given as goal

abbrev pub invariant-loop-name : goal.invariant-loop-name
invariant-loop-name l =
    (done : InlinedCounts)
    × (counts_view l.counted.items ≡ counts_to_limit done)
    × (counts_of l.grammar.nonterminals done (map (λ n. n.0) (drop l.name-index l.order))
    ≡ counts_of l.grammar.nonterminals [] (map (λ n. n.0) l.order))
