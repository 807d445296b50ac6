use Rattle.std.proofs.Common.{◌≡◌, ◌+◌}
use Rattle.lalrpop_lr1_inline.specs.NumberCounts.{counts_view, handed_out, sum_of_entries, up_to_limit}
use Rattle.lalrpop_lr1_inline.proofs.count.handed_by_rules.Given as goal

abbrev pub invariant-loop-rule : goal.invariant-loop-rule
invariant-loop-rule l =
    up_to_limit (l.total + sum_of_entries (handed_out (counts_view l.counted)) l.rule-iterator)
    ≡ up_to_limit (sum_of_entries (handed_out (counts_view l.counted)) l.grammar.nonterminals)
