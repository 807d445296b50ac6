use Rattle.std.proofs.Common.{◌≡◌, [], ◌∙◌, ap, arith, map}
use Rattle.lalrpop_lr1_inline.specs.NumberCounts.{counts_of, counts_to_limit, counts_view, handed_out, sum_of_entries, up_to_limit}
use Rattle.lalrpop_lr1_inline.proofs.LimitLemmas.{entries_cut, handed_cut}
use Rattle.lalrpop_lr1_inline.proofs.count.count_numbers.Goals as goal

pub returns : goal.returns
returns c =
    let es = c.args.grammar.now.nonterminals in
    let cs = counts_of es [] (map (λ n. n.0) c.args.order.now) in
    let same : c.handed_by_rules-handed.result ≡ up_to_limit (sum_of_entries (handed_out cs) es) =
    c.handed_by_rules-handed.ensures
    ∙ ap (λ v. up_to_limit (sum_of_entries (handed_out v) es)) (ap counts_view c.as_slice.ensures.value ∙ c.in_ok-counted.ensures)
    ∙ entries_cut (handed_out (counts_to_limit cs)) (handed_out cs) (handed_cut cs) es in
    omega (arith, same, c.plus.ensures, c.len.ensures)
