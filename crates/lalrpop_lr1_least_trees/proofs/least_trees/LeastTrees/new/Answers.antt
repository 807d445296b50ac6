use Rattle.std.proofs.Common.{◌∙◌, ap, length, subst, sym}
use Rattle.lalrpop_lr1_first.specs.FirstNumbers.{name_count}
use Rattle.lalrpop_lr1_least_trees.specs.NumberedTrees.{NamesAreBelow, rule_views}
use Rattle.lalrpop_lr1_least_trees.proofs.GrammarLemmas.{names_below}
use Rattle.lalrpop_lr1_least_trees.proofs.least_trees.LeastTrees.new.Goals as goal

pub least_trees-requires : goal.least_trees-requires
least_trees-requires c =
    let table = c.in_ok-table.table in
    subst (λ k. NamesAreBelow k (rule_views c.as_slice.result.now)) (ap length (sym c.names-names.ensures))
    (subst (NamesAreBelow (name_count table)) (sym (ap rule_views c.as_slice.ensures.value ∙ c.in_ok-rules.ensures))
    (names_below table c.in_ok-table.ensures.numbers))

pub least_trees-requires-2 : goal.least_trees-requires-2
least_trees-requires-2 c =
    let table = c.in_ok-table.table in
    subst (λ k. NamesAreBelow k (rule_views c.as_slice-2.result.now)) (ap length (sym c.names-names.ensures))
    (subst (NamesAreBelow (name_count table)) (sym (ap rule_views c.as_slice-2.ensures.value ∙ c.in_ok-rules.ensures))
    (names_below table c.in_ok-table.ensures.numbers))
