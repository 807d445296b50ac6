use Rattle.std.proofs.Common.{◌∙◌, ap, reverse}
use Rattle.std.proofs.lemmas.List.Filters.{dedup_is}
use Rattle.lalrpop_norm_theory.specs.LeveledGrammar.{falling_levels}
use Rattle.lalrpop_norm_precedence.proofs.OrderLemmas.{sorted_in_order}
use Rattle.lalrpop_norm_precedence.proofs.level_names.order.levels_in_order.Goals as goal

pub returns : goal.returns
returns c =
    c.reverse.ensures.items ∙ ap reverse (dedup_is _ _ _ c.dedup.ensures.filtered)
    ∙ sorted_in_order c.in_ok-order.order.items c.sort_unstable.new.self.items c.sort_unstable.ensures.permutation
    c.sort_unstable.ensures.sorted
    ∙ ap falling_levels c.in_ok-order.ensures
