use Rattle.std.proofs.lemmas.List.Sorted.{IsNonDecreasingBy-from_sort}
use Rattle.lalrpop_grammar_rules.proofs.rule.sorted_levels.Goals as goal

pub returns-clause-rising : goal.returns-clause-rising
returns-clause-rising c = IsNonDecreasingBy-from_sort (λ n. n) c.sort_unstable.new.self.items c.sort_unstable.ensures.sorted
