use Rattle.std.proofs.Common.{rules}
use Rattle.std.proofs.lemmas.List.Sorted.{IsNonDecreasingBy-from_sort_by_key}
use Rattle.lalrpop_lexer_nfa.specs.declared.test.Test.{Test}
use Rattle.lalrpop_lexer_nfa.proofs.overlap.in_order.Goals as goal

pub returns-clause-ascending : goal.returns-clause-ascending
returns-clause-ascending c =
    IsNonDecreasingBy-from_sort_by_key (λ (t : Test). t.start) _ c.sort_unstable_by_key.ensures.sorted (λ a r q k. search rules)
