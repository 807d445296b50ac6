use Rattle.std.proofs.Common.{◌≡◌, ◌++◌, drop, map}
use Rattle.lalrpop_lr1_inline.specs.InlinedNames.{inlined_in_productions}
use Rattle.lalrpop_lr1_inline.specs.OrderSearches.{task_view, tasks_to_enter}
use Rattle.lalrpop_lr1_inline.proofs.order.enter_productions.Given as goal

abbrev pub invariant-loop-production : goal.invariant-loop-production
invariant-loop-production l =
    map task_view l.tasks.items ++ tasks_to_enter (inlined_in_productions l.grammar.nonterminals (drop l.production-index l.productions))
    ≡ map task_view l.fn.tasks.items ++ tasks_to_enter (inlined_in_productions l.grammar.nonterminals l.productions)
