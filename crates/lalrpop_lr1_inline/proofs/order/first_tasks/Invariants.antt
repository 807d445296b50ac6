use Rattle.std.proofs.Common.{◌≡◌, ◌++◌, map}
use Rattle.lalrpop_lr1_inline.specs.InlinedNames.{inlined_names}
use Rattle.lalrpop_lr1_inline.specs.OrderSearches.{task_view, tasks_to_enter}
use Rattle.lalrpop_lr1_inline.proofs.order.first_tasks.Given as goal

abbrev pub invariant-loop-name : goal.invariant-loop-name
invariant-loop-name l =
    map task_view l.tasks.items ++ tasks_to_enter (inlined_names l.name-iterator)
    ≡ tasks_to_enter (inlined_names l.grammar.nonterminals)
