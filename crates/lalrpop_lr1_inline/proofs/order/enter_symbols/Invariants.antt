use Rattle.std.proofs.Common.{◌≡◌, ◌++◌, drop, map}
use Rattle.lalrpop_lr1_inline.specs.InlinedNames.{inlined_in_symbols}
use Rattle.lalrpop_lr1_inline.specs.OrderSearches.{task_view, tasks_to_enter}
use Rattle.lalrpop_lr1_inline.proofs.order.enter_symbols.Given as goal

abbrev pub invariant-loop-symbol : goal.invariant-loop-symbol
invariant-loop-symbol l =
    map task_view l.tasks.items ++ tasks_to_enter (inlined_in_symbols l.grammar.nonterminals (drop l.symbol-index l.symbols))
    ≡ map task_view l.fn.tasks.items ++ tasks_to_enter (inlined_in_symbols l.grammar.nonterminals l.symbols)
