use Rattle.lalrpop_lr1_inline.specs.OrderSearches.{IsOrderSearch, order_view, tasks_to_come, tasks_view}
use Rattle.lalrpop_lr1_inline.proofs.order.OrderSearch.finish.Given as goal

abbrev pub invariant-loop-task : goal.invariant-loop-task
invariant-loop-task l =
    IsOrderSearch l.grammar.nonterminals (tasks_view l.self.tasks.items) (order_view l.self.order.items) l.self.entered l.self.left

abbrev pub decreases-loop-task : goal.decreases-loop-task
decreases-loop-task l = tasks_to_come l.grammar.nonterminals (tasks_view l.self.tasks.items) l.self.entered
