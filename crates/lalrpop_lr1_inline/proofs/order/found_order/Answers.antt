use Rattle.std.proofs.Common.{◌≡◌, arith, false, subst, sym}
use Rattle.lalrpop_grammar_rules.specs.RuleTable.{knows}
use Rattle.lalrpop_lr1_inline.specs.OrderSearches.{IsOrderSearch, order_view, tasks_view}
use Rattle.lalrpop_lr1_inline.proofs.SearchLemmas.{search_start}
use Rattle.lalrpop_lr1_inline.proofs.order.found_order.Goals as goal

pub finish-requires : goal.finish-requires
finish-requires c =
    let g = c.args.grammar.now.nonterminals in
    let ts = tasks_view c.in_ok-first_tasks.field-0.items in
    subst (λ xs. IsOrderSearch g ts (order_view xs) c.new-2.result c.new-3.result) (sym c.new.ensures.items)
    (search_start g ts c.new-2.result c.new-3.result c.in_ok-first_tasks.ensures.tasks
    (λ n i. (c.in_ok-first_tasks.ensures.all n).1 i)
    (λ n. let none : knows c.new-2.result n ≡ false = grind (arith, c.new-2.ensures.empty) in none)
    (λ n. let none : knows c.new-3.result n ≡ false = grind (arith, c.new-3.ensures.empty) in none))
