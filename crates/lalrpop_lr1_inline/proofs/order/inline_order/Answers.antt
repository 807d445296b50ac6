use Rattle.std.proofs.Common.{◌∙◌, ap, sym, subst}
use Rattle.lalrpop_lr1_inline.specs.OrderSearches.{order_view}
use Rattle.lalrpop_lr1_inline.specs.InliningOrders.{HasAllInlined, HasNamedFirst, HasNameOnce}
use Rattle.lalrpop_lr1_inline.proofs.OrderLemmas.{order_all, order_named_first, order_none, order_once}
use Rattle.lalrpop_lr1_inline.proofs.order.inline_order.Goals as goal

pub returns-clause-all : goal.returns-clause-all
returns-clause-all c =
    let g = c.args.grammar.now.nonterminals in
    subst (HasAllInlined g) (sym (c.in_ok-copies.ensures
    ∙ ap order_view c.as_slice.ensures.value)) (order_all g _ c.in_ok-order.ensures.order c.in_ok-order.ensures.all)

pub returns-clause-once : goal.returns-clause-once
returns-clause-once c =
    let g = c.args.grammar.now.nonterminals in
    subst HasNameOnce (sym (c.in_ok-copies.ensures ∙ ap order_view c.as_slice.ensures.value)) (order_once g _ c.in_ok-order.ensures.order)

pub returns-clause-named_first : goal.returns-clause-named_first
returns-clause-named_first c =
    let g = c.args.grammar.now.nonterminals in
    subst (HasNamedFirst g) (sym (c.in_ok-copies.ensures
    ∙ ap order_view c.as_slice.ensures.value)) (order_named_first g _ c.in_ok-order.ensures.order)

pub returns-clause-none : goal.returns-clause-none
returns-clause-none c =
    order_none c.args.grammar.now.nonterminals _ c.in_ok-order.ensures.order c.in_ok-order.ensures.all
