use Rattle.std.proofs.Common.{◌≡◌, take, map}
use Rattle.lalrpop_lr1_inline.specs.OrderSearches.{order_view}
use Rattle.lalrpop_lr1_inline.proofs.order.copies.Given as goal

abbrev pub invariant-loop-name : goal.invariant-loop-name
invariant-loop-name l = map (λ n. n.0) l.made.items ≡ order_view (take l.name-index l.names)
