use Rattle.std.proofs.Common.{◌≡◌, ◌++◌, vec_len}
use Rattle.std.specs.Prelude.{reverse}
use Rattle.lalrpop_lr1_inline.proofs.order.turn_round.Given as goal

abbrev pub invariant-loop-task : goal.invariant-loop-task
invariant-loop-task l = l.turned.items ++ reverse l.tasks.items ≡ reverse l.fn.tasks.items

abbrev pub decreases-loop-task : goal.decreases-loop-task
decreases-loop-task l = vec_len l.tasks
