use Rattle.std.proofs.Common.{◌≡◌, ◌++◌}
use Rattle.std.specs.Vec.Iter.{into_iter_items}
use Rattle.lalrpop_lr1_inline.proofs.step.add_actions.Given as goal

abbrev pub invariant-loop-definition : goal.invariant-loop-definition
invariant-loop-definition l = l.actions ++ into_iter_items l.definition-iterator ≡ l.initial.actions ++ l.fn.definitions.items
