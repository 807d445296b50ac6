use Rattle.std.proofs.Common.{◌≡◌, ◌++◌, reverse}
use Rattle.std.specs.Iterator.Adapters.{rev_source}
use Rattle.lalrpop_lane_tables.specs.MergeWalks.{steps_to}
use Rattle.lalrpop_lane_tables.proofs.merge_walk.push_steps.Given as goal

abbrev pub invariant-loop-successor : goal.invariant-loop-successor
invariant-loop-successor l =
    l.steps.items ++ reverse (steps_to l.state l.original (rev_source l.successor-iterator))
    ≡ l.initial.steps.items ++ reverse (steps_to l.state l.original l.successors.keys)
