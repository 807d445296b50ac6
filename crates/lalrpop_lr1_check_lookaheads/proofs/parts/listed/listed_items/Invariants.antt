use Rattle.std.proofs.Common.{map, take}
use Rattle.lalrpop_lr1_check_lookaheads.specs.ListTests.{HaveSameElements}
use Rattle.lalrpop_lr1_check_lookaheads.specs.ListedItems.{item_key, keys_of_states}
use Rattle.lalrpop_lr1_check_lookaheads.proofs.parts.listed.listed_items.Given as goal

abbrev pub invariant-loop-state : goal.invariant-loop-state
invariant-loop-state l = HaveSameElements (map item_key l.listed.keys) (keys_of_states (take l.state l.states))
