use Rattle.std.proofs.Common.{◌≡◌, drop}
use Rattle.std.specs.Option.{option_copied}
use Rattle.lalrpop_lr1_core.specs.Dots.{either_by, first_shortest, moved_rests, shorter_of}
use Rattle.lalrpop_lr1_core.proofs.state.State.will_push.Given as goal

abbrev pub invariant-loop-item : goal.invariant-loop-item
invariant-loop-item g l =
    either_by shorter_of (option_copied l.shortest) (first_shortest (moved_rests (drop l.item-index l.self.items.vec)))
    ≡ first_shortest (moved_rests l.self.items.vec)
