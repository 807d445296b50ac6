use Rattle.std.proofs.Common.{◌≡◌, drop}
use Rattle.std.specs.Option.{option_copied}
use Rattle.lalrpop_lr1_core.specs.Dots.{either_by, last_longest, longer_of, prefixes}
use Rattle.lalrpop_lr1_core.proofs.state.State.max_prefix.Given as goal

abbrev pub invariant-loop-item : goal.invariant-loop-item
invariant-loop-item g l =
    either_by longer_of (option_copied l.longest) (last_longest (prefixes (drop l.item-index l.self.items.vec)))
    ≡ last_longest (prefixes l.self.items.vec)
