use Rattle.std.proofs.Common.{◌≡◌, drop}
use Rattle.std.specs.Prelude.{slice_get}
use Rattle.lalrpop_lr1_core.specs.Dots.{moved_names}
use Rattle.lalrpop_lr1_core.proofs.state.first_produced.Given as goal

abbrev pub invariant-loop-item : goal.invariant-loop-item
invariant-loop-item g l = slice_get (moved_names (drop l.item-index l.items)) 0 ≡ slice_get (moved_names l.items) 0
