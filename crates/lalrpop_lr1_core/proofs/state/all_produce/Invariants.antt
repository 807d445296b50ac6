use Rattle.std.proofs.Common.{◌≡◌, drop}
use Rattle.std.specs.List.{list_all}
use Rattle.std.specs.Str.{bytes_eq}
use Rattle.lalrpop_lr1_core.specs.Dots.{moved_names}
use Rattle.lalrpop_lr1_core.proofs.state.all_produce.Given as goal

abbrev pub invariant-loop-item : goal.invariant-loop-item
invariant-loop-item g l =
    list_all (λ own. bytes_eq l.name.0 own.0) (moved_names (drop l.item-index l.items))
    ≡ list_all (λ own. bytes_eq l.name.0 own.0) (moved_names l.items)
