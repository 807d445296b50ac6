use Rattle.std.proofs.Common.{◌≡◌, ◌++◌, map, drop}
use Rattle.std.specs.Prelude.{flat_map}
use Rattle.lalrpop_lr1_interpret.specs.Rows.{entry_view, reduction_entries}
use Rattle.lalrpop_lr1_interpret.proofs.parse.entries.add_reductions.Given as goal

abbrev pub invariant-loop-reduction : goal.invariant-loop-reduction
invariant-loop-reduction l =
    map entry_view l.entries.items ++ flat_map (reduction_entries l.terminals) (drop l.reduction-index l.state.reductions)
    ≡ map entry_view l.initial.entries.items ++ flat_map (reduction_entries l.terminals) l.state.reductions
