use Rattle.std.proofs.Common.{◌≡◌, map, take}
use Rattle.lalrpop_lr1_interpret.proofs.parse.numbering.targets_of.Given as goal

abbrev pub invariant-loop-entry : goal.invariant-loop-entry
invariant-loop-entry l =
    l.targets.items ≡ map (λ e. e.target) (take l.entry-index l.entries)
