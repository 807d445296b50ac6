use Rattle.std.proofs.Common.{map, take}
use Rattle.lalrpop_lr1_interpret.specs.Numbers.{GoOn}
use Rattle.lalrpop_lr1_interpret.specs.Rows.{AreActionsOf}
use Rattle.lalrpop_lr1_interpret.proofs.parse.numbering.number_acts.Given as goal

abbrev pub invariant-loop-entry : goal.invariant-loop-entry
invariant-loop-entry l = record {
  actions : AreActionsOf l.names.keys (map (λ e. e.act) (take l.entry-index l.entries)) l.actions.items;
  others : GoOn l.initial.names.keys l.names.keys;
}
