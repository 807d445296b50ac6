use Rattle.std.proofs.Common.{map, take}
use Rattle.lalrpop_lr1_interpret.specs.Numbers.{GoOn}
use Rattle.lalrpop_lr1_interpret.specs.Rows.{AreNumbersOf}
use Rattle.lalrpop_lr1_interpret.proofs.parse.numbering.number_nonterminals.Given as goal

abbrev pub invariant-loop-entry : goal.invariant-loop-entry
invariant-loop-entry l = record {
  numbers : AreNumbersOf l.names.keys (map (λ e. e.nonterminal.now) (take l.entry-index l.entries)) l.numbers.items;
  others : GoOn l.initial.names.keys l.names.keys;
}
