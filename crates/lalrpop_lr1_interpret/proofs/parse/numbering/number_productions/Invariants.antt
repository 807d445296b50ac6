use Rattle.std.proofs.Common.{take}
use Rattle.lalrpop_lr1_interpret.specs.Numbers.{GoOn}
use Rattle.lalrpop_lr1_interpret.specs.Rows.{AreNumberedProductions}
use Rattle.lalrpop_lr1_interpret.proofs.parse.numbering.number_productions.Given as goal

abbrev pub invariant-loop-production : goal.invariant-loop-production
invariant-loop-production l = record {
  productions : AreNumberedProductions l.names.keys (take l.production-index l.productions) l.numbered.items;
  others : GoOn l.initial.names.keys l.names.keys;
}
