use Rattle.lalrpop_lr1_first.specs.FirstSetsOf.{IsProductionOf}
use Rattle.lalrpop_judge.proofs.RootLemmas.{IsPast}
use Rattle.lalrpop_judge.proofs.certificates.walk.are_over.Given as goal

abbrev pub invariant-loop-entry : goal.invariant-loop-entry
invariant-loop-entry l = IsPast (IsProductionOf l.grammar) l.entries l.entry-index l.roots.items
