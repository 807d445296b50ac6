use Rattle.std.proofs.Common.{◌≡◌, take}
use Rattle.lalrpop_grammar_repr.proofs.production.clone_productions.Given as goal

abbrev pub invariant-loop-production : goal.invariant-loop-production
invariant-loop-production l = l.copy ≡ take l.production-index l.productions
