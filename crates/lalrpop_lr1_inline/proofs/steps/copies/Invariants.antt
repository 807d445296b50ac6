use Rattle.std.proofs.Common.{◌≡◌, take}
use Rattle.lalrpop_lr1_inline.proofs.steps.copies.Given as goal

abbrev pub invariant-loop-production : goal.invariant-loop-production
invariant-loop-production l = l.copy ≡ take l.production-index l.productions
