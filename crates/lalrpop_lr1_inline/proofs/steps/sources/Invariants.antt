use Rattle.std.proofs.Common.{◌≡◌, drop}
use Rattle.lalrpop_lr1_inline.specs.InliningSteps.{productions_named}
use Rattle.lalrpop_lr1_inline.proofs.steps.sources.Given as goal

abbrev pub invariant-loop-key : goal.invariant-loop-key
invariant-loop-key l = productions_named (drop l.key-index l.rules) l.name.0 ≡ productions_named l.rules l.name.0
