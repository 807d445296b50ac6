use Rattle.std.proofs.Common.{◌≤◌}
use Rattle.lalrpop_lexer_pattern.specs.declared.tree.Hir.{size-Hir}
use Rattle.lalrpop_lexer_pattern.proofs.tree.Hir.+drop.Given as goal

abbrev pub invariant-loop-self : goal.invariant-loop-self
invariant-loop-self l = size-Hir l.self ≤ size-Hir l.fn.self
