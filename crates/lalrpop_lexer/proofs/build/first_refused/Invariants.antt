use Rattle.std.proofs.Common.{map}
use Rattle.lalrpop_lexer_pattern.specs.Meaning.{meaning}
use Rattle.lalrpop_lexer.specs.Build.{AreSupportedBelow}
use Rattle.lalrpop_lexer.proofs.build.first_refused.Given as goal

abbrev pub invariant-loop-i : goal.invariant-loop-i
invariant-loop-i l = AreSupportedBelow (map meaning l.patterns) l.i
