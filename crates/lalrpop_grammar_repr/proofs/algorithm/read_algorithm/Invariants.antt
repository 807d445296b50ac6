use Rattle.std.proofs.Common.{◌≡◌, ◌||◌, take}
use Rattle.lalrpop_grammar_repr.specs.Algorithms.{has_lalr}
use Rattle.lalrpop_grammar_repr.proofs.algorithm.read_algorithm.Given as goal

abbrev pub invariant-loop-attribute : goal.invariant-loop-attribute
invariant-loop-attribute l = l.algorithm.lalr ≡ l.fn.algorithm.lalr || has_lalr (take l.attribute-index l.attributes)
