use Rattle.std.proofs.Common.{◌*◌, ◌≤◌}
use Rattle.lalrpop_lexer_pattern.specs.Meaning.{meaning}
use Rattle.lalrpop_lexer_pattern.specs.Matches.{Pattern}
use Rattle.lalrpop_lexer_nfa.specs.Repeating.{copies_in}
use Rattle.lalrpop_lexer_nfa.proofs.repeats.copies.Given as goal

abbrev pub invariant-loop-tree : goal.invariant-loop-tree
invariant-loop-tree l =
    l.count * copies_in (meaning l.tree)
    ≤ copies_in (Pattern.repetition l.fn.repeats.min l.fn.repeats.max l.fn.repeats.greedy (meaning l.fn.sub))
