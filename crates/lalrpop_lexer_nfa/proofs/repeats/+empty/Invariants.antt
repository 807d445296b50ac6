use Rattle.std.proofs.Common.{◌≤◌, All, map, take}
use Rattle.lalrpop_lexer_pattern.specs.Meaning.{meaning}
use Rattle.lalrpop_lexer_pattern.specs.declared.tree.Hir.{size-Hir}
use Rattle.lalrpop_lexer_nfa.specs.Repeating.{HasEmptyWordAlone}
use Rattle.lalrpop_lexer_nfa.proofs.repeats.+empty.Given as goal

abbrev pub invariant-are_empty_words-loop-i : goal.invariant-are_empty_words-loop-i
invariant-are_empty_words-loop-i l = All HasEmptyWordAlone (take l.i (map meaning l.subs))

abbrev pub invariant-is_empty_word-loop-tree : goal.invariant-is_empty_word-loop-tree
invariant-is_empty_word-loop-tree l = record {
  same : HasEmptyWordAlone (meaning l.tree) → HasEmptyWordAlone (meaning l.pattern);
  within : size-Hir l.tree ≤ size-Hir l.pattern;
}
