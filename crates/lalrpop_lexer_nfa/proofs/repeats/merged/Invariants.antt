use Rattle.std.proofs.Common.{ℕ, ◌≤◌, ◌↔◌, List}
use Rattle.lalrpop_lexer_pattern.specs.Meaning.{meaning}
use Rattle.lalrpop_lexer_pattern.specs.Matches.{Matches, Pattern}
use Rattle.lalrpop_lexer_pattern.specs.declared.tree.Hir.{size-Hir}
use Rattle.lalrpop_lexer_nfa.specs.Repeating.{HasOneCopy}
use Rattle.lalrpop_lexer_nfa.proofs.repeats.merged.Given as goal

abbrev pub invariant-loop-piece : goal.invariant-loop-piece
invariant-loop-piece l = record {
  one : HasOneCopy l.whole.min l.whole.max;
  same : (w : List ℕ) → Matches (Pattern.repetition l.whole.min l.whole.max l.whole.greedy (meaning l.piece)) w
      ↔ Matches (Pattern.repetition l.fn.repeats.min l.fn.repeats.max l.fn.repeats.greedy (meaning l.sub)) w;
  inside : size-Hir l.piece ≤ size-Hir l.sub;
}
