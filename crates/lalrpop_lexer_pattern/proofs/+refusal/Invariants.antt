use Rattle.std.proofs.Common.{◌≡◌, ◌≤◌, map, drop}
use Rattle.lalrpop_lexer_pattern.specs.Matches.{concat_all}
use Rattle.lalrpop_lexer_pattern.specs.Meaning.{meaning}
use Rattle.lalrpop_lexer_pattern.specs.Refused.{refusal}
use Rattle.lalrpop_lexer_pattern.specs.declared.tree.Hir.{size-Hir}
use Rattle.lalrpop_lexer_pattern.proofs.+refusal.Given as goal

abbrev pub invariant-refusal::first_refusal-loop-i : goal.invariant-refusal::first_refusal-loop-i
invariant-refusal::first_refusal-loop-i l =
    refusal (concat_all (map meaning l.subs)) ≡ refusal (concat_all (map meaning (drop l.i l.subs)))

abbrev pub invariant-tree::Hir::refusal-loop-tree : goal.invariant-tree::Hir::refusal-loop-tree
invariant-tree::Hir::refusal-loop-tree l = record {
  same : refusal (meaning l.self) ≡ refusal (meaning l.tree);
  within : size-Hir l.tree ≤ size-Hir l.self;
}
