-- What a tree with numbered leaves is, the least of some or any of them: for who asks for one.
use Rattle.std.specs.Prelude.{ℕ, ◌≤◌, Option, Some, None}
use Rattle.lalrpop_grammar_repr.specs.declared.grammar.Grammar.{Grammar}
use Rattle.lalrpop_lr1_theory.specs.Spans.{SpannedForest, without_spans}
use Rattle.lalrpop_lr1_theory.specs.Trees.{Forest, nodes}
use Rattle.lalrpop_lr1_first.specs.NumberedGrammars.{IsNumberTableOf}
use Rattle.lalrpop_lr1_least_trees.specs.declared.least_trees.LeastTrees.{LeastTrees}
use Rattle.lalrpop_lr1_least_trees.specs.SpanNumbers.{AreNumberedFrom}

-- one of these trees with as few leaves and nodes as any of them, whose leaves are numbered from a number on
pub record IsLeastNumbered (Wanted : Forest → Type 0) (from : ℕ) (tree : SpannedForest) : Type 0 where
  pub is_tree : Wanted (without_spans tree)
  pub least : (ts : Forest) → Wanted ts → nodes (without_spans tree) ≤ nodes ts
  pub spans : AreNumberedFrom from tree

-- such a tree, or none where there is none of these trees
abbrev pub HasLeastNumbered : (Forest → Type 0) → ℕ → Option SpannedForest → Type 0
HasLeastNumbered Wanted from None = (ts : Forest) → Wanted ts → ⊥
HasLeastNumbered Wanted from (Some tree) = IsLeastNumbered Wanted from tree

-- one of these trees, whose leaves are numbered from a number on, or none where there is none
abbrev pub HasNumbered : (Forest → Type 0) → ℕ → Option SpannedForest → Type 0
HasNumbered Wanted from None = (ts : Forest) → Wanted ts → ⊥
HasNumbered Wanted from (Some tree) = Wanted (without_spans tree) × AreNumberedFrom from tree

-- some grammar has the table
pub record HasTableGrammar (trees : LeastTrees) : Type 0 where
  pub grammar : Grammar
  pub table : IsNumberTableOf grammar trees.table
