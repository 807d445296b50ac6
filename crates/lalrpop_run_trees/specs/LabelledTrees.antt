-- The written tree of a node by its label and the written trees of its children, and when written trees stand for those over productions:
-- for the code that makes written trees, and for the law that they are the admitted ones.
use Rattle.std.specs.Prelude.{◌≡◌, ℕ, List, [], ◌∷◌, drop, flat_map, length, map}
use Rattle.lalrpop_grammar.specs.Trees.{Token, Tree, leaves, trees}
use Rattle.lalrpop_grammar.specs.declared.origin.Origin as choices
use Rattle.lalrpop_grammar_language.specs.Derivations.{leaf_token, tree_by_origin, with_shown}
use Rattle.lalrpop_grammar_repr.specs.declared.action.ActionFnDefn.{ActionFnDefn}
use Rattle.lalrpop_grammar_language.specs.Labels.{Inlinings, Label}
use Rattle.lalrpop_lr1_theory.specs.Spans.{SpannedForest, leaf_at, node_at, none_at, without_spans}
use Rattle.lalrpop_lr1_theory.specs.Trees.{AreOver, roots}
use Rattle.lalrpop_run_trees.specs.ActionLabels.{ChoiceInlinings, ChoiceLabel, TellsLabel, kept_count}

-- The written tree of a label over the trees of the symbols that it keeps: that of its choice, over a tree for each symbol of the
-- choice. Where a tree lacks, none is put.
abbrev mutual
  pub tree_by_label : ChoiceLabel → List Tree → Tree
  tree_by_label (Label.choose x o inlinings) ts = tree_by_origin o (trees (trees_by_inlinings inlinings ts))

  -- a tree for each symbol: the next one where it is kept, and that of its label where it is inlined
  pub trees_by_inlinings : ChoiceInlinings → List Tree → List Tree
  trees_by_inlinings Inlinings.none ts = []
  trees_by_inlinings (Inlinings.kept inlinings) [] = Tree.opt_none ∷ trees_by_inlinings inlinings []
  trees_by_inlinings (Inlinings.kept inlinings) (t ∷ ts) = t ∷ trees_by_inlinings inlinings ts
  trees_by_inlinings (Inlinings.inlined label inlinings) ts =
      tree_by_label label ts ∷ trees_by_inlinings inlinings (drop (kept_count label) ts)

-- the written trees of trees over productions, whose actions have these labels; a leaf shows its terminal
abbrev pub shown_trees : (ℕ → ChoiceLabel) → SpannedForest → List Tree
shown_trees label_of none_at = []
shown_trees label_of (leaf_at t span ts) = Tree.terminal (leaf_token t span) ∷ shown_trees label_of ts
shown_trees label_of (node_at p cs ts) = tree_by_label (label_of p.action) (shown_trees label_of cs) ∷ shown_trees label_of ts

-- the one list is a part of the other: what is left of it where some are left out
pub data IsPart {A : Type 0} : List A → List A → Type 0 where
  nothing : IsPart [] []
  with_first : (x : A) (xs ys : List A) → IsPart xs ys → IsPart (x ∷ xs) (x ∷ ys)
  without_first : (y : A) (xs ys : List A) → IsPart xs ys → IsPart xs (y ∷ ys)

-- The written trees stand for trees over productions, and these for tokens: with their leaves shown they are the trees' own, and their
-- leaves are among the tokens, in order.
pub record StandForTrees (label_of : ℕ → ChoiceLabel) (ts : SpannedForest) (tokens : List Token) (us : List Tree) : Type 0 where
  pub shown : map with_shown us ≡ shown_trees label_of ts
  pub are_tokens : IsPart (flat_map leaves us) tokens

-- The written trees stand for trees over productions, and these for tokens, for each label of an action that the action tells. There is
-- one for each of these trees.
pub record StandByActions (actions : List ActionFnDefn) (origins : List choices.Origin) (ts : SpannedForest) (tokens : List Token)
    (us : List Tree) : Type 0 where
  pub count : length us ≡ length (roots (without_spans ts))
  pub stand : (label_of : ℕ → ChoiceLabel)
      → AreOver (λ p. TellsLabel actions origins p.action (length p.right) (label_of p.action)) (without_spans ts)
      → StandForTrees label_of ts tokens us
