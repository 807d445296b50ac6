-- What a written tree is made of: by a choice, its children; by a label, the trees of the symbols that it keeps. And when written trees are
-- those of trees over productions, node by node: for taking written trees apart.
use Rattle.std.specs.Prelude.{◌≡◌, ◌++◌, ℕ, List, [], ◌∷◌}
use Rattle.lalrpop_grammar.specs.Trees.{Token, Tree, Trees, trees}
use Rattle.lalrpop_grammar.specs.WrittenGrammar.{Origin}
use Rattle.lalrpop_grammar_language.specs.Derivations.{leaf_token}
use Rattle.lalrpop_grammar_language.specs.Labels.{Inlinings, Label}
use Rattle.lalrpop_lr1_theory.specs.Spans.{SpannedForest, leaf_at, node_at, none_at}
use Rattle.lalrpop_run_trees.specs.ActionLabels.{ChoiceInlinings, ChoiceLabel}

-- the tree is one by the choice, over these children
abbrev pub AreChildrenBy : Origin → Tree → List Tree → Type 0
AreChildrenBy Origin.start t us = us ≡ t ∷ []
AreChildrenBy (Origin.alternative n args place) t us = t ≡ Tree.rule n args place (trees us)
AreChildrenBy Origin.pass_down t us = us ≡ t ∷ []
AreChildrenBy Origin.plus_one t us = (u : Tree) × (us ≡ u ∷ []) × (t ≡ Tree.list (trees (u ∷ [])))
AreChildrenBy Origin.plus_more t us =
    (front : List Tree) × (u : Tree) × (us ≡ Tree.list (trees front) ∷ u ∷ []) × (t ≡ Tree.list (trees (front ++ u ∷ [])))
AreChildrenBy Origin.star_none t us = (us ≡ []) × (t ≡ Tree.list Trees.none)
AreChildrenBy Origin.star_some t us = us ≡ t ∷ []
AreChildrenBy Origin.opt_none t us = (us ≡ []) × (t ≡ Tree.opt_none)
AreChildrenBy Origin.opt_some t us = (u : Tree) × (us ≡ u ∷ []) × (t ≡ Tree.opt_some u)
AreChildrenBy Origin.group t us = t ≡ Tree.group (trees us)
AreChildrenBy Origin.look t us = (us ≡ []) × (t ≡ Tree.look)

-- The first tree is of a symbol that is kept, and the others are those that `Rest` says.
pub record IsKeptBefore (Rest : List Tree → List Tree → Type 0) (children us : List Tree) : Type 0 where
  pub first : Tree
  pub others : List Tree
  pub left : List Tree
  pub children_are : children ≡ first ∷ others
  pub trees_are : us ≡ first ∷ left
  pub rest : Rest others left

-- The first tree is of a symbol that is inlined, of which these trees are kept, and the others are those that `Rest` says.
pub record IsInlinedBefore (Kept : Tree → List Tree → Type 0) (Rest : List Tree → List Tree → Type 0) (children us : List Tree) :
    Type 0 where
  pub first : Tree
  pub others : List Tree
  pub front : List Tree
  pub left : List Tree
  pub children_are : children ≡ first ∷ others
  pub trees_are : us ≡ front ++ left
  pub kept : Kept first front
  pub rest : Rest others left

abbrev mutual
  -- the tree is one by the label, and these are the trees of the symbols that the label keeps
  pub AreKeptBy : ChoiceLabel → Tree → List Tree → Type 0
  AreKeptBy (Label.choose x o inlinings) t us =
      (children : List Tree) × AreChildrenBy o t children × AreAllKeptBy inlinings children us

  -- of a tree for each symbol these are left: where the symbol is kept, its tree; where it is inlined, what its label keeps
  pub AreAllKeptBy : ChoiceInlinings → List Tree → List Tree → Type 0
  AreAllKeptBy Inlinings.none children us = (children ≡ []) × (us ≡ [])
  AreAllKeptBy (Inlinings.kept inlinings) children us = IsKeptBefore (AreAllKeptBy inlinings) children us
  AreAllKeptBy (Inlinings.inlined label inlinings) children us =
      IsInlinedBefore (AreKeptBy label) (AreAllKeptBy inlinings) children us

-- The first tree is that of a node, of which these trees are kept, and its children and the other trees are what is said of them.
pub record IsNodeBefore (Kept : Tree → List Tree → Type 0) (Children : List Tree → Type 0) (Rest : List Tree → Type 0)
    (us : List Tree) : Type 0 where
  pub first : Tree
  pub kept : List Tree
  pub others : List Tree
  pub trees_are : us ≡ first ∷ others
  pub are_kept : Kept first kept
  pub children : Children kept
  pub rest : Rest others

-- The written trees are those of the trees over productions, whose actions have these labels: at each node the trees of its children are
-- those that the label keeps, and a leaf shows its terminal.
abbrev pub AreTreesOf : (ℕ → ChoiceLabel) → SpannedForest → List Tree → Type 0
AreTreesOf label_of none_at us = us ≡ []
AreTreesOf label_of (leaf_at t span ts) us =
    (rest : List Tree) × (us ≡ Tree.terminal (leaf_token t span) ∷ rest) × AreTreesOf label_of ts rest
AreTreesOf label_of (node_at p cs ts) us =
    IsNodeBefore (AreKeptBy (label_of p.action)) (AreTreesOf label_of cs) (AreTreesOf label_of ts) us

-- the tokens at the leaves of trees over productions, with the texts that their terminals show
abbrev pub forest_tokens : SpannedForest → List Token
forest_tokens none_at = []
forest_tokens (leaf_at t span ts) = leaf_token t span ∷ forest_tokens ts
forest_tokens (node_at p cs ts) = forest_tokens cs ++ forest_tokens ts
