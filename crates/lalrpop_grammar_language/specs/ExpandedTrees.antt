-- Expanded trees, those over the productions after inlining, and how trees before inlining become expanded trees and back.
use Rattle.std.specs.Prelude.{◌≡◌, Bool, if◌then◌else◌, List, [], ◌∷◌, ◌++◌}
use Rattle.lalrpop_grammar_symbols.specs.Symbols.{TextSpan, Terminal}
use Rattle.lalrpop_grammar.specs.Trees.{Token}
use Rattle.lalrpop_grammar_language.specs.Expansion.{GrammarSymbol}
use Rattle.lalrpop_grammar_language.specs.Derivations.{leaf_token}
use Rattle.lalrpop_grammar_language.specs.Labels.{GrammarSymbols, BaseProductions, Label, Inlinings}
use Rattle.lalrpop_grammar_language.specs.Inlining.{Inlines}
use Rattle.lalrpop_grammar_language.specs.BaseTrees.{BaseTree, BaseTrees}

-- At each inner node a label, at each leaf a terminal with its span. A leaf has no text.
mutual
  pub data ExpandedTree (N : Type 0) (C : Type 0) : Type 0 where
    node : Label N C → ExpandedTrees N C → ExpandedTree N C
    leaf : Terminal → TextSpan → ExpandedTree N C

  pub data ExpandedTrees (N : Type 0) (C : Type 0) : Type 0 where
    none : ExpandedTrees N C
    more : ExpandedTree N C → ExpandedTrees N C → ExpandedTrees N C

-- a tree of a symbol of a right side: each inner node is by a production after inlining, with its label
abbrev mutual
  pub IsExpandedTreeOf : {N C : Type 0} → BaseProductions N C → (N → Type 0) → GrammarSymbol N → ExpandedTree N C → Type 0
  IsExpandedTreeOf M In (GrammarSymbol.terminal t) (ExpandedTree.leaf u span) = u ≡ t
  IsExpandedTreeOf M In (GrammarSymbol.terminal t) (ExpandedTree.node label kids) = ⊥
  IsExpandedTreeOf M In (GrammarSymbol.nonterminal x) (ExpandedTree.leaf u span) = ⊥
  IsExpandedTreeOf {N = N} M In (GrammarSymbol.nonterminal x) (ExpandedTree.node label kids) =
      (side : GrammarSymbols N) × Inlines M In x label side × AreExpandedTreesOf M In side kids

  -- one tree for each symbol
  pub AreExpandedTreesOf : {N C : Type 0} → BaseProductions N C → (N → Type 0) → GrammarSymbols N → ExpandedTrees N C → Type 0
  AreExpandedTreesOf M In [] ExpandedTrees.none = Unit {0}
  AreExpandedTreesOf M In [] (ExpandedTrees.more d ds) = ⊥
  AreExpandedTreesOf M In (p ∷ ps) ExpandedTrees.none = ⊥
  AreExpandedTreesOf M In (p ∷ ps) (ExpandedTrees.more d ds) = IsExpandedTreeOf M In p d × AreExpandedTreesOf M In ps ds

-- the tokens at its leaves, with the texts that their terminals show
abbrev mutual
  pub expanded_tokens : {N C : Type 0} → ExpandedTree N C → List Token
  expanded_tokens (ExpandedTree.node label kids) = all_expanded_tokens kids
  expanded_tokens (ExpandedTree.leaf t span) = leaf_token t span ∷ []

  pub all_expanded_tokens : {N C : Type 0} → ExpandedTrees N C → List Token
  all_expanded_tokens ExpandedTrees.none = []
  all_expanded_tokens (ExpandedTrees.more d ds) = expanded_tokens d ++ all_expanded_tokens ds

-- one list of trees behind another
abbrev pub join_expanded : {N C : Type 0} → ExpandedTrees N C → ExpandedTrees N C → ExpandedTrees N C
join_expanded ExpandedTrees.none es = es
join_expanded (ExpandedTrees.more d ds) es = ExpandedTrees.more d (join_expanded ds es)

-- What a node's label says of its children, before the children's own children: kept, or inlined with the label of the child.
abbrev mutual
  pub inlinings_of : {N C : Type 0} → (N → Bool) → BaseTrees N C → Inlinings N C
  inlinings_of test BaseTrees.none = Inlinings.none
  inlinings_of test (BaseTrees.more d ds) = add_inlining test d (inlinings_of test ds)

  pub add_inlining : {N C : Type 0} → (N → Bool) → BaseTree N C → Inlinings N C → Inlinings N C
  add_inlining test (BaseTree.leaf t span) rest = Inlinings.kept rest
  add_inlining test (BaseTree.node y choice kids) rest =
      if test y then Inlinings.inlined (Label.choose y choice (inlinings_of test kids)) rest else Inlinings.kept rest

-- The trees that stand below a node once its children are inlined: one for a child that is kept, and for one that is
-- inlined those that stand below it.
abbrev mutual
  pub expanded_below : {N C : Type 0} → (N → Bool) → BaseTrees N C → ExpandedTrees N C
  expanded_below test BaseTrees.none = ExpandedTrees.none
  expanded_below test (BaseTrees.more d ds) = join_expanded (expanded_child test d) (expanded_below test ds)

  pub expanded_child : {N C : Type 0} → (N → Bool) → BaseTree N C → ExpandedTrees N C
  expanded_child test (BaseTree.leaf t span) = ExpandedTrees.more (ExpandedTree.leaf t span) ExpandedTrees.none
  expanded_child test (BaseTree.node y choice kids) =
      if test y then expanded_below test kids
      else ExpandedTrees.more (ExpandedTree.node (Label.choose y choice (inlinings_of test kids)) (expanded_below test kids))
      ExpandedTrees.none

-- Inlining a tree: the nodes of inlined nonterminals go into the labels above them. The root stays.
abbrev pub expanded_tree : {N C : Type 0} → (N → Bool) → BaseTree N C → ExpandedTree N C
expanded_tree test (BaseTree.leaf t span) = ExpandedTree.leaf t span
expanded_tree test (BaseTree.node y choice kids) =
    ExpandedTree.node (Label.choose y choice (inlinings_of test kids)) (expanded_below test kids)

-- The other way: a label takes the trees that its choices ask for from the front of a list, and leaves the others.
abbrev mutual
  pub take_tree : {N C : Type 0} → Label N C → BaseTrees N C → BaseTree N C × BaseTrees N C
  take_tree (Label.choose y choice inlinings) ds =
      let r = take_trees inlinings ds in
      (BaseTree.node y choice r.0, r.1)

  pub take_trees : {N C : Type 0} → Inlinings N C → BaseTrees N C → BaseTrees N C × BaseTrees N C
  take_trees Inlinings.none ds = (BaseTrees.none, ds)
  take_trees (Inlinings.kept inlinings) BaseTrees.none = (BaseTrees.none, BaseTrees.none)
  take_trees (Inlinings.kept inlinings) (BaseTrees.more d ds) =
      let r = take_trees inlinings ds in
      (BaseTrees.more d r.0, r.1)
  take_trees (Inlinings.inlined label inlinings) ds =
      let a = take_tree label ds in
      let b = take_trees inlinings a.1 in
      (BaseTrees.more a.0 b.0, b.1)

-- Taking a tree apart: each label gives back the nodes that went into it.
abbrev mutual
  pub base_tree : {N C : Type 0} → ExpandedTree N C → BaseTree N C
  base_tree (ExpandedTree.leaf t span) = BaseTree.leaf t span
  base_tree (ExpandedTree.node label kids) = (take_tree label (base_trees kids)).0

  pub base_trees : {N C : Type 0} → ExpandedTrees N C → BaseTrees N C
  base_trees ExpandedTrees.none = BaseTrees.none
  base_trees (ExpandedTrees.more d ds) = BaseTrees.more (base_tree d) (base_trees ds)
