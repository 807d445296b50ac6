-- The expansion of a grammar after inlining, its expanded trees, and the written tree that each stands for.
use Rattle.std.specs.Prelude.{◌≡◌, List, map}
use Rattle.lalrpop_grammar.specs.WrittenGrammar.{Origin}
use Rattle.lalrpop_grammar.specs.Trees.{Token, Tree}
use Rattle.lalrpop_grammar_language.specs.Enabled.{EnabledGrammar}
use Rattle.lalrpop_grammar_language.specs.Expansion.{GrammarSymbol, Nonterminal, Produces}
use Rattle.lalrpop_grammar_language.specs.Derivations.{Derivation, Derivations, written_tree, with_shown, shown_token}
use Rattle.lalrpop_grammar_language.specs.BaseTrees.{BaseTree, BaseTrees}
use Rattle.lalrpop_grammar_language.specs.ExpandedTrees.{ExpandedTree, IsExpandedTreeOf, base_tree, expanded_tokens}

-- a derivation as a tree over the productions before inlining, and such a tree as a derivation
abbrev mutual
  pub tree_of_derivation : Derivation → BaseTree Nonterminal Origin
  tree_of_derivation (Derivation.node x o kids) = BaseTree.node x o (trees_of_derivations kids)
  tree_of_derivation (Derivation.leaf t span) = BaseTree.leaf t span

  pub trees_of_derivations : Derivations → BaseTrees Nonterminal Origin
  trees_of_derivations Derivations.none = BaseTrees.none
  trees_of_derivations (Derivations.more d ds) = BaseTrees.more (tree_of_derivation d) (trees_of_derivations ds)

abbrev mutual
  pub derivation_of_tree : BaseTree Nonterminal Origin → Derivation
  derivation_of_tree (BaseTree.node x o kids) = Derivation.node x o (derivations_of_trees kids)
  derivation_of_tree (BaseTree.leaf t span) = Derivation.leaf t span

  pub derivations_of_trees : BaseTrees Nonterminal Origin → Derivations
  derivations_of_trees BaseTrees.none = Derivations.none
  derivations_of_trees (BaseTrees.more d ds) = Derivations.more (derivation_of_tree d) (derivations_of_trees ds)

-- the written tree that an expanded tree stands for: that of the tree, taken apart
abbrev pub tree_written : ExpandedTree Nonterminal Origin → Tree
tree_written e = written_tree (derivation_of_tree (base_tree e))

-- The expanded tree of a written tree: it is one of the symbol, stands for the tree, leaf texts aside, and has its tokens.
pub record IsExpandedTreeOfTree (g : EnabledGrammar) (In : Nonterminal → Type 0) (p : GrammarSymbol Nonterminal) (t : Tree)
    (tokens : List Token) (e : ExpandedTree Nonterminal Origin) : Type 0 where
  pub grows : IsExpandedTreeOf (Produces g) In p e
  pub stands : tree_written e ≡ with_shown t
  pub over : expanded_tokens e ≡ map shown_token tokens
