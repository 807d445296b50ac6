-- Derivations are the trees before inlining of a grammar's expansion: for the law on written trees.
use Rattle.std.proofs.Common.{◌≡◌, [], ◌∷◌, ◌++◌, refl, ap, ◌∙◌}
use Rattle.lalrpop_grammar.specs.WrittenGrammar.{Origin}
use Rattle.lalrpop_grammar_language.specs.Enabled.{EnabledGrammar}
use Rattle.lalrpop_grammar_language.specs.Expansion.{GrammarSymbol, Nonterminal, RightSide, Produces}
use Rattle.lalrpop_grammar_language.specs.Derivations.{Derivation, Derivations, IsDerivationOf, AreDerivationsOf, derivation_tokens}
use Rattle.lalrpop_grammar_language.specs.Derivations.{derivations_tokens}
use Rattle.lalrpop_grammar_language.specs.BaseTrees.{BaseTree, BaseTrees, IsBaseTreeOf, AreBaseTreesOf, base_tokens, all_base_tokens}
use Rattle.lalrpop_grammar_language.specs.WrittenTrees.{tree_of_derivation, trees_of_derivations, derivation_of_tree, derivations_of_trees}

mutual
  -- the two ways undo each other
  pub tree_of-derivation_of : (d : BaseTree Nonterminal Origin) → tree_of_derivation (derivation_of_tree d) ≡ d
  tree_of-derivation_of (BaseTree.leaf t span) = refl
  tree_of-derivation_of (BaseTree.node x o kids) = ap (BaseTree.node x o) (trees_of-derivations_of kids)

  trees_of-derivations_of : (ds : BaseTrees Nonterminal Origin) → trees_of_derivations (derivations_of_trees ds) ≡ ds
  trees_of-derivations_of BaseTrees.none = refl
  trees_of-derivations_of (BaseTrees.more d ds) =
      ap (λ z. BaseTrees.more z (trees_of_derivations (derivations_of_trees ds))) (tree_of-derivation_of d)
      ∙ ap (BaseTrees.more d) (trees_of-derivations_of ds)

mutual
  -- and the other way round
  pub derivation_of-tree_of : (d : Derivation) → derivation_of_tree (tree_of_derivation d) ≡ d
  derivation_of-tree_of (Derivation.leaf t span) = refl
  derivation_of-tree_of (Derivation.node x o kids) = ap (Derivation.node x o) (derivations_of-trees_of kids)

  derivations_of-trees_of : (ds : Derivations) → derivations_of_trees (trees_of_derivations ds) ≡ ds
  derivations_of-trees_of Derivations.none = refl
  derivations_of-trees_of (Derivations.more d ds) =
      ap (λ z. Derivations.more z (derivations_of_trees (trees_of_derivations ds))) (derivation_of-tree_of d)
      ∙ ap (Derivations.more d) (derivations_of-trees_of ds)

mutual
  -- a derivation of a symbol is a tree of it
  pub derivation_is_tree : (g : EnabledGrammar) (p : GrammarSymbol Nonterminal) (d : Derivation) → IsDerivationOf g p d →
      IsBaseTreeOf (Produces g) p (tree_of_derivation d)
  derivation_is_tree g (GrammarSymbol.terminal t) (Derivation.leaf u span) h = h
  derivation_is_tree g (GrammarSymbol.terminal t) (Derivation.node y o kids) h = absurd h
  derivation_is_tree g (GrammarSymbol.nonterminal x) (Derivation.leaf u span) h = absurd h
  derivation_is_tree g (GrammarSymbol.nonterminal x) (Derivation.node y o kids) h =
      (h.0, h.1, h.2, derivations_are_trees g h.1 kids h.3)

  derivations_are_trees : (g : EnabledGrammar) (ps : RightSide) (ds : Derivations) → AreDerivationsOf g ps ds →
      AreBaseTreesOf (Produces g) ps (trees_of_derivations ds)
  derivations_are_trees g [] Derivations.none h = tt
  derivations_are_trees g [] (Derivations.more d ds) h = absurd h
  derivations_are_trees g (p ∷ ps) Derivations.none h = absurd h
  derivations_are_trees g (p ∷ ps) (Derivations.more d ds) h = (derivation_is_tree g p d h.0, derivations_are_trees g ps ds h.1)

mutual
  -- and a tree of a symbol is a derivation of it
  pub tree_is_derivation : (g : EnabledGrammar) (p : GrammarSymbol Nonterminal) (d : BaseTree Nonterminal Origin) →
      IsBaseTreeOf (Produces g) p d → IsDerivationOf g p (derivation_of_tree d)
  tree_is_derivation g (GrammarSymbol.terminal t) (BaseTree.leaf u span) h = h
  tree_is_derivation g (GrammarSymbol.terminal t) (BaseTree.node y o kids) h = absurd h
  tree_is_derivation g (GrammarSymbol.nonterminal x) (BaseTree.leaf u span) h = absurd h
  tree_is_derivation g (GrammarSymbol.nonterminal x) (BaseTree.node y o kids) h =
      (h.0, h.1, h.2, trees_are_derivations g h.1 kids h.3)

  trees_are_derivations : (g : EnabledGrammar) (ps : RightSide) (ds : BaseTrees Nonterminal Origin) →
      AreBaseTreesOf (Produces g) ps ds → AreDerivationsOf g ps (derivations_of_trees ds)
  trees_are_derivations g [] BaseTrees.none h = tt
  trees_are_derivations g [] (BaseTrees.more d ds) h = absurd h
  trees_are_derivations g (p ∷ ps) BaseTrees.none h = absurd h
  trees_are_derivations g (p ∷ ps) (BaseTrees.more d ds) h = (tree_is_derivation g p d h.0, trees_are_derivations g ps ds h.1)

mutual
  -- both have the same tokens
  pub tokens-tree_of : (d : Derivation) → base_tokens (tree_of_derivation d) ≡ derivation_tokens d
  tokens-tree_of (Derivation.leaf t span) = refl
  tokens-tree_of (Derivation.node x o kids) = tokens-trees_of kids

  tokens-trees_of : (ds : Derivations) → all_base_tokens (trees_of_derivations ds) ≡ derivations_tokens ds
  tokens-trees_of Derivations.none = refl
  tokens-trees_of (Derivations.more d ds) =
      ap (λ l. l ++ all_base_tokens (trees_of_derivations ds)) (tokens-tree_of d)
      ∙ ap (λ l. derivation_tokens d ++ l) (tokens-trees_of ds)
