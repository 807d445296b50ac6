-- Trees over the productions before inlining, over any nonterminals and any choices.
use Rattle.std.specs.Prelude.{◌≡◌, List, [], ◌∷◌, ◌++◌}
use Rattle.lalrpop_grammar_symbols.specs.Symbols.{TextSpan, Terminal}
use Rattle.lalrpop_grammar.specs.Trees.{Token}
use Rattle.lalrpop_grammar_language.specs.Expansion.{GrammarSymbol}
use Rattle.lalrpop_grammar_language.specs.Derivations.{leaf_token}
use Rattle.lalrpop_grammar_language.specs.Labels.{GrammarSymbols, BaseProductions}

-- At each inner node a nonterminal with the choice made for it, at each leaf a terminal with its span. A leaf has no text.
mutual
  pub data BaseTree (N : Type 0) (C : Type 0) : Type 0 where
    node : N → C → BaseTrees N C → BaseTree N C
    leaf : Terminal → TextSpan → BaseTree N C

  pub data BaseTrees (N : Type 0) (C : Type 0) : Type 0 where
    none : BaseTrees N C
    more : BaseTree N C → BaseTrees N C → BaseTrees N C

-- a tree of a symbol of a right side: each inner node is by a production
abbrev mutual
  pub IsBaseTreeOf : {N C : Type 0} → BaseProductions N C → GrammarSymbol N → BaseTree N C → Type 0
  IsBaseTreeOf M (GrammarSymbol.terminal t) (BaseTree.leaf u span) = u ≡ t
  IsBaseTreeOf M (GrammarSymbol.terminal t) (BaseTree.node y choice kids) = ⊥
  IsBaseTreeOf M (GrammarSymbol.nonterminal x) (BaseTree.leaf u span) = ⊥
  IsBaseTreeOf {N = N} M (GrammarSymbol.nonterminal x) (BaseTree.node y choice kids) =
      (y ≡ x) × (side : GrammarSymbols N) × M x choice side × AreBaseTreesOf M side kids

  -- one tree for each symbol
  pub AreBaseTreesOf : {N C : Type 0} → BaseProductions N C → GrammarSymbols N → BaseTrees N C → Type 0
  AreBaseTreesOf M [] BaseTrees.none = Unit {0}
  AreBaseTreesOf M [] (BaseTrees.more d ds) = ⊥
  AreBaseTreesOf M (p ∷ ps) BaseTrees.none = ⊥
  AreBaseTreesOf M (p ∷ ps) (BaseTrees.more d ds) = IsBaseTreeOf M p d × AreBaseTreesOf M ps ds

-- the tokens at its leaves, with the texts that their terminals show
abbrev mutual
  pub base_tokens : {N C : Type 0} → BaseTree N C → List Token
  base_tokens (BaseTree.node x choice kids) = all_base_tokens kids
  base_tokens (BaseTree.leaf t span) = leaf_token t span ∷ []

  pub all_base_tokens : {N C : Type 0} → BaseTrees N C → List Token
  all_base_tokens BaseTrees.none = []
  all_base_tokens (BaseTrees.more d ds) = base_tokens d ++ all_base_tokens ds
