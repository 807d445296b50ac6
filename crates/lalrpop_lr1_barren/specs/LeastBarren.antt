-- Which barren nonterminal is told of a grammar.
use Rattle.std.specs.Prelude.{ℕ, ◌<◌, ◌⊎◌, ◌≡◌, Bool, List, Option, None, Some}
use Rattle.lalrpop_grammar_symbols.specs.Symbols.{Text}
use Rattle.lalrpop_grammar_symbols.specs.declared.names.NonterminalString.{NonterminalString}
use Rattle.lalrpop_lr1_theory.specs.Productions.{Production}
use Rattle.lalrpop_lr1_theory.specs.ValidItems.{IsBarren, NoneBarren}
use Rattle.lalrpop_lr1_core.specs.TheoryGrammars.{NameBefore}
use Rattle.lalrpop_lr1_barren.specs.Clauses.{IsMarked}

-- It is barren, and no other that is has a name before its own.
pub record IsLeastAmongBarren (G : Production → Type 0) (s A : Text) : Type 0 where
  pub barren : IsBarren G s A
  pub least : (B : Text) → IsBarren G s B → (B ≡ A) ⊎ NameBefore A B

-- the least one; none where each nonterminal that the start reaches has a finite tree
abbrev pub IsLeastBarren : (Production → Type 0) → Text → Option NonterminalString → Type 0
IsLeastBarren G s None = NoneBarren G s
IsLeastBarren G s (Some n) = IsLeastAmongBarren G s n.0

-- The number is marked in the first and not in the second, as no number before it is.
pub record IsFirstMissingAt (first second : List Bool) (k : ℕ) : Type 0 where
  pub marked : IsMarked first k
  pub lacks : IsMarked second k → ⊥
  pub before : (n : ℕ) → n < k → IsMarked first n → IsMarked second n

abbrev pub IsFirstMissing : List Bool → List Bool → Option ℕ → Type 0
IsFirstMissing first second None = (n : ℕ) → IsMarked first n → IsMarked second n
IsFirstMissing first second (Some k) = IsFirstMissingAt first second k
