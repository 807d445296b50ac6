-- Least sets of names that are closed under a step: which names a closure brings, which a start reaches, and which have a tree.
use Rattle.std.specs.Prelude.{ℕ, suc, List, ◌∷◌, drop, ◌≡◌, Contains}
use Rattle.lalrpop_grammar_symbols.specs.Symbols.{Text}
use Rattle.lalrpop_lr1_theory.specs.Productions.{Symbol, nonterminal, Production}

-- the least set of names that holds those of a seed and is closed under a step
pub data IsNameFrom (Seed : Text → Type 0) (Step : Text → Text → Type 0) : Text → Type 0 where
  seeded : (A : Text) → Seed A → IsNameFrom Seed Step A
  stepped : {A : Text} (B : Text) → IsNameFrom Seed Step A → Step A B → IsNameFrom Seed Step B

-- a production of the one begins with the other
pub record BeginsWithName (G : Production → Type 0) (A B : Text) : Type 0 where
  pub production : Production
  pub rest : List Symbol
  pub of_grammar : G production
  pub left : production.left ≡ A
  pub right : production.right ≡ nonterminal B ∷ rest

-- a production of the one has the other on its right side
pub record MentionsName (G : Production → Type 0) (A B : Text) : Type 0 where
  pub production : Production
  pub of_grammar : G production
  pub left : production.left ≡ A
  pub mentioned : Contains production.right (nonterminal B)

-- the name stands behind the dot of an item, and behind the dot of one that has moved
pub record IsNameBehindDot (Item : Production → ℕ → Type 0) (A : Text) : Type 0 where
  pub production : Production
  pub dot : ℕ
  pub rest : List Symbol
  pub item : Item production dot
  pub before : drop dot production.right ≡ nonterminal A ∷ rest

abbrev pub IsMovedItem : (Production → ℕ → Type 0) → Production → ℕ → Type 0
IsMovedItem Item p i = (j : ℕ) × (i ≡ suc j) × Item p i

-- the names whose productions a closure of the items brings, and those of the items that have moved
abbrev pub IsNameBrought : (Production → Type 0) → (Production → ℕ → Type 0) → Text → Type 0
IsNameBrought G Item = IsNameFrom (IsNameBehindDot Item) (BeginsWithName G)

-- the names that a name begins with, itself among them
abbrev pub IsNameBegun : (Production → Type 0) → Text → Text → Type 0
IsNameBegun G s = IsNameFrom (λ A. A ≡ s) (BeginsWithName G)

-- the names that a name reaches
abbrev pub IsNameReached : (Production → Type 0) → Text → Text → Type 0
IsNameReached G s = IsNameFrom (λ A. A ≡ s) (MentionsName G)

-- the least set of names that holds each of which a production has only names of the set on its right side
pub data IsProductive (G : Production → Type 0) : Text → Type 0 where
  by_production : (p : Production) → G p → ((B : Text) → Contains p.right (nonterminal B) → IsProductive G B) →
      IsProductive G p.left
