-- Symbols of grammars by numbers, and what a table with a set of numbers for each symbol says of symbols.
use Rattle.std.specs.Prelude.{ℕ, ◌+◌, ◌<◌, ◌≤◌, Bool, ◌||◌, ◌&&◌, not, List, [], ◌∷◌, nat_eq}
use Rattle.std.specs.Prelude.{◌≡◌, Option, Some, None}
use Rattle.std.specs.Prelude.{⊤, slice_get, slice_index_or}
use Rattle.lalrpop_grammar_symbols.specs.Symbols.{Text, Terminal}
use Rattle.lalrpop_lr1_theory.specs.Productions.{Symbol, terminal, nonterminal, Production, Next}
use Rattle.lalrpop_sets.specs.AscendingLists.{has}

-- a production by numbers: those of its left side and of its right side's symbols
pub record RuleByNumbers : Type 0 where
  pub left : ℕ
  pub right : List ℕ

-- Symbols are numbered, names first, from 0 to below `names`, each name once; then terminals in the order of their own numbers.
-- What may come next is numbered, terminals first, then the end.
pub record IsNumbering (symbol_at : ℕ → Option Symbol) (next_at : ℕ → Next) (end names : ℕ) : Type 0 where
  pub name_below : (s : ℕ) (A : Text) → symbol_at s ≡ Some (nonterminal A) → s < names
  pub name_once : (s t : ℕ) (A : Text) → symbol_at s ≡ Some (nonterminal A) → symbol_at t ≡ Some (nonterminal A) → s ≡ t
  pub terminal_at : (s : ℕ) (t : Terminal) → symbol_at s ≡ Some (terminal t) →
      (j : ℕ) × (s ≡ names + j) × (j < end) × (next_at j ≡ Some t)
  pub next_once : (j k : ℕ) → j ≤ end → k ≤ end → next_at j ≡ next_at k → j ≡ k
  pub end_at : next_at end ≡ None

-- the numbers are those of the symbols
abbrev pub SpellsSymbols : (ℕ → Option Symbol) → List ℕ → List Symbol → Type 0
SpellsSymbols symbol_at [] [] = ⊤
SpellsSymbols symbol_at [] (y ∷ ys) = ⊥
SpellsSymbols symbol_at (s ∷ xs) [] = ⊥
SpellsSymbols symbol_at (s ∷ xs) (y ∷ ys) = (symbol_at s ≡ Some y) × SpellsSymbols symbol_at xs ys

-- the rule is the production
pub record IsRuleOf (symbol_at : ℕ → Option Symbol) (rule : RuleByNumbers) (p : Production) : Type 0 where
  pub left : symbol_at rule.left ≡ Some (nonterminal p.left)
  pub right : SpellsSymbols symbol_at rule.right p.right

-- the rules are the productions
pub record AreRulesOf (symbol_at : ℕ → Option Symbol) (rules : List RuleByNumbers) (G : Production → Type 0) : Type 0 where
  pub sound : (r : ℕ) (rule : RuleByNumbers) → slice_get rules r ≡ Some rule →
      (p : Production) × G p × IsRuleOf symbol_at rule p
  pub all : (p : Production) → G p → (r : ℕ) × (rule : RuleByNumbers) × (slice_get rules r ≡ Some rule)
      × IsRuleOf symbol_at rule p

abbrev pub set_of_number : List (List ℕ) → ℕ → List ℕ
set_of_number sets s = slice_index_or sets s []

-- what sets for symbols say of a list of symbols: which numbers can come first, and the end where all of them can be empty
abbrev pub says_by : {X : Type 0} → (X → List ℕ) → ℕ → List X → ℕ → Bool
says_by set_of end [] k = nat_eq k end
says_by set_of end (x ∷ xs) k = (not (nat_eq k end) && has (set_of x) k) || (has (set_of x) end && says_by set_of end xs k)

-- the same of symbols by number
abbrev pub says : List (List ℕ) → ℕ → List ℕ → ℕ → Bool
says sets end xs k = says_by (set_of_number sets) end xs k
