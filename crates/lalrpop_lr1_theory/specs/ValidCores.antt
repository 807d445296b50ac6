-- Items that are valid on a list of symbols, whatever may follow them, and how many sets of them there are.
use Rattle.std.specs.Prelude.{ℕ, List, length, Some, ◌≡◌, ◌↔◌, slice_get}
use Rattle.lalrpop_grammar_symbols.specs.Symbols.{Text}
use Rattle.lalrpop_lr1_theory.specs.Productions.{Next, Production, Symbol}
use Rattle.lalrpop_lr1_theory.specs.ValidItems.{HasValidItem, IsValidItem}

-- the production with its dot there is valid on the symbols, before some terminal or the end
abbrev pub IsValidCore : (Production → Type 0) → Text → List Symbol → Production → ℕ → Type 0
IsValidCore G s g p i = (x : Next) × IsValidItem G s g p i x

-- on the two lists of symbols the same ones are valid
abbrev pub HaveSameCores : (Production → Type 0) → Text → List Symbol → List Symbol → Type 0
HaveSameCores G s g h = (p : Production) (i : ℕ) → IsValidCore G s g p i ↔ IsValidCore G s h p i

-- the same ones are valid on one of the lists
pub record HasCoresOfOne (G : Production → Type 0) (s : Text) (lists : List (List Symbol)) (g : List Symbol) : Type 0 where
  pub place : ℕ
  pub list : List Symbol
  pub at : slice_get lists place ≡ Some list
  pub same : HaveSameCores G s g list

-- there are n nonempty sets of them: n lists of symbols have them, each its own, and any list of symbols that has one has that of
-- one of them
pub record CountsCoreSets (G : Production → Type 0) (s : Text) (n : ℕ) : Type 0 where
  pub lists : List (List Symbol)
  pub count : length lists ≡ n
  pub nonempty : (k : ℕ) (g : List Symbol) → slice_get lists k ≡ Some g → HasValidItem G s g
  pub different : (j k : ℕ) (g h : List Symbol) → slice_get lists j ≡ Some g → slice_get lists k ≡ Some h →
      HaveSameCores G s g h → j ≡ k
  pub all : (g : List Symbol) → HasValidItem G s g → HasCoresOfOne G s lists g
