-- Conditions that can be asked, of alternatives, of calls, and of all calls that a grammar makes.
use Rattle.std.specs.Prelude.{ℕ, ◌≡◌, ◌⊎◌, Bool, List, length, Option, None}
use Rattle.lalrpop_grammar_symbols.specs.Symbols.{Text, Closed, Closeds, closed_list}
use Rattle.lalrpop_grammar_language.specs.Among.{Among}
use Rattle.lalrpop_grammar_language.specs.Enabled.{EnabledGrammar, EnabledRule, Choice, IsRule}
use Rattle.lalrpop_grammar_language.specs.Levels.{Rank, ranked_choices}
use Rattle.lalrpop_grammar_language.specs.Closing.{Binding}
use Rattle.lalrpop_grammar_language.specs.Admitting.{bind}
use Rattle.lalrpop_grammar_language.specs.Expansion.{Nonterminal, IsRoot}
use Rattle.lalrpop_norm_theory.specs.Depth.{HasCallChain}
use Rattle.lalrpop_norm_keys.specs.MacroFaults.{IsAskable}

-- the conditions of these alternatives can be asked
abbrev pub AreAskable : (Text → Text → Option Bool) → (Text → Bool) → Binding → List (Choice × Option Rank) → Type 0
AreAskable finds deep b ps = (p : Choice × Option Rank) → Among ps p → IsAskable finds deep b p.0.condition

-- those of the called rule under the arguments, where these are as many as its parameters
abbrev pub AsksRightly : EnabledGrammar → (Text → Bool) → Text → Closeds → Type 0
AsksRightly g deep n args =
    (r : EnabledRule) → IsRule g n r → length (closed_list args) ≡ length r.parameters
    → AreAskable g.finds deep (bind r args) (ranked_choices r)

-- those of each of these calls
abbrev pub AskRightly : EnabledGrammar → (Text → Bool) → List Closed → Type 0
AskRightly g deep ys = (n : Text) (args : Closeds) → Among ys (Closed.call n args None) → AsksRightly g deep n args

-- those of each call that is made, and of each rule that is no macro
abbrev pub HasAskedConditions : EnabledGrammar → (Text → Bool) → Type 0
HasAskedConditions g deep =
    (n : Text) (args : Closeds)
    → IsRoot g (Nonterminal.closed (Closed.call n args None)) ⊎ ((k : ℕ) × HasCallChain g k (Closed.call n args None))
    → AsksRightly g deep n args
