-- What the laws say of macros expanded by a table of keys, and of levels.
use Rattle.std.specs.Prelude.{ℕ, ◌≡◌, false, List, [], map}
use Rattle.lalrpop_grammar_symbols.specs.Symbols.{Text, Closed, WrittenSymbol}
use Rattle.lalrpop_grammar_language.specs.Enabled.{EnabledGrammar, EnabledRule, IsRule}
use Rattle.lalrpop_grammar_language.specs.Levels.{has_levels}
use Rattle.lalrpop_grammar_language.specs.Closing.{Scope, close, close_list}
use Rattle.lalrpop_grammar_language.specs.Expansion.{Nonterminal, InExpansion}
use Rattle.lalrpop_norm_theory.specs.Depth.{HasCallChain}
use Rattle.lalrpop_norm_theory.specs.Rounds.{AreCallsToDepth}
use Rattle.lalrpop_norm_theory.specs.Same.{SameExpansion}
use Rattle.lalrpop_norm_theory.specs.Inlined.{SameInlined}
use Rattle.lalrpop_norm_theory.specs.KeyRules.{nonterminal_by_name, IsMacroExpansion}
use Rattle.lalrpop_norm_theory.specs.KeyTables.{IsKeyTable, AreKeyRules}
use Rattle.lalrpop_norm_theory.specs.LevelRules.{by_level_names, rename_occurrences, rename_listed_occurrences, IsLeveledScope}
use Rattle.lalrpop_norm_theory.specs.LevelRules.{IsResolvedAfter, AreListedResolvedAfter}

-- a rule for each key keeps the expansion
abbrev pub MacroExpansionsKeep : Type 0
MacroExpansionsKeep =
    (g h : EnabledGrammar) (f : Closed → Text) (keys : List Closed) → IsMacroExpansion g h f keys
    → SameExpansion g h (nonterminal_by_name f)

-- and which nonterminals are inlined
abbrev pub MacroExpansionsInlineAlike : Type 0
MacroExpansionsInlineAlike =
    (g h : EnabledGrammar) (f : Closed → Text) (keys : List Closed) → IsMacroExpansion g h f keys
    → SameInlined g h (nonterminal_by_name f)

-- the rules of a finished table of keys, with all calls found, are a rule for each key
abbrev pub TablesExpandMacros : Type 0
TablesExpandMacros =
    (g h : EnabledGrammar) (f : Closed → Text) (depth : ℕ) (calls keys : List Closed)
    → ((n : Text) (r : EnabledRule) → IsRule g n r → has_levels r ≡ false) → AreCallsToDepth g depth calls []
    → IsKeyTable g calls keys → AreKeyRules g h f keys → IsMacroExpansion g h f keys

-- what a chain of calls leads to is in the expansion
abbrev pub ChainsAreReached : Type 0
ChainsAreReached = (g : EnabledGrammar) (k : ℕ) (x : Closed) → HasCallChain g k x → InExpansion g (Nonterminal.closed x)

-- in the grammar where each level has a rule, a renamed symbol closes to the closed symbol under the levels' names
abbrev pub LeveledSymbolsClose : Type 0
LeveledSymbolsClose =
    (f : Text → ℕ → Text) (s t : Scope) → IsLeveledScope f s t → (k j : ℕ) (x : WrittenSymbol) → IsResolvedAfter f s t k x
    → close t j (rename_occurrences f s k x) ≡ by_level_names f (close s k x)

-- and so do the symbols of an alternative
abbrev pub LeveledSidesClose : Type 0
LeveledSidesClose =
    (f : Text → ℕ → Text) (s t : Scope) → IsLeveledScope f s t → (k j : ℕ) (xs : List WrittenSymbol)
    → AreListedResolvedAfter f s t k xs →
    close_list t j (rename_listed_occurrences f s k xs) ≡ map (by_level_names f) (close_list s k xs)
