-- What the occurrences of a rule in one of its alternatives are called, each by its number, and symbols under these names.
use Rattle.std.specs.Prelude.{ℕ, List, Some, if◌then◌else◌}
use Rattle.lalrpop_grammar_symbols.specs.Symbols.{Text, TextSpan, Syms, WrittenSymbol}
use Rattle.lalrpop_grammar_language.specs.Closing.{Binding, Scope}
use Rattle.lalrpop_grammar_language.specs.Levels.{Assoc, reaches}
use Rattle.lalrpop_grammar_rules.specs.Ranks.{assoc_view}
use Rattle.lalrpop_grammar_rules.specs.Scopes.{binding_view}
use Rattle.lalrpop_norm_theory.specs.LeveledGrammar.{no_rules}
use Rattle.lalrpop_norm_theory.specs.LevelRules.{occurrence_name, rename_all_occurrences, rename_listed_occurrences}
use Rattle.lalrpop_norm_theory.specs.LevelRules.{rename_occurrences}
use Rattle.lalrpop_norm_precedence.specs.declared.levels.renaming.Occurrences.{Occurrences}

-- the name of occurrence k of n: those that the side reaches have one, the others another
abbrev pub name_by_side : Assoc → ℕ → Text → Text → ℕ → Text
name_by_side side n reached others k = if reaches side n k then reached else others

-- a scope in which each occurrence has a level of its own, its number
abbrev pub scope_by_number : Binding → Text → Scope
scope_by_number b owner = record { grammar = no_rules; binding = b; owner = owner; level_at = λ k. Some k }

-- what the program calls occurrence k
abbrev pub called_at : Occurrences → ℕ → Text
called_at o k = name_by_side (assoc_view o.side) o.count o.reached.now o.others.now k

abbrev pub occurrences_scope : Occurrences → Scope
occurrences_scope o = scope_by_number (binding_view o.binding) o.owner.now

abbrev pub name_under : Occurrences → ℕ → Text → Text
name_under o k n = occurrence_name (λ m i. called_at o i) (occurrences_scope o) k n

abbrev pub symbol_under : Occurrences → ℕ → WrittenSymbol → WrittenSymbol
symbol_under o k x = rename_occurrences (λ m i. called_at o i) (occurrences_scope o) k x

abbrev pub inside_under : Occurrences → ℕ → Syms TextSpan → Syms TextSpan
inside_under o k xs = rename_all_occurrences (λ m i. called_at o i) (occurrences_scope o) k xs

abbrev pub symbols_under : Occurrences → ℕ → List WrittenSymbol → List WrittenSymbol
symbols_under o k xs = rename_listed_occurrences (λ m i. called_at o i) (occurrences_scope o) k xs
