-- First sets of a grammar's nonterminals by name, and of symbols: for those who ask for them.
use Rattle.std.specs.Prelude.{◌≡◌, ◌↔◌, ◌⊎◌, ◌<◌, ◌≤◌, ℕ, suc, true, List, [], ◌∷◌, Option, Some}
use Rattle.std.specs.Prelude.{None}
use Rattle.lalrpop_grammar_symbols.specs.declared.names.NonterminalString.{NonterminalString}
use Rattle.lalrpop_grammar_repr.specs.Maps.{at_name}
use Rattle.lalrpop_grammar_repr.specs.declared.grammar.Grammar.{Grammar}
use Rattle.lalrpop_grammar_repr.specs.declared.production.Symbol.{Symbol}
use Rattle.lalrpop_grammar_repr.specs.declared.production.Symbol.TheVariants as symbols
use Rattle.lalrpop_grammar_repr.specs.declared.terminal_set.TerminalSet.{TerminalSet}
use Rattle.lalrpop_lr1_theory.specs.Productions as theory
use Rattle.lalrpop_lr1_theory.specs.FirstSets.{First0}
use Rattle.lalrpop_lr1_core.specs.Views.{next_of_number}
use Rattle.lalrpop_sets.specs.AscendingLists.{has}
use Rattle.lalrpop_sets.specs.Tokens.{eof_number}
use Rattle.lalrpop_lr1_first.specs.FirstNumbers.{terminal_set}
use Rattle.lalrpop_lr1_core.specs.TheoryGrammars.{productions_of_grammar}
use Rattle.lalrpop_lr1_first.specs.NumberedGrammars.{IsSeenIn}
use Rattle.lalrpop_lr1_first.specs.Numbers.{set_of_number}
use Rattle.lalrpop_lr1_first.specs.Tables.{IsTerminalSet}

-- what the theory sees of the grammar's productions
abbrev pub IsProductionOf : Grammar → theory.Production → Type 0
IsProductionOf g = IsSeenIn (productions_of_grammar g)

-- the set has just the numbers of what can come first in the symbols
abbrev pub IsFirstSet : Grammar → List theory.Symbol → List ℕ → Type 0
IsFirstSet g xs set = (k : ℕ) → (has set k ≡ true)
    ↔ ((k ≤ eof_number g.terminals) × First0 (IsProductionOf g) xs (next_of_number g.terminals k))

-- the same, with what may follow in place of the end
abbrev pub IsFirstSetBefore : Grammar → List theory.Symbol → List ℕ → List ℕ → Type 0
IsFirstSetBefore g xs lookahead set = (k : ℕ) → (has set k ≡ true)
    ↔ (((k < eof_number g.terminals) × First0 (IsProductionOf g) xs (next_of_number g.terminals k))
    ⊎ (First0 (IsProductionOf g) xs None × (has lookahead k ≡ true)))

-- the set that stands at a name, or none
abbrev pub set_or_none : Option (List ℕ) → List ℕ
set_or_none None = []
set_or_none (Some set) = set

abbrev pub set_at_name : List (NonterminalString × List ℕ) → NonterminalString → List ℕ
set_at_name entries n = set_or_none (at_name n entries)

-- the set of a symbol: what stands at a name, a terminal's number alone
abbrev pub set_of_symbol : TerminalSet → List (NonterminalString × List ℕ) → Symbol → List ℕ
set_of_symbol ts entries (symbols.Nonterminal n) = set_at_name entries n
set_of_symbol ts entries (symbols.Terminal t) = terminal_set ts t

-- terminals are numbered by their places, and at each name stands its first set
pub record AreFirstSetsOf (g : Grammar) (entries : List (NonterminalString × List ℕ)) : Type 0 where
  pub numbered : IsTerminalSet g.terminals
  pub at : (n : NonterminalString) → IsFirstSet g (theory.nonterminal n.0 ∷ []) (set_at_name entries n)

-- the names from a number on with their sets
abbrev pub named_from : ℕ → List NonterminalString → List (List ℕ) → List (NonterminalString × List ℕ)
named_from k [] sets = []
named_from k (n ∷ ns) sets = (n, set_of_number sets k) ∷ named_from (suc k) ns sets
