-- Why there is no automaton for some entries, as the program tells it.
use Rattle.std.specs.Prelude.{◌≡◌, ℕ, List, Some, None}
use Rattle.lalrpop_grammar_symbols.specs.Views.{literal_view}
use Rattle.lalrpop_grammar.specs.WrittenGrammar.{InternEntry}
use Rattle.lalrpop_norm_token_check.specs.declared.automaton.EntryFault.{EntryFault}
use Rattle.lalrpop_norm_token_check.specs.declared.automaton.EntryFault.TheVariants as faults
use Rattle.lalrpop_norm_token_check.specs.Patterns.{first_refused, entry_literal_at, AreFirstTied}

-- the literal of the first entry that is refused; or no entry is, and two tie; or memory ran out
abbrev pub IsEntryFault : List InternEntry → EntryFault → Type 0
IsEntryFault entries (faults.Refused l) = first_refused entries ≡ Some (literal_view l)
IsEntryFault entries (faults.Tied l m) = (first_refused entries ≡ None) × AreFirstTied entries (literal_view l) (literal_view m)
IsEntryFault entries faults.Memory = Unit {0}

-- the fault tells the literals of the entries at the two indices
abbrev pub TellsEntryTie : List InternEntry → ℕ → ℕ → EntryFault → Type 0
TellsEntryTie entries one two (faults.Refused l) = ⊥
TellsEntryTie entries one two (faults.Tied l m) =
    (entry_literal_at entries one ≡ Some (literal_view l)) × (entry_literal_at entries two ≡ Some (literal_view m))
TellsEntryTie entries one two faults.Memory = ⊥
