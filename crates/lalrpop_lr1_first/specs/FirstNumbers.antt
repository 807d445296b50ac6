-- First sets by the numbers of a table: for each symbol, and for each place.
use Rattle.std.specs.Prelude.{ℕ, ◌+◌, ◌<◌, ◌≤◌, Bool, List, length, map, ◌≡◌, Some, slice_get}
use Rattle.lalrpop_grammar_symbols.specs.declared.terminal.TerminalString.{TerminalString}
use Rattle.lalrpop_grammar_repr.specs.Maps.{at_terminal}
use Rattle.lalrpop_grammar_repr.specs.declared.terminal_set.TerminalSet.{TerminalSet}
use Rattle.lalrpop_lr1_core.specs.Views.{next_of_number}
use Rattle.lalrpop_sets.specs.AscendingLists.{has}
use Rattle.lalrpop_sets.specs.Tokens.{eof_number, number_alone}
use Rattle.lalrpop_lr1_first.specs.FirstSteps.{AreClosed, AreSound, AreWithin, HaveTerminals, SweepsTo}
use Rattle.lalrpop_lr1_first.specs.NumberedGrammars.{IsSeenIn, table_names, table_productions}
use Rattle.lalrpop_lr1_first.specs.Numbers.{RuleByNumbers, says, set_of_number}
use Rattle.lalrpop_lr1_first.specs.Tables.{rest_of, symbol_of_number}
use Rattle.lalrpop_lr1_first.specs.declared.numbered.Numbered.{Numbered}
use Rattle.lalrpop_lr1_first.specs.declared.place.NumberedRule.{NumberedRule}
use Rattle.lalrpop_lr1_first.specs.declared.place.Place.{Place}
use Rattle.lalrpop_lr1_first.specs.declared.place.Place.TheVariants as places

-- each symbol's number is below n
abbrev pub AreSymbolsBelow : ℕ → List Place → Type 0
AreSymbolsBelow n all = (i s : ℕ) → slice_get all i ≡ Some (places.Symbol s) → s < n

-- the end's number, and how many names and symbols there are
abbrev pub table_end : Numbered → ℕ
table_end table = eof_number table.terminals.now

abbrev pub name_count : Numbered → ℕ
name_count table = length table.names.items

abbrev pub symbol_count : Numbered → ℕ
symbol_count table = name_count table + table_end table

-- the rules with their right sides
abbrev pub rule_of : List Place → NumberedRule → RuleByNumbers
rule_of all rule = record { left = rule.left; right = rest_of all rule.start }

abbrev pub table_rules : Numbered → List RuleByNumbers
table_rules table = map (rule_of table.places.items) table.rules.items

-- a sweep over the table's rules at the first steps of a walk
abbrev pub TableSweepsTo : Numbered → Bool → ℕ → List (List ℕ) → List (List ℕ) → Bool → Type 0
TableSweepsTo table = SweepsTo (IsSeenIn (table_productions table)) (symbol_of_number (table_names table) table.terminals.now)
    (next_of_number table.terminals.now) (table_end table) (name_count table) (table_rules table)

-- the set of a terminal: its number alone
abbrev pub terminal_set : TerminalSet → TerminalString → List ℕ
terminal_set ts t = number_alone (at_terminal t ts.bits)

-- sets for all symbols, in range, with each terminal's alone
pub record AreTableSets (table : Numbered) (sets : List (List ℕ)) : Type 0 where
  pub count : length sets ≡ symbol_count table
  pub within : AreWithin (table_end table) sets
  pub terminals : HaveTerminals (table_end table) (name_count table) sets

-- they hold first sets alone
abbrev pub AreSoundSets : Numbered → List (List ℕ) → Type 0
AreSoundSets table sets = AreSound (IsSeenIn (table_productions table)) (symbol_of_number (table_names table) table.terminals.now)
    (next_of_number table.terminals.now) (table_end table) sets

-- the first set of each symbol: they hold first sets alone, and are closed under all rules
pub record AreSymbolFirsts (table : Numbered) (sets : List (List ℕ)) : Type 0 where
  pub sets_are : AreTableSets table sets
  pub sound : AreSoundSets table sets
  pub closed : AreClosed (table_end table) (table_rules table) sets

-- at each place, and behind the last, stands the first set of the symbols from there on
pub record ArePlaceFirsts (table : Numbered) (sets rests : List (List ℕ)) : Type 0 where
  pub count : length rests ≡ length table.places.items + 1
  pub at : (i : ℕ) → i ≤ length table.places.items → (k : ℕ) →
      has (set_of_number rests i) k ≡ says sets (table_end table) (rest_of table.places.items i) k
