-- The columns of terminals in a table of actions, and the places at which tokens find theirs: for a run that looks no terminal up.
use Rattle.std.specs.Prelude.{ℕ, List, [], ◌∷◌, Option, Some, None, ◌≡◌, slice_get}
use Rattle.lalrpop_grammar.specs.declared.token.ScanToken.{ScanToken}
use Rattle.lalrpop_grammar_symbols.specs.Views.{terminal_view}
use Rattle.lalrpop_grammar_symbols.specs.declared.terminal.TerminalString.{TerminalString}
use Rattle.lalrpop_lr1_interpret.specs.Tables.{IsNextBy}
use Rattle.lalrpop_lr1_interpret.specs.declared.parse.action_table.ActionTable.{ActionTable}
use Rattle.lalrpop_lr1_interpret.specs.declared.parse.table_row.NextNumber.{NextNumber}
use Rattle.lalrpop_lr1_interpret.specs.declared.parse.token_numbers.TokenNumbers.{TokenNumbers}
use Rattle.lalrpop_lr1_interpret.specs.declared.parse.token_numbers.TokenNumbers.TheVariants as numbers

-- it is the column of the terminal; of no terminal nothing is said
abbrev pub IsColumnOf : ActionTable → Option TerminalString → NextNumber → Type 0
IsColumnOf table None column = Unit {0}
IsColumnOf table (Some t) column = IsNextBy table (Some (terminal_view t)) column

-- place by place they are the columns of the terminals
abbrev pub AreColumnsOf : ActionTable → List (Option TerminalString) → List NextNumber → Type 0
AreColumnsOf table [] [] = Unit {0}
AreColumnsOf table [] (c ∷ cs) = ⊥
AreColumnsOf table (t ∷ ts) [] = ⊥
AreColumnsOf table (t ∷ ts) (c ∷ cs) = IsColumnOf table t c × AreColumnsOf table ts cs

-- at the place stands the column of the terminal
pub record HasColumnAt (table : ActionTable) (columns : List NextNumber) (place : ℕ) (t : TerminalString) : Type 0 where
  pub column : NextNumber
  pub there : slice_get columns place ≡ Some column
  pub column_is : IsNextBy table (Some (terminal_view t)) column

-- token by token they are the places of the columns of the tokens' terminals
abbrev pub ArePlacesOf : ActionTable → List NextNumber → List ScanToken → List ℕ → Type 0
ArePlacesOf table columns [] [] = Unit {0}
ArePlacesOf table columns [] (n ∷ ns) = ⊥
ArePlacesOf table columns (k ∷ ks) [] = ⊥
ArePlacesOf table columns (k ∷ ks) (n ∷ ns) = HasColumnAt table columns n k.terminal × ArePlacesOf table columns ks ns

-- so found, the numbers of the tokens are right
abbrev pub TellNumbers : TokenNumbers → ActionTable → List ScanToken → Type 0
TellNumbers numbers.ByTerminal table tokens = Unit {0}
TellNumbers (numbers.ByColumn places columns) table tokens = ArePlacesOf table columns.now.numbers.items tokens places.now
