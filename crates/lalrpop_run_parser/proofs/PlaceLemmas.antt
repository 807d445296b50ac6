-- Entries of tokens are the places of the tokens' columns; for parsing a text.
use Rattle.std.proofs.Common.{ℕ, List, [], ◌∷◌}
use Rattle.lalrpop_grammar.specs.declared.token.ScanToken.{ScanToken}
use Rattle.lalrpop_lexer_scan.specs.Scanning.{AreEntriesOf}
use Rattle.lalrpop_lexer_scan.specs.declared.scanner.Scanner.{Scanner}
use Rattle.lalrpop_lr1_interpret.specs.Columns.{AreColumnsOf, ArePlacesOf}
use Rattle.lalrpop_lr1_interpret.specs.declared.parse.action_table.ActionTable.{ActionTable}
use Rattle.lalrpop_lr1_interpret.specs.declared.parse.table_row.NextNumber.{NextNumber}
use Rattle.lalrpop_lr1_interpret.proofs.ColumnLemmas.{column_there}

pub entries_are_places : (table : ActionTable) (s : Scanner) (columns : List NextNumber)
    → AreColumnsOf table s.terminals.items columns → (tokens : List ScanToken) (entries : List ℕ) → AreEntriesOf s tokens entries
    → ArePlacesOf table columns tokens entries
entries_are_places table s columns are [] [] of = tt
entries_are_places table s columns are [] (n ∷ ns) of = absurd of
entries_are_places table s columns are (k ∷ ks) [] of = absurd of
entries_are_places table s columns are (k ∷ ks) (n ∷ ns) of = (
  column_there table s.terminals.items columns n k.terminal are of.0,
  entries_are_places table s columns are ks ns of.1,
)
