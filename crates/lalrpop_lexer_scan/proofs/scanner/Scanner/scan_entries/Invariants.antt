use Rattle.std.proofs.Common.{length, map}
use denote.Text.{Utf8}
use denote.Shadow.{shadow}
use Rattle.lalrpop_grammar.specs.Views.{token_view}
use Rattle.lalrpop_lexer_scan.specs.Scanning.{AreEntriesOf}
use Rattle.lalrpop_lexer.specs.Walks.{AreDeadEnds}
use Rattle.lalrpop_lexer_scan.proofs.ScanLemmas.{IsScanned}
use Rattle.lalrpop_lexer_scan.proofs.scanner.Scanner.scan_entries.Given as goal

abbrev pub invariant-loop-rest : goal.invariant-loop-rest
invariant-loop-rest l = record {
  utf8 : shadow (Utf8 l.rest);
  ends : AreDeadEnds l.self.dfa l.rest l.ends;
  scanned : IsScanned l.self l.text l.rest (map token_view l.found.tokens.items);
  entries : AreEntriesOf l.self l.found.tokens.items l.found.entries.items;
}

abbrev pub decreases-loop-rest : goal.decreases-loop-rest
decreases-loop-rest l = length l.rest
