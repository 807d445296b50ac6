use Rattle.std.proofs.Common.{List, [], length}
use denote.Text.{Utf8}
use denote.Shadow.{shadow}
use Rattle.lalrpop_grammar.specs.Trees.{Token}
use Rattle.lalrpop_lexer.specs.Walks.{AreDeadEnds}
use Rattle.lalrpop_lexer_scan.proofs.ScanLemmas.{IsScanned}
use Rattle.lalrpop_lexer_scan.proofs.scanner.Scanner.scan_into.Given as goal

abbrev pub invariant-loop-rest : goal.invariant-loop-rest
invariant-loop-rest g l = record {
  utf8 : shadow (Utf8 l.rest);
  ends : AreDeadEnds l.self.dfa l.rest l.ends;
  scanned : (tokens : List Token) × (IsScanned l.self l.text l.rest tokens
      × (g.R.TokenReceiver.has_received l.initial.receiver [] → g.R.TokenReceiver.has_received l.receiver tokens));
}

abbrev pub decreases-loop-rest : goal.decreases-loop-rest
decreases-loop-rest g l = length l.rest
