-- The scanner of a written grammar: it cuts texts by the entries of the normalized one.
use Rattle.std.specs.Prelude.{ℕ, Bool, List, Option, map}
use Rattle.lalrpop_grammar_symbols.specs.Symbols.{Text}
use Rattle.lalrpop_grammar.specs.WrittenGrammar.{Grammar, InternEntry}
use Rattle.lalrpop_lexer_scan.specs.Entries.{ScanEntry}
use Rattle.lalrpop_lexer_scan.specs.Scanning.{IsScannerOf}
use Rattle.lalrpop_lexer_scan.specs.declared.scanner.Scanner.{Scanner}
use Rattle.lalrpop_lexer.specs.Simulation.{Decides, StateView}
use Rattle.lalrpop_norm_chain.specs.Lowered.{LoweredGrammar}
use Rattle.lalrpop_norm_chain.specs.Normalized.{IsNormalized}
use Rattle.lalrpop_norm_token_check.specs.Patterns.{entry_patterns, entry_precedences, scan_entry}
use Rattle.lalrpop_norm_lower.specs.declared.lowering.Normalized.{Normalized}
use Rattle.lalrpop_norm_chain.specs.LoweredViews.{lowered_view}
use Rattle.lalrpop_run_prepare.specs.Refused.{IsGenerable}

-- the tokenizer's entries as texts are cut by them
abbrev pub scan_entries : List InternEntry → List ScanEntry
scan_entries = map scan_entry

-- The grammar is not refused. The lowered one is its normalized grammar, and the automaton decides the patterns of the tokenizer's entries.
pub record IsNormalizedFor (finds : Text → Text → Option Bool) (deep : Text → Bool) (features : List Text)
    (limit : ℕ) (start : Text)
    (w : Grammar) (made : Normalized) (dfa : List StateView) : Type 0 where
  pub generable : IsGenerable finds deep features limit start w
  pub normalized : IsNormalized finds features w (lowered_view made)
  pub decides : Decides dfa (entry_patterns (lowered_view made).entries) (entry_precedences (lowered_view made).entries)

-- The grammar is not refused, and the scanner cuts by the entries of its normalized grammar.
pub record IsTokenizer (finds : Text → Text → Option Bool) (deep : Text → Bool) (features : List Text) (limit : ℕ) (start : Text)
    (w : Grammar) (scanner : Scanner) : Type 0 where
  pub generable : IsGenerable finds deep features limit start w
  pub lowered : LoweredGrammar
  pub normalized : IsNormalized finds features w lowered
  pub scans : IsScannerOf scanner (scan_entries lowered.entries)
