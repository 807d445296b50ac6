-- What a fault of a scan says, and its printed text.
use Rattle.std.specs.Prelude.{ℕ, List, ◌++◌, codes, decimal}
use Rattle.lalrpop_grammar_symbols.specs.Symbols.{Text}
use Rattle.lalrpop_lexer_scan.specs.declared.fault.ScanError.{ScanError}
use Rattle.lalrpop_lexer_scan.specs.declared.fault.ScanError.TheVariants as errors
use Rattle.lalrpop_lexer_scan.specs.Entries.{ScanEntry}
use Rattle.lalrpop_lexer_scan.specs.Tokens.{NoTokenAt}

-- memory ran out, or the text has no token at the byte
abbrev pub TellsNoToken : List ScanEntry → List ℕ → ScanError → Type 0
TellsNoToken entries text (errors.NoToken at) = NoTokenAt entries text at
TellsNoToken entries text errors.Memory = Unit {0}

-- its printed text
abbrev pub scan_error_text : ScanError → Text
scan_error_text (errors.NoToken at) = codes "no token at byte " ++ decimal at
scan_error_text errors.Memory = codes "out of memory"
