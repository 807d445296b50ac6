-- What a receiver of tokens was given of a text.
use Rattle.std.specs.Prelude.{List}
use Rattle.std.specs.Str.{chars}
use Rattle.lalrpop_grammar_symbols.specs.Symbols.{Text}
use Rattle.lalrpop_grammar.specs.Trees.{Token}
use Rattle.lalrpop_lexer_scan.specs.declared.scanner.Scanner.{Scanner}
use Rattle.lalrpop_lexer_scan.specs.Entries.{ScanEntry}
use Rattle.lalrpop_lexer_scan.specs.Scanning.{IsScannerOf}
use Rattle.lalrpop_lexer_scan.specs.Tokens.{AreTokensOf, FillTheText}

-- It was given the tokens of the text, by whatever entries the scanner is for; they fill the text with the skipped pieces.
pub record HasItsTokens (scanner : Scanner) (text : Text) (has_received : List Token → Type 0) : Type 0 where
  pub tokens : List Token
  pub received : has_received tokens
  pub filled : FillTheText text tokens
  pub cut : (entries : List ScanEntry) → IsScannerOf scanner entries → AreTokensOf entries (chars text) tokens
