-- What a parser answers to a text, and when it is right: over the written grammar.
use Rattle.std.specs.Prelude.{ℕ, ◌≡◌, List, Result, Ok, Err, Some, slice_get}
use Rattle.lalrpop_grammar.specs.Trees.{Token}
use Rattle.lalrpop_grammar.specs.Views.{grammar_view, tree_view}
use Rattle.lalrpop_grammar.specs.declared.tree.WrittenTree.{WrittenTree}
use Rattle.lalrpop_grammar_rules.specs.Search.{finds}
use Rattle.lalrpop_lexer_scan.specs.Entries.{ScanEntry}
use Rattle.lalrpop_lexer_scan.specs.declared.fault.ScanError.{ScanError}
use Rattle.lalrpop_lexer_scan.specs.declared.fault.ScanError.TheVariants as scans
use Rattle.lalrpop_lr1_interpret.specs.declared.parse.stop.Stop.{Stop}
use Rattle.lalrpop_lr1_interpret.specs.declared.parse.stop.Stop.TheVariants as stops
use Rattle.lalrpop_run_parser.specs.declared.parse_error.ParseError.{ParseError}
use Rattle.lalrpop_run_parser.specs.declared.parse_error.ParseError.TheVariants as errors
use Rattle.lalrpop_run_prepare.specs.PreparedGrammars.{PreparedGrammar}
use Rattle.lalrpop_run_theory.specs.TextAnswers.{IsRightForText, IsRightForTokens, TextAnswer}

-- what a fault of a scan is as one of a parse
abbrev pub parse_error_of_scan : ScanError → ParseError
parse_error_of_scan (scans.NoToken at) = errors.NoToken at
parse_error_of_scan scans.Memory = errors.Memory

-- it tells the token, by where it begins and its text; or memory ran out
abbrev pub IsWrongAt : Token → ParseError → Type 0
IsWrongAt k (errors.Token at text) = (at ≡ k.span.0) × (text ≡ k.text)
IsWrongAt k errors.Memory = Unit {0}
IsWrongAt k (errors.NoToken at) = ⊥
IsWrongAt k errors.End = ⊥
IsWrongAt k errors.Limit = ⊥

-- it tells where the parse of the tokens stops
abbrev pub TellsStop : List Token → Stop → ParseError → Type 0
TellsStop tokens (stops.Token place) error = (k : Token) → slice_get tokens place ≡ Some k → IsWrongAt k error
TellsStop tokens stops.End error = error ≡ errors.End
TellsStop tokens stops.Limit error = error ≡ errors.Limit
TellsStop tokens stops.Memory error = error ≡ errors.Memory

-- what is said of the answer; of want of memory nothing is
abbrev pub TellsResult : (TextAnswer → Type 0) → Result WrittenTree ParseError → Type 0
TellsResult Right (Ok t) = Right (TextAnswer.written (tree_view t))
TellsResult Right (Err (errors.NoToken at)) = Right (TextAnswer.no_token at)
TellsResult Right (Err (errors.Token at text)) = Right (TextAnswer.wrong_token at text)
TellsResult Right (Err errors.End) = Right TextAnswer.early_end
TellsResult Right (Err errors.Limit) = Right TextAnswer.over_limit
TellsResult Right (Err errors.Memory) = Unit {0}

-- it is the right answer to tokens
abbrev pub IsRightForItsTokens : PreparedGrammar → List Token → ℕ → Result WrittenTree ParseError → Type 0
IsRightForItsTokens v tokens limit =
    TellsResult (IsRightForTokens finds v.session.features.items (grammar_view v.written) v.start tokens limit)

-- and to a text, by the entries that cut it
abbrev pub IsRightForItsText : PreparedGrammar → List ScanEntry → List ℕ → ℕ → Result WrittenTree ParseError → Type 0
IsRightForItsText v entries text limit =
    TellsResult (IsRightForText finds v.session.features.items (grammar_view v.written) v.start entries text limit)
