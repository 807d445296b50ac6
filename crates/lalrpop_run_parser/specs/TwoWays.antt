-- What two parsers of one prepared grammar have in common, by whichever ways their states were built.
use Rattle.std.specs.Prelude.{ℕ, ◌≡◌, ◌⊎◌, List, Result, Some}
use Rattle.lalrpop_grammar.specs.Trees.{Token}
use Rattle.lalrpop_grammar.specs.Views.{grammar_view}
use Rattle.lalrpop_grammar.specs.declared.tree.WrittenTree.{WrittenTree}
use Rattle.lalrpop_grammar_language.specs.Sentences.{IsSentence}
use Rattle.lalrpop_grammar_rules.specs.Search.{finds}
use Rattle.lalrpop_lexer_scan.specs.Entries.{ScanEntry}
use Rattle.lalrpop_lexer_scan.specs.Scanning.{IsScannerOf}
use Rattle.lalrpop_lexer_scan.specs.Tokens.{AreTokensOf}
use Rattle.lalrpop_run_parser.specs.Limits.{IsParseOf, answer_of_result}
use Rattle.lalrpop_run_parser.specs.Parsers.{ParserView}
use Rattle.lalrpop_run_parser.specs.declared.parse_error.ParseError.{ParseError}
use Rattle.lalrpop_run_prepare.specs.PreparedGrammars.{PreparedGrammar}
use Rattle.lalrpop_run_theory.specs.TextAnswers.{TextAnswer}

-- the tokens of the text are no sentence
abbrev pub IsNoSentence : PreparedGrammar → List ScanEntry → List ℕ → Type 0
IsNoSentence v entries text =
    (tokens : List Token) → AreTokensOf entries text tokens
    → IsSentence finds v.session.features.items (grammar_view v.written) v.start tokens → ⊥

-- the two are one; or the text is no sentence, and one of them is the limit
abbrev pub AgreeOnText : PreparedGrammar → List ScanEntry → List ℕ → TextAnswer → TextAnswer → Type 0
AgreeOnText v entries text a b =
    (a ≡ b) ⊎ (IsNoSentence v entries text × ((a ≡ TextAnswer.over_limit) ⊎ (b ≡ TextAnswer.over_limit)))

-- so the two answer each text under each limit; of want of memory nothing is said
abbrev pub AnswerAlike : ParserView → ParserView → Type 0
AnswerAlike p u =
    (entries : List ScanEntry) (text : List ℕ) (limit : ℕ) (one other : Result WrittenTree ParseError) (a b : TextAnswer)
    → IsScannerOf p.prepared.scanner entries → IsParseOf p text limit one → IsParseOf u text limit other
    → answer_of_result one ≡ Some a → answer_of_result other ≡ Some b → AgreeOnText p.prepared entries text a b
