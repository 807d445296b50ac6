-- When a parser tells the limit, that a greater one changes no other answer, and what canonical states promise of it.
use Rattle.std.specs.Prelude.{ℕ, suc, ◌≡◌, ◌≢◌, ◌<◌, ◌≤◌, ◌++◌, List, Option, Some, None, Result, Ok, Err}
use Rattle.std.specs.Prelude.{length, take}
use Rattle.lalrpop_grammar_symbols.specs.Symbols.{Terminal}
use Rattle.lalrpop_grammar.specs.Trees.{Token, Tree}
use Rattle.lalrpop_grammar.specs.Views.{grammar_view, tree_view}
use Rattle.lalrpop_grammar.specs.declared.tree.WrittenTree.{WrittenTree}
use Rattle.lalrpop_grammar_language.specs.Sentences.{Begins, IsSentence}
use Rattle.lalrpop_grammar_rules.specs.Search.{finds}
use Rattle.lalrpop_lexer_scan.specs.Entries.{ScanEntry}
use Rattle.lalrpop_lexer_scan.specs.Scanning.{IsScannerOf}
use Rattle.lalrpop_lexer_scan.specs.Tokens.{AreTokensOf}
use Rattle.lalrpop_lr1_interpret.specs.Tables.{IsTableOf}
use Rattle.lalrpop_lr1_theory.specs.Runs.{PassesLimit}
use Rattle.lalrpop_lr1_theory.specs.States.{State}
use Rattle.lalrpop_run_parser.specs.ParserAnswers.{IsRightForItsText}
use Rattle.lalrpop_run_parser.specs.Parsers.{ParserView}
use Rattle.lalrpop_run_parser.specs.declared.parse_error.ParseError.{ParseError}
use Rattle.lalrpop_run_parser.specs.declared.parse_error.ParseError.TheVariants as errors
use Rattle.lalrpop_run_prepare.specs.PreparedGrammars.{PreparedGrammar}
use Rattle.lalrpop_run_theory.specs.TextAnswers.{IsTreeWithin, TextAnswer, terminals_of_tokens}

-- the limit is told exactly where this holds: each other answer, but for want of memory, comes only where it doesn't
abbrev pub TellsLimitWhere : Type 0 → Result WrittenTree ParseError → Type 0
TellsLimitWhere Passes (Ok t) = Passes → ⊥
TellsLimitWhere Passes (Err (errors.NoToken at)) = Passes → ⊥
TellsLimitWhere Passes (Err (errors.Token at text)) = Passes → ⊥
TellsLimitWhere Passes (Err errors.End) = Passes → ⊥
TellsLimitWhere Passes (Err errors.Limit) = Passes
TellsLimitWhere Passes (Err errors.Memory) = Unit {0}

-- The whole text has its tokens by the entries, and the states make more than `limit` moves over them.
pub record TextPassesLimit (states : List State) (entries : List ScanEntry) (text : List ℕ) (limit : ℕ) : Type 0 where
  pub tokens : List Token
  pub are_tokens : AreTokensOf entries text tokens
  pub passes : PassesLimit states (terminals_of_tokens tokens) limit

-- What the parser's `parse` says of its result: it is the right answer to the text, and tells the limit exactly where its states make more
-- moves.
pub record IsParseOf (p : ParserView) (text : List ℕ) (limit : ℕ) (result : Result WrittenTree ParseError) : Type 0 where
  pub right : (entries : List ScanEntry) → IsScannerOf p.prepared.scanner entries
      → IsRightForItsText p.prepared entries text limit result
  pub limit_told : (states : List State) (entries : List ScanEntry) → IsTableOf p.table states → IsScannerOf p.prepared.scanner entries
      → TellsLimitWhere (TextPassesLimit states entries text limit) result

-- what is answered; nothing where memory ran out
abbrev pub answer_of_result : Result WrittenTree ParseError → Option TextAnswer
answer_of_result (Ok t) = Some (TextAnswer.written (tree_view t))
answer_of_result (Err (errors.NoToken at)) = Some (TextAnswer.no_token at)
answer_of_result (Err (errors.Token at text)) = Some (TextAnswer.wrong_token at text)
answer_of_result (Err errors.End) = Some TextAnswer.early_end
answer_of_result (Err errors.Limit) = Some TextAnswer.over_limit
answer_of_result (Err errors.Memory) = None

-- an answer to a text that isn't the limit is the answer to it under each greater limit
abbrev pub KeepsAnswers : ParserView → Type 0
KeepsAnswers p =
    (text : List ℕ) (limit greater : ℕ) (one other : Result WrittenTree ParseError) (a b : TextAnswer) → limit ≤ greater
    → IsParseOf p text limit one → IsParseOf p text greater other → answer_of_result one ≡ Some a →
    answer_of_result other ≡ Some b
    → a ≢ TextAnswer.over_limit → a ≡ b

-- The place of the fault of tokens that are no sentence: the first token with which they begin none, or the end.
pub data IsFaultAt (v : PreparedGrammar) (tokens : List Token) : ℕ → Type 0 where
  at_token : (i : ℕ) → i < length tokens
      → Begins finds v.session.features.items (grammar_view v.written) v.start (take i (terminals_of_tokens tokens))
      → (Begins finds v.session.features.items (grammar_view v.written) v.start (take (suc i) (terminals_of_tokens tokens)) → ⊥)
      → IsFaultAt v tokens i
  at_end : Begins finds v.session.features.items (grammar_view v.written) v.start (terminals_of_tokens tokens)
      → (IsSentence finds v.session.features.items (grammar_view v.written) v.start tokens → ⊥)
      → IsFaultAt v tokens (length tokens)

-- Some sentence begins with these terminals whose expanded tree has at most so many leaves and nodes.
pub record BeginsSmallSentence (v : PreparedGrammar) (front : List Terminal) (limit : ℕ) : Type 0 where
  pub tree : Tree
  pub tokens : List Token
  pub within : IsTreeWithin finds v.session.features.items (grammar_view v.written) v.start tokens limit tree
  pub left : List Terminal
  pub begins : terminals_of_tokens tokens ≡ front ++ left

-- The limit isn't told of a text with tokens that are no sentence where some sentence that begins with those before the fault has an
-- expanded tree of at most so many leaves and nodes.
abbrev pub TellsFaultsFirst : ParserView → Type 0
TellsFaultsFirst p =
    (entries : List ScanEntry) (text : List ℕ) (tokens : List Token) (place limit : ℕ) (result : Result WrittenTree ParseError)
    → IsScannerOf p.prepared.scanner entries → AreTokensOf entries text tokens → IsFaultAt p.prepared tokens place
    → BeginsSmallSentence p.prepared (take place (terminals_of_tokens tokens)) limit → IsParseOf p text limit result
    → result ≢ Err errors.Limit
