-- What `tokens` replies to a grammar that was read, and a text.
use Rattle.std.specs.Prelude.{◌≡◌, ℕ, List, String, string_bytes}
use Rattle.std.specs.Str.{chars}
use Rattle.std.specs.declared.alloc.Global.{Global}
use Rattle.lalrpop_grammar_symbols.specs.Symbols.{Text}
use Rattle.lalrpop_grammar.specs.declared.grammar.Grammar.{Grammar}
use Rattle.lalrpop_grammar.specs.Trees.{Token}
use Rattle.lalrpop_grammar.specs.Views.{grammar_view}
use Rattle.lalrpop_lexer_scan.specs.Entries.{ScanEntry}
use Rattle.lalrpop_lexer_scan.specs.Tokens.{AreTokensOf, FillTheText, NoTokenAt}
use Rattle.lalrpop_run.specs.Parsers.{IsNoParserReply}
use Rattle.lalrpop_run.specs.Questions.{Question, asked_of}
use Rattle.lalrpop_run.specs.ReplyTexts.{tokens_text}
use Rattle.lalrpop_run.specs.RightAnswer.{AreItsEntries, MayBeParsed}
use Rattle.lalrpop_run.specs.declared.replies.reply.Reply.{Reply}
use Rattle.lalrpop_run.specs.declared.replies.reply.Reply.TheVariants as replies

-- The tokens of the text, which fill it with the skipped pieces.
pub record AreAllTokens (entries : List ScanEntry) (text : Text) (tokens : List Token) : Type 0 where
  pub cut : AreTokensOf entries (chars text) tokens
  pub filled : FillTheText text tokens

-- by the entries: the tokens, a line for each, or the first byte at which there is none
pub data IsScanReply (entries : List ScanEntry) (text : Text) (reply : Reply) : Type 0 where
  no_token : (at : ℕ) → NoTokenAt entries (chars text) at → reply ≡ replies.NoToken at → IsScanReply entries text reply
  tokens : (found : List Token) (lines : String Global) → AreAllTokens entries text found → string_bytes lines ≡ tokens_text found
      → reply ≡ replies.Tokens lines → IsScanReply entries text reply

-- Why there is no parser, each reason only where no earlier one stands; else the scan of the text by the grammar's entries.
pub data IsTokensReply (q : Question) (g : Grammar) (text : Text) (reply : Reply) : Type 0 where
  no_parser : IsNoParserReply q g reply → IsTokensReply q g text reply
  scanned : (entries : List ScanEntry) → MayBeParsed (asked_of q) (grammar_view g) → AreItsEntries (asked_of q) (grammar_view g) entries
      → IsScanReply entries text reply → IsTokensReply q g text reply
