use Rattle.std.proofs.Common.{List, map, subst, sym}
use Rattle.std.proofs.lemmas.Result.{err_from_is_err_and}
use Rattle.std.specs.Str.{chars}
use Rattle.lalrpop_grammar.specs.Views.{token_view}
use Rattle.lalrpop_grammar.specs.declared.token.ScanToken.{ScanToken}
use Rattle.lalrpop_lexer_scan.specs.Scanning.{AreEntriesOf}
use Rattle.lalrpop_lr1_theory.specs.Runs.{PassesLimit}
use Rattle.lalrpop_run_parser.specs.ParserAnswers.{IsRightForItsTokens}
use Rattle.lalrpop_run_parser.specs.Limits.{TellsLimitWhere}
use Rattle.lalrpop_run_parser.proofs.ParseLemmas.{text_right, untokened_right}
use Rattle.lalrpop_run_parser.proofs.ParserLimitLemmas.{text_within, untokened_within}
use Rattle.lalrpop_run_theory.specs.TextAnswers.{terminals_of_tokens}
use Rattle.lalrpop_run_parser.proofs.parser.Parser.parse.Goals as goal

pub returns-in_err-found-clause-right : goal.returns-in_err-found-clause-right
returns-in_err-found-clause-right c =
    let p = err_from_is_err_and c.from_residual.result c.from_residual.ensures.1 in
    rw (p.1, p.2) (λ read entries is.
    untokened_right c.args.self.now.prepared entries (chars c.args.text.now) c.args.limit c.in_err-found.field-0.0
    (c.in_err-found.ensures.no_token entries is))

pub returns-in_err-found-clause-limit : goal.returns-in_err-found-clause-limit
returns-in_err-found-clause-limit c =
    let p = err_from_is_err_and c.from_residual.result c.from_residual.ensures.1 in
    rw (p.1, p.2) (λ states entries table is.
    untokened_within states entries (chars c.args.text.now) c.args.limit c.in_err-found.field-0.0
    (c.in_err-found.ensures.no_token entries is))

pub parse_tokens-requires : goal.parse_tokens-requires
parse_tokens-requires c =
    subst (λ (ts : List ScanToken). AreEntriesOf c.args.self.now.prepared.scanner ts c.as_slice.result.now)
    (sym c.as_slice-tokens.ensures.value)
    (subst (AreEntriesOf c.args.self.now.prepared.scanner c.in_ok-found.found.tokens.items) (sym c.as_slice.ensures.value)
    c.in_ok-found.ensures.entries)

pub returns-clause-right : goal.returns-clause-right
returns-clause-right c = λ read entries is.
    text_right c.args.self.now.prepared entries (chars c.args.text.now) (map token_view c.in_ok-found.found.tokens.items) c.args.limit
    c.parse_tokens.result (c.in_ok-found.ensures.tokens entries is)
    (subst (λ (ts : List ScanToken). IsRightForItsTokens c.args.self.now.prepared (map token_view ts) c.args.limit c.parse_tokens.result)
    c.as_slice-tokens.ensures.value (c.parse_tokens.ensures.right read))

pub returns-clause-limit : goal.returns-clause-limit
returns-clause-limit c = λ states entries table is.
    text_within states entries (chars c.args.text.now) c.args.limit (map token_view c.in_ok-found.found.tokens.items) c.parse_tokens.result
    (c.in_ok-found.ensures.tokens entries is)
    (subst (λ (ts : List ScanToken).
    TellsLimitWhere (PassesLimit states (terminals_of_tokens (map token_view ts)) c.args.limit) c.parse_tokens.result)
    c.as_slice-tokens.ensures.value (c.parse_tokens.ensures.limit states table))
