-- Where a parser tells the limit: exactly where its states make more moves over the tokens, and over those of a text; for the parser.
use Rattle.std.proofs.Common.{ℕ, List, arith, subst, sym}
use Rattle.std.proofs.Common.{Err, Ok}
use Rattle.std.specs.Prelude.{Result, map}
use Rattle.std.proofs.lemmas.List.{length-map}
use Rattle.std.proofs.lemmas.Simd.{map-map}
use Rattle.lalrpop_grammar_symbols.specs.Symbols.{Text, Terminal}
use Rattle.lalrpop_grammar_symbols.specs.Views.{terminal_view}
use Rattle.lalrpop_grammar.specs.Trees.{Token}
use Rattle.lalrpop_grammar.specs.Views.{token_view}
use Rattle.lalrpop_grammar.specs.declared.token.ScanToken.{ScanToken}
use Rattle.lalrpop_grammar.specs.declared.tree.WrittenTree.{WrittenTree}
use Rattle.lalrpop_lexer_scan.specs.Entries.{ScanEntry}
use Rattle.lalrpop_lexer_scan.specs.Faults.{TellsNoToken}
use Rattle.lalrpop_lexer_scan.specs.Tokens.{AreTokensOf}
use Rattle.lalrpop_lexer_scan.specs.declared.fault.ScanError.{ScanError}
use Rattle.lalrpop_lexer_scan.specs.declared.fault.ScanError.TheVariants as scans
use Rattle.lalrpop_lexer_scan.proofs.CutLemmas.{never_both, same_tokens}
use Rattle.lalrpop_lr1_interpret.specs.Ends.{terminals_of}
use Rattle.lalrpop_lr1_interpret.specs.Parses.{IsRightStop, StopsByLimit}
use Rattle.lalrpop_lr1_interpret.specs.declared.parse.stop.Stop.{Stop}
use Rattle.lalrpop_lr1_interpret.specs.declared.parse.stop.Stop.TheVariants as stops
use Rattle.lalrpop_lr1_theory.specs.Productions.{Production}
use Rattle.lalrpop_lr1_theory.specs.Runs.{PassesLimit}
use Rattle.lalrpop_lr1_theory.specs.States.{State}
use Rattle.lalrpop_run_parser.specs.Limits.{TellsLimitWhere, TextPassesLimit}
use Rattle.lalrpop_run_parser.specs.ParserAnswers.{IsWrongAt, TellsStop, parse_error_of_scan}
use Rattle.lalrpop_run_parser.specs.declared.parse_error.ParseError.{ParseError}
use Rattle.lalrpop_run_parser.specs.declared.parse_error.ParseError.TheVariants as errors
use Rattle.lalrpop_run_parser.proofs.ParseLemmas.{token_there}
use Rattle.lalrpop_run_theory.specs.TextAnswers.{terminals_of_tokens}

-- what is told where something holds is told where something else does that holds just there
told_where : (P Q : Type 0) → (P → Q) → (Q → P) → (result : Result WrittenTree ParseError) → TellsLimitWhere P result →
    TellsLimitWhere Q result
told_where P Q f g (Ok t) h = λ q. h (g q)
told_where P Q f g (Err (errors.NoToken at)) h = λ q. h (g q)
told_where P Q f g (Err (errors.Token at text)) h = λ q. h (g q)
told_where P Q f g (Err errors.End) h = λ q. h (g q)
told_where P Q f g (Err errors.Limit) h = f h
told_where P Q f g (Err errors.Memory) h = tt

-- a wrong token isn't the limit
wrong_told : (P : Type 0) (k : Token) (error : ParseError) → IsWrongAt k error → (P → ⊥) → TellsLimitWhere P (Err error)
wrong_told P k (errors.Token at text) told h = h
wrong_told P k errors.Memory told h = tt
wrong_told P k (errors.NoToken at) told h = absurd told
wrong_told P k errors.End told h = absurd told
wrong_told P k errors.Limit told h = absurd told

module _ (states : List State) (tokens : List ScanToken) (limit : ℕ) where
  -- the states pass the limit over the tokens, as definitions see them
  abbrev Passes : Type 0
  Passes = PassesLimit states (terminals_of_tokens (map token_view tokens)) limit

  as_seen : Passes → PassesLimit states (terminals_of tokens) limit
  as_seen = subst (λ (l : List Terminal). PassesLimit states l limit) (map-map (λ (k : Token). k.terminal) token_view tokens)

  as_read : PassesLimit states (terminals_of tokens) limit → Passes
  as_read = subst (λ (l : List Terminal). PassesLimit states l limit) (sym (map-map (λ (k : Token). k.terminal) token_view tokens))

  -- not where a tree is made
  pub tree_within : (PassesLimit states (terminals_of tokens) limit → ⊥) → Passes → ⊥
  tree_within h p = h (as_seen p)

  -- where the parse stops, the limit is told as it should be
  pub stop_within : (grammar : List Production) (s : Text) (stop : Stop) (error : ParseError) →
      IsRightStop grammar s tokens limit stop → StopsByLimit states tokens limit stop →
      TellsStop (map token_view tokens) stop error → TellsLimitWhere Passes (Err error)
  stop_within grammar s (stops.Token i) error right h told =
      let k = token_there (map token_view tokens) i
      (omega (
        arith,
        right.0,
        length-map tokens (λ t. terminal_view t.terminal),
        length-map tokens token_view,
      )) in
      wrong_told Passes k.0 error (told k.0 k.1) (λ p. h (as_seen p))
  stop_within grammar s stops.End error right h told =
      subst (λ (e : ParseError). TellsLimitWhere Passes (Err e)) (sym told) (λ p. h (as_seen p))
  stop_within grammar s stops.Limit error right h told =
      subst (λ (e : ParseError). TellsLimitWhere Passes (Err e)) (sym told) (as_read h)
  stop_within grammar s stops.Memory error right h told =
      subst (λ (e : ParseError). TellsLimitWhere Passes (Err e)) (sym told) tt

module _ (states : List State) (entries : List ScanEntry) (text : List ℕ) (limit : ℕ) where
  -- what is told of the tokens of a text is told of the text
  pub text_within : (tokens : List Token) (result : Result WrittenTree ParseError) → AreTokensOf entries text tokens →
      TellsLimitWhere (PassesLimit states (terminals_of_tokens tokens) limit) result →
      TellsLimitWhere (TextPassesLimit states entries text limit) result
  text_within tokens result are =
      told_where (PassesLimit states (terminals_of_tokens tokens) limit) (TextPassesLimit states entries text limit)
      (λ p. record { tokens = tokens; are_tokens = are; passes = p })
      (λ p.
      subst (λ (ts : List Token). PassesLimit states (terminals_of_tokens ts) limit)
      (same_tokens entries text p.tokens tokens p.are_tokens are) p.passes)
      result

  -- where it hasn't all, its tokens pass no limit
  pub untokened_within : (error : ScanError) → TellsNoToken entries text error →
      TellsLimitWhere (TextPassesLimit states entries text limit) (Err (parse_error_of_scan error))
  untokened_within (scans.NoToken at) told = λ p. never_both entries text p.tokens at p.are_tokens told
  untokened_within scans.Memory told = tt
