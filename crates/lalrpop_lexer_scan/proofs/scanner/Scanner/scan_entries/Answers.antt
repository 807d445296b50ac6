use Rattle.std.proofs.Common.{◌≡◌, ◌<◌, sym, length, map, eqb-true, arith}
use Rattle.std.proofs.lemmas.Bool.{eqb-false}
use Rattle.lalrpop_grammar.specs.Views.{token_view}
use Rattle.lalrpop_lexer_scan.specs.Scanning.{found_terminal_view}
use Rattle.lalrpop_lexer_scan.proofs.ScanLemmas.{ends_left, scan_step, scan_tokens, scan_stuck, piece_boundary, piece_some}
use Rattle.lalrpop_lexer_scan.proofs.scanner.Scanner.scan_entries.Goals as goal

pub returns-in_default-clause-no_token : goal.returns-in_default-clause-no_token
returns-in_default-clause-no_token c =
    let some : length c.loop-rest.rest.now ≡ 0 → ⊥ = eqb-false _ 0 (sym c.loop-rest-test.ensures) in
    scan_stuck c.args.self.now c.args.text.now c.loop-rest.rest.now (map token_view c.loop-rest.found.tokens.items)
    c.loop-rest.invariant.scanned (omega arith) c.in_default.ensures.piece

pub range_from-rest-requires : goal.range_from-rest-requires
range_from-rest-requires c = λ _.
    piece_boundary c.args.self.now c.args.text.now c.loop-rest.rest.now (map token_view c.loop-rest.found.tokens.items)
    c.loop-rest.invariant.scanned c.in-Some.piece.now (found_terminal_view c.in-Some.of) c.in-Some.ensures.piece

pub loop-rest-smaller : goal.loop-rest-smaller
loop-rest-smaller c =
    let some : 0 < length c.in-Some.piece.now =
    piece_some c.args.self.now c.args.text.now c.loop-rest.rest.now (map token_view c.loop-rest.found.tokens.items)
    c.loop-rest.invariant.scanned c.in-Some.piece.now (found_terminal_view c.in-Some.of) c.in-Some.ensures.piece in
    let shorter : length c.range_from-rest.result.now < length c.loop-rest.rest.now = omega (arith, c.range_from-rest.ensures.len) in
    shorter

pub loop-rest-preserved : goal.loop-rest-preserved
loop-rest-preserved c = record {
  utf8 = c.range_from-rest.utf8;
  ends = ends_left c.args.self.now.dfa c.loop-rest.rest.now c.in-Some.piece.now c.range_from-rest.result.now c.piece.new.ends
      c.range_from-rest.ensures.value c.piece.ensures.ends;
  scanned =
      scan_step c.args.self.now c.args.text.now c.loop-rest.rest.now (map token_view c.loop-rest.found.tokens.items)
      c.loop-rest.invariant.scanned c.in-Some.piece.now c.range_from-rest.result.now (found_terminal_view c.in-Some.of)
      (map token_view c.push_piece.new.self.tokens.items) c.in-Some.ensures.piece c.range_from-rest.ensures.value
      c.in_ok-push_piece.ensures.tokens;
  entries = c.in_ok-push_piece.ensures.entries c.args.self.now c.in-Some.ensures.entry c.loop-rest.invariant.entries;
}

pub returns-clause-tokens : goal.returns-clause-tokens
returns-clause-tokens c =
    scan_tokens c.args.self.now c.args.text.now c.loop-rest.rest.now (map token_view c.loop-rest.found.tokens.items)
    c.loop-rest.invariant.scanned (eqb-true _ 0 (sym c.loop-rest-test.ensures))
