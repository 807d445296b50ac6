use Rattle.std.proofs.Common.{◌≡◌, ◌<◌, ◌-◌, [], ◌++◌, refl, sym, length, eqb-true, arith}
use Rattle.std.proofs.lemmas.Bool.{eqb-false}
use Rattle.lalrpop_lexer_scan.specs.Scanning.{found_terminal_view, token_of}
use Rattle.lalrpop_lexer_scan.proofs.ScanLemmas.{ends_left, scan_start, scan_step, scan_tokens, scan_fills, scan_stuck, piece_boundary, piece_some}
use Rattle.lalrpop_lexer_scan.proofs.scanner.Scanner.scan_into.Goals as goal

pub returns-in_default-clause-no_token : goal.returns-in_default-clause-no_token
returns-in_default-clause-no_token g c =
    let s = c.loop-rest.invariant.scanned in
    let some : length c.loop-rest.rest.now ≡ 0 → ⊥ = eqb-false _ 0 (sym c.loop-rest-test.ensures) in
    scan_stuck c.args.self.now c.args.text.now c.loop-rest.rest.now s.0 s.1.0 (omega arith) c.in_default.ensures.piece

pub loop-rest-init : goal.loop-rest-init
loop-rest-init g c = record {
  utf8 = c.utf8.text;
  ends = c.new-ends.ensures c.args.self.now.dfa c.args.text.now;
  scanned = ([], (scan_start c.args.self.now c.args.text.now c.utf8.text, λ start. start));
}

pub range_from-rest-requires : goal.range_from-rest-requires
range_from-rest-requires g c = λ _.
    let s = c.loop-rest.invariant.scanned in
    piece_boundary c.args.self.now c.args.text.now c.loop-rest.rest.now s.0 s.1.0 c.in-Some.piece.now
    (found_terminal_view c.in-Some.of) c.in-Some.ensures.piece

pub loop-rest-smaller : goal.loop-rest-smaller
loop-rest-smaller g c =
    let s = c.loop-rest.invariant.scanned in
    let some : 0 < length c.in-Some.piece.now =
    piece_some c.args.self.now c.args.text.now c.loop-rest.rest.now s.0 s.1.0 c.in-Some.piece.now
    (found_terminal_view c.in-Some.of) c.in-Some.ensures.piece in
    let shorter : length c.range_from-rest.result.now < length c.loop-rest.rest.now = omega (arith, c.range_from-rest.ensures.len) in
    shorter

pub loop-rest-preserved : goal.loop-rest-preserved
loop-rest-preserved g c =
    let s = c.loop-rest.invariant.scanned in
    let at = length c.args.text.now - length c.loop-rest.rest.now in
    let end = length c.args.text.now - length c.range_from-rest.result.now in
    let more = s.0 ++ token_of (found_terminal_view c.in-Some.of) c.in-Some.piece.now (at, end) in
    record {
      utf8 = c.range_from-rest.utf8;
      ends = ends_left c.args.self.now.dfa c.loop-rest.rest.now c.in-Some.piece.now c.range_from-rest.result.now c.piece.new.ends
          c.range_from-rest.ensures.value c.piece.ensures.ends;
      scanned = (
        more,
        (
          scan_step c.args.self.now c.args.text.now c.loop-rest.rest.now s.0 s.1.0 c.in-Some.piece.now c.range_from-rest.result.now
              (found_terminal_view c.in-Some.of) more c.in-Some.ensures.piece c.range_from-rest.ensures.value refl,
          λ start. c.in_ok-give.ensures s.0 (s.1.1 start),
        ),
      );
    }

pub returns-clause-received : goal.returns-clause-received
returns-clause-received g c = λ start.
    let s = c.loop-rest.invariant.scanned in
    let over : length c.loop-rest.rest.now ≡ 0 = eqb-true _ 0 (sym c.loop-rest-test.ensures) in
    record {
      tokens = s.0;
      received = s.1.1 start;
      filled = scan_fills c.args.self.now c.args.text.now c.loop-rest.rest.now s.0 s.1.0 over;
      cut = scan_tokens c.args.self.now c.args.text.now c.loop-rest.rest.now s.0 s.1.0 over;
    }
