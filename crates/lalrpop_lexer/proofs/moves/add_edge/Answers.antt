use Rattle.std.proofs.Common.{arith, ◌<◌, ℕ, ◌++◌, ◌∷◌, [], ◌∙◌, ap, sym, length, Vec, Global}
use Rattle.std.proofs.lemmas.List.{get_or-map}
use Rattle.lalrpop_lexer.proofs.TargetLemmas.{goes_past, goes_rest, goes_more_push, start_is, starts_rise}
use Rattle.lalrpop_lexer.proofs.moves.add_edge.Goals as goal

pub loop-i-init : goal.loop-i-init
loop-i-init c = record {
  goes = goes_past c.args.edge.now c.args.pieces.now c.first_from-i.result c.args.targets.now
      (λ i l. omega (arith, c.first_from-i.ensures.below i l, c.start.ensures));
  above = λ k l w. omega (arith, c.first_from-i.ensures.above k l w, c.start.ensures);
}

pub returns-then-end-start : goal.returns-then-end-start
returns-then-end-start c =
    let pieces = c.args.pieces.now in
    let at = start_is pieces c.loop-i.i c.loop-i-test.true in
    goes_rest c.args.edge.now pieces c.loop-i.i (length pieces) c.args.targets.now c.loop-i.targets (omega arith)
    (λ k l w. let up = starts_rise pieces c.loop-i.i k c.requires.pieces l w in
    omega (arith, at, c.start-in-loop-i.ensures, c.end.ensures, c.if-end-start.true, up)) c.loop-i.invariant.goes

pub loop-i-preserved : goal.loop-i-preserved
loop-i-preserved c =
    let pieces = c.args.pieces.now in
    let i = c.loop-i.i in
    let at = start_is pieces i c.loop-i-test.true in
    let within : i < length c.loop-i.targets = omega (arith, c.loop-i-test.true, c.loop-i.auto.targets, c.requires.size) in
    let here = get_or-map (λ (v : Vec ℕ Global). v.items) c.loop-i.targets i c.index-targets-i.result [] within in
    record {
      goes = goes_more_push c.args.edge.now pieces i c.args.targets.now c.loop-i.targets c.push.new.self within (
        c.loop-i.invariant.above i (omega arith) c.loop-i-test.true,
        omega (arith, at, c.start-in-loop-i.ensures, c.end.ensures, c.if-end-start.false),
      )
          (c.in_ok-push.ensures.items ∙ ap (λ xs. xs ++ c.args.edge.now.to.0 ∷ []) (sym here)) c.loop-i.invariant.goes;
      above = λ k l w. c.loop-i.invariant.above k (omega arith) w;
    }

pub returns : goal.returns
returns c =
    goes_rest c.args.edge.now c.args.pieces.now c.loop-i.i (length c.args.pieces.now) c.args.targets.now c.loop-i.targets
    (omega (arith, c.loop-i.auto.i-end, c.first_from-i.ensures.within))
    (λ k l w. absurd (omega (arith, c.loop-i-test.false))) c.loop-i.invariant.goes
