use Rattle.std.proofs.Common.{◌≡◌, ◌<◌, ◌∙◌, arith, length, get_or, sym}
use Rattle.std.proofs.lemmas.List.{get_or_default}
use Rattle.lalrpop_lexer.proofs.TargetLemmas.{start_is, starts_rise}
use Rattle.lalrpop_lexer.proofs.SplitLemmas.{splits_past, splits_rest, splits_more}
use Rattle.lalrpop_lexer.proofs.partition.Partition.split_by.Goals as goal

pub loop-i-init : goal.loop-i-init
loop-i-init c = record {
  splits = splits_past c.args.edge.now c.args.pieces.now c.first_from-i.result c.args.self.now.numbers.items c.args.self.now.splits.items
      (λ i l. omega (arith, c.first_from-i.ensures.below i l, c.start.ensures));
  above = λ k l w. omega (arith, c.first_from-i.ensures.above k l w, c.start.ensures);
}

pub returns-then-end-start : goal.returns-then-end-start
returns-then-end-start c =
    let pieces = c.args.pieces.now in
    let at = start_is pieces c.loop-i.i c.loop-i-test.true in
    splits_rest c.args.edge.now pieces c.loop-i.i (length pieces) c.args.self.now.numbers.items c.args.self.now.splits.items
    c.loop-i.self.numbers.items c.loop-i.self.splits.items (omega arith)
    (λ k l w. let up = starts_rise pieces c.loop-i.i k c.requires.pieces l w in
    omega (arith, at, c.start-in-loop-i.ensures, c.end.ensures, c.if-end-start.true, up)) c.loop-i.invariant.splits

pub split_off-requires-clause-pairs : goal.split_off-requires-clause-pairs
split_off-requires-clause-pairs c =
    let now = c.loop-i.invariant.splits.keeps c.requires.pairs.0 c.requires.pairs.1 in
    (now.0, now.1.told)

pub loop-i-preserved : goal.loop-i-preserved
loop-i-preserved c =
    let pieces = c.args.pieces.now in
    let i = c.loop-i.i in
    let mid = c.loop-i.self.numbers.items in
    let at = start_is pieces i c.loop-i-test.true in
    let within : i < length mid = omega (arith, c.loop-i.invariant.splits.size, c.requires.size, c.loop-i-test.true) in
    let here : get_or mid i 0 ≡ c.index-group.result.now =
    get_or_default mid i 0 c.index-group.result.now within ∙ sym c.index-group.ensures in
    record {
      splits = splits_more c.args.edge.now pieces i c.args.self.now.numbers.items c.args.self.now.splits.items mid
          c.loop-i.self.splits.items c.split_off.new.splits.items c.in_ok-self.field-0 within (
            c.loop-i.invariant.above i (omega arith) c.loop-i-test.true,
            omega (arith, at, c.start-in-loop-i.ensures, c.end.ensures, c.if-end-start.false),
          )
          c.loop-i.invariant.splits (rw here c.in_ok-self.ensures);
      above = λ k l w. c.loop-i.invariant.above k (omega arith) w;
    }

pub returns : goal.returns
returns c =
    splits_rest c.args.edge.now c.args.pieces.now c.loop-i.i (length c.args.pieces.now) c.args.self.now.numbers.items
    c.args.self.now.splits.items c.loop-i.self.numbers.items c.loop-i.self.splits.items
    (omega (arith, c.loop-i.auto.i-end, c.first_from-i.ensures.within))
    (λ k l w. absurd (omega (arith, c.loop-i-test.false))) c.loop-i.invariant.splits
