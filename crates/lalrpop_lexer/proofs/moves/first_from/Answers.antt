use Rattle.std.proofs.Common.{◌+◌, ◌-◌, ◌/◌, ◌<◌, arith, length}
use Rattle.lalrpop_lexer.proofs.TargetLemmas.{start_is, starts_rise}
use Rattle.lalrpop_lexer.proofs.moves.first_from.Goals as goal

pub loop-low-preserved-then-start-number : goal.loop-low-preserved-then-start-number
loop-low-preserved-then-start-number c =
    let pieces = c.args.pieces.now in
    let m = c.loop-low.low + (c.loop-low.high - c.loop-low.low) / 2 in
    let inside : m < length pieces = omega (arith, c.loop-low.invariant.within, c.loop-low-test.true) in
    let at = start_is pieces m inside in
    record {
      within = c.loop-low.invariant.within;
      order = omega (arith, c.loop-low-test.true);
      below = λ i l. let up = starts_rise pieces i m c.requires (omega arith) inside in
          omega (arith, at, c.start.ensures, c.if-start-number.true, up);
      above = c.loop-low.invariant.above;
    }

pub loop-low-preserved : goal.loop-low-preserved
loop-low-preserved c =
    let pieces = c.args.pieces.now in
    let m = c.loop-low.low + (c.loop-low.high - c.loop-low.low) / 2 in
    let inside : m < length pieces = omega (arith, c.loop-low.invariant.within, c.loop-low-test.true) in
    let at = start_is pieces m inside in
    record {
      within = omega arith;
      order = omega arith;
      below = c.loop-low.invariant.below;
      above = λ i l w. let up = starts_rise pieces m i c.requires l w in omega (arith, at, c.start.ensures, c.if-start-number.false, up);
    }
