use Rattle.std.proofs.Common.{◌+◌, ◌-◌, ◌/◌, ◌<◌, arith, length}
use Rattle.lalrpop_lexer_nfa.proofs.overlap.first_beyond.Goals as goal

pub loop-low-preserved-then-ordered-middle : goal.loop-low-preserved-then-ordered-middle
loop-low-preserved-then-ordered-middle c =
    let tests = c.args.ordered.now in
    let m = c.loop-low.low + (c.loop-low.high - c.loop-low.low) / 2 in
    let inside : m < length tests = omega (arith, c.loop-low.invariant.within, c.loop-low-test.true) in
    record {
      within = c.loop-low.invariant.within;
      order = omega (arith, c.loop-low-test.true);
      below = λ i l. let up = c.requires i m (record { start = 0; end = 0 }) (omega arith) inside in
          omega (arith, c.if-ordered-middle.true, up);
      above = c.loop-low.invariant.above;
    }

pub loop-low-preserved : goal.loop-low-preserved
loop-low-preserved c =
    let tests = c.args.ordered.now in
    let m = c.loop-low.low + (c.loop-low.high - c.loop-low.low) / 2 in
    let inside : m < length tests = omega (arith, c.loop-low.invariant.within, c.loop-low-test.true) in
    record {
      within = omega arith;
      order = omega arith;
      below = c.loop-low.invariant.below;
      above = λ i l w. let up = c.requires m i (record { start = 0; end = 0 }) l w in omega (arith, c.if-ordered-middle.false, up);
    }
