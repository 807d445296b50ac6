use Rattle.std.proofs.Common.{ap, arith}
use Rattle.lalrpop_lexer_pattern.specs.Matches.{Matches, Pattern}
use Rattle.lalrpop_lexer_pattern.specs.Meaning.{meaning}
use Rattle.lalrpop_lexer_pattern.specs.declared.tree.Hir.{size-Hir}
use Rattle.lalrpop_lexer_nfa.proofs.RepeatLemmas.{merge_step, size-repeated}
use Rattle.lalrpop_lexer_nfa.proofs.repeats.merged.Goals as goal

pub loop-piece-preserved : goal.loop-piece-preserved
loop-piece-preserved c =
    let r = c.args.repeats in
    let inner = c.in-Repetition.inner in
    let sub = c.in-Repetition.deeper in
    let deeper = size-repeated inner sub in
    let is = ap size-Hir c.in-Repetition.is in
    let at = ap size-Hir c.deref-piece.ensures in
    record {
      one = c.joint_repeats-whole.ensures.one;
      same = merge_step (λ w. Matches (Pattern.repetition r.min r.max r.greedy (meaning c.args.sub.now)) w) c.loop-piece.whole inner
          c.joint_repeats-whole.result c.loop-piece.piece.now c.deref-piece.result.now sub c.in-Repetition.is c.deref-piece.ensures
          c.loop-piece.invariant.same c.joint_repeats-whole.ensures.same;
      inside = omega (arith, deeper, is, at, c.loop-piece.invariant.inside);
    }
