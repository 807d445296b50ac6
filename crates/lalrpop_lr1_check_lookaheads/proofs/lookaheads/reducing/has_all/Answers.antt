use Rattle.lalrpop_lr1_check_lookaheads.proofs.ReduceLemmas.{all_there}
use Rattle.lalrpop_lr1_check_lookaheads.proofs.lookaheads.reducing.has_all.Goals as goal

pub returns : goal.returns
returns c =
    let all = c.in_ok-all.all in
    let there = all_there all c.args.tokens.now c.union_with.new.self c.in_ok-came.came c.in_ok-came.ensures.joined
    c.in_ok-came.ensures.same c.in_ok-came.ensures.grown in (
      λ e k h. (c.in_ok-all.ensures k).0 (there.0 e k h),
      λ h. there.1 (λ k a. (c.in_ok-all.ensures k).1 (h k a)),
    )
