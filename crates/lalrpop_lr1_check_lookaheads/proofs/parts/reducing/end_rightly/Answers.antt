use Rattle.lalrpop_lr1_check_lookaheads.proofs.ReductionLemmas.{ends_seen, seen_ends}
use Rattle.lalrpop_lr1_check_lookaheads.proofs.parts.reducing.end_rightly.Goals as goal

pub returns : goal.returns
returns c = λ over. (
  λ e. ends_seen c.args.terminals.now c.args.states.now c.args.start.now (c.in_ok-ends.ensures.0 e),
  λ h. c.in_ok-ends.ensures.1 (seen_ends c.args.terminals.now c.args.states.now c.args.start.now over h),
)
