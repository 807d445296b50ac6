use Rattle.lalrpop_lr1_check_lookaheads.proofs.ReductionLemmas.{conflicts_seen, seen_conflicts}
use Rattle.lalrpop_lr1_check_lookaheads.proofs.parts.reducing.have_no_conflict.Goals as goal

pub returns : goal.returns
returns c = λ numbered placed over. (
  λ e. conflicts_seen c.args.terminals.now c.args.states.now numbered (c.in_ok-none.ensures.0 e),
  λ h. c.in_ok-none.ensures.1 (seen_conflicts c.args.terminals.now c.args.states.now placed over h),
)
