use Rattle.lalrpop_lr1_check_lookaheads.proofs.PassLemmas.{checked_pass, pass_checked}
use Rattle.lalrpop_lr1_check_lookaheads.proofs.parts.laws.checked_are_passed.Goals as goal

pub returns : goal.returns
returns c = λ grammar s states. (checked_pass grammar s states, pass_checked grammar s states)
