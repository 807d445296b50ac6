use Rattle.std.proofs.Common.{length}
use Rattle.lalrpop_lr1_build.specs.Renumbering.{HaveTargetsWithin}
use Rattle.lalrpop_lane.specs.BuilderAnswers.{AreLalrWithout}
use Rattle.lalrpop_lane.proofs.AnswerLemmas.{if_ok}
use Rattle.lalrpop_lane.proofs.TargetLemmas.{lalr_within}
use Rattle.lalrpop_lane.proofs.building.build_lalr_states.Goals as goal

pub returns-in-Canonical-clause-targets : goal.returns-in-Canonical-clause-targets
returns-in-Canonical-clause-targets c =
    let g = c.args.grammar.now in
    if_ok c.collapsed_states.result (λ states. AreLalrWithout g c.args.start states.items)
    (λ states. HaveTargetsWithin (length states.items) states.items)
    (λ states are. lalr_within g c.args.start states.items are) c.collapsed_states.ensures.states
