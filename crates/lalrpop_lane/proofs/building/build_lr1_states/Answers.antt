use Rattle.std.proofs.Common.{length}
use Rattle.lalrpop_lr1_build.specs.BuiltStates.{AreCanonicalWithout}
use Rattle.lalrpop_lr1_build.specs.Renumbering.{HaveTargetsWithin}
use Rattle.lalrpop_lane.proofs.AnswerLemmas.{if_ok}
use Rattle.lalrpop_lane.proofs.TargetLemmas.{canonical_within}
use Rattle.lalrpop_lane.proofs.building.build_lr1_states.Goals as goal

pub returns-in-Canonical-clause-targets : goal.returns-in-Canonical-clause-targets
returns-in-Canonical-clause-targets c =
    let g = c.args.grammar.now in
    if_ok c.build_lr1_states_canonical.result (λ states. AreCanonicalWithout g c.args.start states.items)
    (λ states. HaveTargetsWithin (length states.items) states.items)
    (λ states are. canonical_within g c.args.start states.items are) c.build_lr1_states_canonical.ensures.states
