use Rattle.lalrpop_lane_theory.proofs.AgreeLemmas.{ends_agree}
use Rattle.lalrpop_lane_theory.proofs.answers_agree.Goals as goal

pub returns : goal.returns
returns c = λ grammar s states others alone ok other w limit a b e f.
    ends_agree grammar s states others alone ok other w limit a b e f
