use Rattle.lalrpop_norm_theory.proofs.OccurringLemmas.{written_made}
use Rattle.lalrpop_norm_theory.proofs.place_law.placed_calls_are_made.Goals as goal

pub returns : goal.returns
returns c = λ g d depth x p m. written_made g d depth x p m
