use Rattle.std.proofs.Common.{ap}
use Rattle.std.specs.Prelude.{option_map}
use Rattle.lalrpop_grammar.specs.Views.{alternative_view}
use Rattle.lalrpop_grammar_rules.specs.Ranks.{rank_view}
use Rattle.lalrpop_norm_precedence.proofs.BucketLemmas.{put_nowhere}
use Rattle.lalrpop_norm_precedence.proofs.levels.buckets.put_alternative.Goals as goal

pub returns-in-None : goal.returns-in-None
returns-in-None c = λ j.
    put_nowhere c.args.buckets.now (alternative_view c.args.alternative.now) _ (ap (option_map rank_view) c.in-None.is) j
