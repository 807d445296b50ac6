use Rattle.std.proofs.Common.{◌≡◌, ℕ, ◌++◌, map, drop}
use Rattle.std.specs.Prelude.{None, option_map}
use Rattle.lalrpop_grammar.specs.Views.{alternative_view}
use Rattle.lalrpop_grammar_rules.specs.Ranks.{rank_view}
use Rattle.lalrpop_norm_precedence.specs.LevelBuckets.{bucket_at, of_level, ranked_from}
use Rattle.lalrpop_norm_precedence.proofs.levels.buckets.by_levels.Given as goal

abbrev pub invariant-loop-alternative : goal.invariant-loop-alternative
invariant-loop-alternative l =
    (j : ℕ) → bucket_at l.buckets j
    ++ of_level j (ranked_from (option_map rank_view l.last) (map alternative_view (drop l.alternative-index l.alternatives)))
    ≡ of_level j (ranked_from None (map alternative_view l.alternatives))
