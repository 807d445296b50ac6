-- The alternatives of a rule with levels, each with its rank, and those of each level; for the program's table of them.
use Rattle.std.specs.Prelude.{ℕ, List, [], ◌∷◌, ◌++◌, ◌≡◌, Option, map, filter, unwrap_or}
use Rattle.std.specs.Ordering.{nat_cmp}
use Rattle.std.specs.BTreeMap.{BTreeMap, get}
use Rattle.lalrpop_grammar.specs.WrittenGrammar.{Alternative}
use Rattle.lalrpop_grammar_language.specs.Levels.{Rank}
use Rattle.lalrpop_norm_theory.specs.LeveledGrammar.{has_rank_level}
use Rattle.lalrpop_norm_precedence.specs.LevelSearch.{next_rank_of}
use Rattle.lalrpop_norm_precedence.specs.NamedAlternatives.{ranked_alternative_view}
use Rattle.lalrpop_norm_precedence.specs.declared.levels.alternatives.RankedAlternative.{RankedAlternative}

-- the alternatives with their ranks, after one of that rank
abbrev pub ranked_from : Option Rank → List Alternative → List (Alternative × Option Rank)
ranked_from last [] = []
ranked_from last (a ∷ more) = (a, next_rank_of last a) ∷ ranked_from (next_rank_of last a) more

-- those of a level
abbrev pub of_level : ℕ → List (Alternative × Option Rank) → List (Alternative × Option Rank)
of_level j ps = filter (λ p. has_rank_level j p.1) ps

abbrev pub Buckets : Type 0
Buckets = BTreeMap ℕ (List RankedAlternative)

-- what the table has of a level
abbrev pub bucket_at : Buckets → ℕ → List (Alternative × Option Rank)
bucket_at m j = map ranked_alternative_view (unwrap_or (get nat_cmp m j) [])

-- the alternatives are put behind the others of their levels
abbrev pub PutsRanked : Buckets → Buckets → List (Alternative × Option Rank) → Type 0
PutsRanked old new ps = (j : ℕ) → bucket_at new j ≡ bucket_at old j ++ of_level j ps
