use Rattle.std.proofs.Common.{◌≡◌, ◌++◌, map, length}
use Rattle.lalrpop_grammar.specs.Views.{nonterminal_view}
use Rattle.lalrpop_grammar_rules.specs.Scopes.{binding_view}
use Rattle.lalrpop_norm_precedence.specs.LevelTables.{named_level_view}
use Rattle.lalrpop_norm_precedence.specs.LevelBuckets.{bucket_at}
use Rattle.lalrpop_norm_precedence.specs.RulesByNames.{rules_by_names}
use Rattle.lalrpop_norm_precedence.proofs.levels.rules.rules_at_levels.Given as goal

abbrev pub invariant-loop-own : goal.invariant-loop-own
invariant-loop-own l =
    map nonterminal_view l.made
    ++ rules_by_names (nonterminal_view l.leveled.rule.now) (binding_view l.leveled.binding) (named_level_view l.leveled.loosest.now)
    (bucket_at l.leveled.buckets.now) (map named_level_view l.left)
    ≡ rules_by_names (nonterminal_view l.leveled.rule.now) (binding_view l.leveled.binding) (named_level_view l.leveled.loosest.now)
    (bucket_at l.leveled.buckets.now) (map named_level_view l.initial.left)

abbrev pub decreases-loop-own : goal.decreases-loop-own
decreases-loop-own l = length l.left
