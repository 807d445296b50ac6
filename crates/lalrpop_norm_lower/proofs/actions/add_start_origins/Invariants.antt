use Rattle.std.proofs.Common.{◌≡◌, ◌++◌, drop, map}
use Rattle.lalrpop_grammar.specs.Views.{origin_view}
use Rattle.lalrpop_norm_lower.specs.LoweredLists.{start_origins}
use Rattle.lalrpop_norm_lower.specs.RuleLists.{rules_at}
use Rattle.lalrpop_norm_lower.proofs.actions.add_start_origins.Given as goal

abbrev pub invariant-loop-rule : goal.invariant-loop-rule
invariant-loop-rule l =
    map origin_view l.made ++ start_origins (rules_at (drop l._rule-index l.rules))
    ≡ map origin_view l.fn.made ++ start_origins (rules_at l.rules)
