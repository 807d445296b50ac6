use Rattle.std.proofs.Common.{◌≡◌, ◌++◌, drop, map}
use Rattle.std.specs.Prelude.{flat_map}
use Rattle.lalrpop_lr1_barren.specs.Clauses.{clause_view}
use Rattle.lalrpop_lr1_barren.specs.RuleClauses.{reach_of_rule}
use Rattle.lalrpop_lr1_barren.proofs.reachable.rule_names.reach_clauses_of.Given as goal

abbrev pub invariant-loop-rule : goal.invariant-loop-rule
invariant-loop-rule l =
    map clause_view l.clauses.items ++ flat_map (reach_of_rule l.table) (drop l.rule-index l.rules)
    ≡ flat_map (reach_of_rule l.table) l.rules
