use Rattle.std.proofs.Common.{◌≡◌, ◌++◌, drop, map}
use Rattle.lalrpop_lr1_barren.specs.Clauses.{clause_view}
use Rattle.lalrpop_lr1_barren.specs.RuleClauses.{tree_of_rule}
use Rattle.lalrpop_lr1_barren.proofs.reachable.rule_names.tree_clauses_of.Given as goal

abbrev pub invariant-loop-rule : goal.invariant-loop-rule
invariant-loop-rule l =
    map clause_view l.clauses.items ++ map (tree_of_rule l.table) (drop l.rule-index l.rules) ≡ map (tree_of_rule l.table) l.rules
