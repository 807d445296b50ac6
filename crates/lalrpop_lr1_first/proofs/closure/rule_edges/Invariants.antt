use Rattle.std.proofs.Common.{◌≡◌, take}
use Rattle.std.specs.Prelude.{filter_map}
use Rattle.lalrpop_lr1_first.specs.ClosureTables.{edge_of_rule}
use Rattle.lalrpop_lr1_first.proofs.closure.rule_edges.Given as goal

abbrev pub invariant-loop-rule : goal.invariant-loop-rule
invariant-loop-rule l = l.edges.items ≡ filter_map (edge_of_rule l.table) (take l.rule-index l.table.rules.items)
