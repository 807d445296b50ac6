use Rattle.std.proofs.Common.{◌≡◌, ◌++◌, drop}
use Rattle.lalrpop_lr1_barren.specs.RuleClauses.{are_names}
use Rattle.lalrpop_lr1_barren.proofs.reachable.rule_names.names_in.Given as goal

abbrev pub invariant-loop-place : goal.invariant-loop-place
invariant-loop-place l = l.names.items ++ are_names l.count (drop l.place-index l.places) ≡ are_names l.count l.places
