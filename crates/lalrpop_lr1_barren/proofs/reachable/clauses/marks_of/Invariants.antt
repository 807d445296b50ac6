use Rattle.std.proofs.Common.{◌≡◌, ◌++◌, drop, map}
use Rattle.std.specs.Option.{is_some}
use Rattle.lalrpop_lr1_barren.proofs.reachable.clauses.marks_of.Given as goal

abbrev pub invariant-loop-entry : goal.invariant-loop-entry
invariant-loop-entry l = l.marks.items ++ map is_some (drop l.entry-index l.table) ≡ map is_some l.table
