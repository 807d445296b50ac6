use Rattle.std.proofs.Common.{take}
use Rattle.lalrpop_lr1_least_trees.specs.NumberedTrees.{rule_view}
use Rattle.lalrpop_lr1_least_trees.specs.DerivedRules.{AddsDerived, AreNames, IsBeginBelow}
use Rattle.lalrpop_lr1_least_trees.proofs.begin_trees.derived.Derived.push_begins.Given as goal

abbrev pub invariant-loop-place : goal.invariant-loop-place
invariant-loop-place l = record {
  adds : AddsDerived l.number (IsBeginBelow l.names l.wanted (rule_view l.rule) l.place) l.initial.self l.self;
  names : AreNames l.names (take l.place l.right);
}
