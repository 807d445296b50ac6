use Rattle.std.proofs.Common.{◌≡◌, map, take}
use Rattle.lalrpop_grammar_rules.specs.Details.{with_tighter_level}
use Rattle.lalrpop_grammar_rules.proofs.rule.with_tighter.Given as goal

abbrev pub invariant-loop-choice : goal.invariant-loop-choice
invariant-loop-choice l = l.choices ≡ map (with_tighter_level l.levels) (take l.choice-index l.ranked)
