use Rattle.std.proofs.Common.{◌≡◌, ◌++◌, drop}
use Rattle.lalrpop_grammar_rules.specs.Details.{levels_in}
use Rattle.lalrpop_grammar_rules.proofs.rule.levels.Given as goal

abbrev pub invariant-loop-choice : goal.invariant-loop-choice
invariant-loop-choice l = levels_in l.ranked ≡ l.levels.items ++ levels_in (drop l.choice-index l.ranked)
