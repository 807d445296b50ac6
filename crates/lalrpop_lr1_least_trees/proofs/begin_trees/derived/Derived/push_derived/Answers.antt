use Rattle.lalrpop_lr1_least_trees.specs.NumberedTrees.{rule_view}
use Rattle.lalrpop_lr1_least_trees.proofs.PushLemmas.{adds_all}
use Rattle.lalrpop_lr1_least_trees.proofs.begin_trees.derived.Derived.push_derived.Goals as goal

pub returns : goal.returns
returns c =
    adds_all c.args.names c.args.wanted c.args.number (rule_view c.args.rule.now) c.args.self.now c.push_whole.new.self
    c.push_empty.new.self
    c.push_begins.new.self c.in_ok-push_whole.ensures c.in_ok-push_empty.ensures c.in_ok-push_begins.ensures
