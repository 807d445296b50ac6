use Rattle.std.proofs.Common.{◌∙◌, arith, subst, sym, ap}
use Rattle.lalrpop_lr1_least_trees.specs.declared.least_counts.rule.Rule.{Rule}
use Rattle.lalrpop_lr1_least_trees.specs.NumberedTrees.{rule_view, rule_views}
use Rattle.lalrpop_lr1_least_trees.specs.Searches.{AddsUses, number_lists}
use Rattle.lalrpop_lr1_least_trees.proofs.RuleLemmas.{rule_at, views_long}
use Rattle.lalrpop_lr1_least_trees.proofs.UseLemmas.{uses_end, uses_more, uses_start, view_long}
use Rattle.lalrpop_lr1_least_trees.proofs.least_counts.uses.uses_of.Goals as goal

pub loop-rule-init : goal.loop-rule-init
loop-rule-init c =
    uses_start (rule_views c.args.rules.now) c.args.names _ (view_long c.in_ok-uses.uses.items ∙ c.in_ok-uses.ensures.count)
    c.in_ok-uses.ensures.empty

pub loop-rule-preserved : goal.loop-rule-preserved
loop-rule-preserved c =
    uses_more (rule_views c.args.rules.now) c.args.names c.loop-rule.rule (number_lists c.loop-rule.uses.items) _
    (rule_view c.index-rules-rule.result)
    (rule_at c.args.rules.now c.loop-rule.rule c.index-rules-rule.result c.loop-rule-test.true c.index-rules-rule.is)
    c.loop-rule.invariant
    (subst (λ xs. AddsUses c.loop-rule.rule xs (number_lists c.loop-rule.uses.items) (number_lists c.add_uses.new.uses.items))
    (c.as_slice.ensures.value ∙ ap (λ (r : Rule). r.right.items) (sym c.index-rules-rule.is)) c.in_ok-add_uses.ensures)

pub returns : goal.returns
returns c =
    uses_end (rule_views c.args.rules.now) c.args.names c.loop-rule.rule (number_lists c.loop-rule.uses.items)
    (omega (arith, c.loop-rule-test.false, views_long c.args.rules.now))
    (omega (arith, c.loop-rule.auto.rule-end, views_long c.args.rules.now)) c.loop-rule.invariant
