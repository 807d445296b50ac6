use Rattle.std.proofs.Common.{◌≡◌, arith, length, subst}
use Rattle.lalrpop_lr1_least_trees.specs.NumberedTrees.{rule_view, rule_views}
use Rattle.lalrpop_lr1_least_trees.proofs.RuleLemmas.{rule_at}
use Rattle.lalrpop_lr1_least_trees.specs.DerivedRules.{AreDerived}
use Rattle.lalrpop_lr1_least_trees.proofs.PushLemmas.{derived_more}
use Rattle.lalrpop_lr1_least_trees.proofs.begin_trees.derived.derived_rules.Goals as goal

pub loop-number-init : goal.loop-number-init
loop-number-init c = c.none-derived.ensures c.args.names c.args.wanted (rule_views c.args.rules.now)

pub loop-number-preserved : goal.loop-number-preserved
loop-number-preserved c =
    let rules = c.args.rules.now in
    let i = c.loop-number.number in
    let rule = c.index-rules-number.result in
    derived_more c.args.names c.args.wanted (rule_views rules) i (rule_view rule) c.loop-number.derived c.push_derived.new.self
    (rule_at rules i rule c.loop-number-test.true c.index-rules-number.is) c.loop-number.invariant c.in_ok-push_derived.ensures

pub returns : goal.returns
returns c =
    let all : c.loop-number.number ≡ length c.args.rules.now = omega (arith, c.loop-number-test.false, c.loop-number.auto.number-end) in
    subst (λ n. AreDerived c.args.names c.args.wanted (rule_views c.args.rules.now) n c.loop-number.derived) all c.loop-number.invariant
