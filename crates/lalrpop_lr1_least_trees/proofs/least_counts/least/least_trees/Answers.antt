use Rattle.std.proofs.Common.{◌∙◌, ◌<◌, ℕ, Contains, arith, length, subst, sym, ap}
use Rattle.lalrpop_lr1_least_trees.specs.NumberedTrees.{rule_view, rule_views}
use Rattle.lalrpop_lr1_least_trees.specs.Searches.{IsQueue, number_lists, rules_again}
use Rattle.lalrpop_lr1_least_trees.proofs.QueueLemmas.{none_taken}
use Rattle.lalrpop_lr1_least_trees.proofs.RuleLemmas.{rule_at, views_long}
use Rattle.lalrpop_lr1_least_trees.proofs.SearchLemmas.{again_within, search_ends, search_starts, search_step, step_smaller}
use Rattle.lalrpop_lr1_least_trees.proofs.UseLemmas.{view_long}
use Rattle.lalrpop_lr1_least_trees.proofs.least_counts.least.least_trees.Goals as goal

pub loop-number-init : goal.loop-number-init
loop-number-init c =
    let rules = c.args.rules.now in
    let long = sym (views_long rules) in
    search_starts (rule_views rules) c.args.names c.args.leaves c.in_ok-table.table.items c.in_ok-waiting.waiting
    c.in_ok-table.ensures.count
    c.in_ok-table.ensures.none (subst (λ n. IsQueue n c.in_ok-waiting.waiting) long c.in_ok-waiting.ensures.queue)
    (λ r h. c.in_ok-waiting.ensures.all r (omega (arith, h, long)))

pub try_rule-fell-requires : goal.try_rule-fell-requires
try_rule-fell-requires c =
    let n = c.in-Some.number in
    let inside : n < length c.args.rules.now = omega (
      arith,
      c.in-Some.ensures.within,
      c.loop-number.invariant.queue.long,
      views_long
          c.args.rules.now,
    ) in
    let at = rule_at c.args.rules.now n c.index-rules-number.result inside c.index-rules-number.is in
    omega (arith, c.requires n (rule_view c.index-rules-number.result) at, c.loop-number.invariant.count)

pub rules_again-requires : goal.rules_again-requires
rules_again-requires c =
    let n = c.in-Some.number in
    let inside : n < length c.args.rules.now = omega (
      arith,
      c.in-Some.ensures.within,
      c.loop-number.invariant.queue.long,
      views_long
          c.args.rules.now,
    ) in
    let at = rule_at c.args.rules.now n c.index-rules-number.result inside c.index-rules-number.is in
    omega (
      arith,
      c.requires n (rule_view c.index-rules-number.result) at,
      c.in_ok-uses.ensures.count,
      view_long c.in_ok-uses.uses.items,
      ap length c.as_slice.ensures.value,
    )

pub push_all-requires-clause-within : goal.push_all-requires-clause-within
push_all-requires-clause-within c =
    let again = c.rules_again.ensures
    ∙ ap (λ us. rules_again (number_lists us) c.index-rules-number.result.left c.try_rule-fell.result) c.as_slice.ensures.value in
    λ r d.
    let below = again_within (rule_views c.args.rules.now) c.args.names c.args.leaves (number_lists c.in_ok-uses.uses.items)
    c.in_ok-uses.ensures
    c.index-rules-number.result.left c.try_rule-fell.result r (subst (λ l. Contains l r) again d) in
    omega (arith, below, c.in-Some.ensures.queue.long, c.loop-number.invariant.queue.long)

pub loop-number-smaller : goal.loop-number-smaller
loop-number-smaller c =
    let rules = c.args.rules.now in
    let n = c.in-Some.number in
    let rule = c.index-rules-number.result in
    let inside : n < length rules = omega (arith, c.in-Some.ensures.within, c.loop-number.invariant.queue.long, views_long rules) in
    let at = rule_at rules n rule inside c.index-rules-number.is in
    let uses = number_lists c.in_ok-uses.uses.items in
    let again = c.rules_again.ensures ∙ ap (λ us. rules_again (number_lists us) rule.left c.try_rule-fell.result)
    c.as_slice.ensures.value in
    let long = c.in-Some.ensures.queue.long ∙ c.loop-number.invariant.queue.long in
    step_smaller (rule_views rules) c.args.names c.args.leaves c.loop-number.table.items c.try_rule-fell.new.table.items
    c.loop-number.waiting
    c.pop.new.self n (rule_view rule) at c.loop-number.invariant c.in-Some.ensures uses c.in_ok-uses.ensures
    (c.requires n (rule_view rule) at)
    c.try_rule-fell.result c.try_rule-fell.ensures c.push_all.new.self (subst (λ k. IsQueue k c.push_all.new.self) long
    c.in_ok-push_all.ensures.queue)
    c.in_ok-push_all.ensures.kept
    (subst (λ l. (q : ℕ) → Contains l q → Contains c.push_all.new.self.rules.items q) again c.in_ok-push_all.ensures.added)
    (omega (arith, c.in_ok-push_all.ensures.count, ap length again))

pub loop-number-preserved : goal.loop-number-preserved
loop-number-preserved c =
    let rules = c.args.rules.now in
    let n = c.in-Some.number in
    let rule = c.index-rules-number.result in
    let inside : n < length rules = omega (arith, c.in-Some.ensures.within, c.loop-number.invariant.queue.long, views_long rules) in
    let at = rule_at rules n rule inside c.index-rules-number.is in
    let uses = number_lists c.in_ok-uses.uses.items in
    let again = c.rules_again.ensures ∙ ap (λ us. rules_again (number_lists us) rule.left c.try_rule-fell.result)
    c.as_slice.ensures.value in
    let long = c.in-Some.ensures.queue.long ∙ c.loop-number.invariant.queue.long in
    search_step (rule_views rules) c.args.names c.args.leaves c.loop-number.table.items c.try_rule-fell.new.table.items
    c.loop-number.waiting
    c.pop.new.self n (rule_view rule) at c.loop-number.invariant c.in-Some.ensures uses c.in_ok-uses.ensures
    (c.requires n (rule_view rule) at)
    c.try_rule-fell.result c.try_rule-fell.ensures c.push_all.new.self (subst (λ k. IsQueue k c.push_all.new.self) long
    c.in_ok-push_all.ensures.queue)
    c.in_ok-push_all.ensures.kept
    (subst (λ l. (q : ℕ) → Contains l q → Contains c.push_all.new.self.rules.items q) again c.in_ok-push_all.ensures.added)

pub returns : goal.returns
returns c =
    search_ends (rule_views c.args.rules.now) c.args.names c.args.leaves c.loop-number.table.items c.loop-number.waiting
    c.loop-number.invariant
    (none_taken c.pop.result c.loop-number.waiting c.pop.new.self c.pop.ensures c.in_default.not-Some)
