use Rattle.std.proofs.Common.{◌∙◌, ◌<◌, ◌≤◌, List, Some, ap, arith, get_or, length, subst}
use Rattle.std.proofs.lemmas.Option.{slice_get-get_or}
use Rattle.lalrpop_lr1_least_trees.specs.Searches.{number_lists}
use Rattle.lalrpop_lr1_least_trees.proofs.UseLemmas.{view_long}
use Rattle.lalrpop_lr1_first.specs.declared.place.NumberedRule.{NumberedRule}
use Rattle.lalrpop_lr1_check.specs.BeginClauses.{begin_to}
use Rattle.lalrpop_lr1_check.specs.BeginLists.{AddsBegins}
use Rattle.lalrpop_lr1_check.proofs.BeginLemmas.{left_within}
use Rattle.lalrpop_lr1_check.proofs.RuleListLemmas.{rules_end, rules_more, rules_none}
use Rattle.lalrpop_lr1_check.proofs.closure.name_lists.rule_lists.Goals as goal

abbrev none : NumberedRule
none = record { left = 0; start = 0 }

pub loop-number-init : goal.loop-number-init
loop-number-init c = (
  view_long c.in_ok-lists.lists.items ∙ c.in_ok-lists.ensures.count ∙ ap length c.names.ensures,
  rules_none c.args.table.now.rules.items (number_lists c.in_ok-lists.lists.items) c.in_ok-lists.ensures.empty,
)

pub add_name-requires : goal.add_name-requires
add_name-requires c =
    omega (
      arith,
      left_within c.args.table.now c.requires c.rules-rules.result.now c.loop-number.number none c.rules-rules.ensures
          c.loop-number-test.true,
      c.loop-number.invariant.0,
      view_long c.loop-number.lists.items,
    )

pub loop-number-preserved : goal.loop-number-preserved
loop-number-preserved c =
    let t = c.args.table.now in
    let k = c.loop-number.number in
    let old = number_lists c.loop-number.lists.items in
    let new = number_lists c.add_name.new.begins.items in
    let inside : k < length t.rules.items = omega (arith, c.loop-number-test.true, ap length c.rules-rules.ensures) in
    let rule = get_or t.rules.items k none in
    let adds : AddsBegins (begin_to rule.left (Some k)) old new =
    subst (λ (l : List NumberedRule). AddsBegins (begin_to (get_or l k none).left (Some k)) old new) c.rules-rules.ensures
    c.in_ok-add_name.ensures in (
      adds.count ∙ c.loop-number.invariant.0,
      rules_more t.rules.items k rule old new (slice_get-get_or t.rules.items k none inside) c.loop-number.invariant.1 adds,
    )

pub returns : goal.returns
returns c =
    let t = c.args.table.now in
    let past : length t.rules.items ≤ c.loop-number.number =
    omega (arith, c.loop-number-test.false, ap length c.rules-rules.ensures) in
    rules_end t c.loop-number.number (number_lists c.loop-number.lists.items) past c.loop-number.invariant.0
    c.loop-number.invariant.1
