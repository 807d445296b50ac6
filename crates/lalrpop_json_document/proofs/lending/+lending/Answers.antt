use Rattle.std.proofs.Common.{◌≤◌, ◌∙◌, ap, arith, rules, subst}
use Rattle.serde_json.specs.Data.{depth, items_depth, members_depth}
use Rattle.serde_json.specs.View as owned
use Rattle.lalrpop_json_document.specs.DocumentViews.{items_view}
use Rattle.lalrpop_json_document.proofs.LendingLemmas.{AreLentSoFar, below_items, below_members, one_more_item, one_more_member}
use Rattle.lalrpop_json_document.proofs.lending.+lending.Goals as goal

pub lend_items-lend_value-requires : goal.lend_items-lend_value-requires
lend_items-lend_value-requires t c =
    let below = below_items c.args.items.now c.loop-item.item-index c.item-item.result c.loop-item-test.true in
    let is_item = ap (λ v. depth (owned.view v)) c.item-item.is in
    let within : depth (owned.view c.item-item.result) ≤ items_depth (owned.items_view c.args.items.now) = omega (arith, below, is_item) in
    search (rules, within)

pub lend_items-loop-item-preserved : goal.lend_items-loop-item-preserved
lend_items-loop-item-preserved t c =
    ap items_view c.in_ok-push.ensures.items
    ∙ one_more_item c.args.items.now c.loop-item.item-index c.item-item.result c.loop-item.lent.items c.in_ok-lend_value.field-0
    c.loop-item-test.true c.loop-item.invariant (c.in_ok-lend_value.ensures ∙ ap owned.view c.item-item.is)

pub lend_members-lend_value-requires : goal.lend_members-lend_value-requires
lend_members-lend_value-requires t c =
    let so_far = subst (λ l. AreLentSoFar c.args.members.now.entries l c.loop-key.lent.items) c.in-Some.ensures.steps c.loop-key.invariant in
    let within : depth (owned.view c.in-Some.value.now) ≤ members_depth (owned.members_view c.args.members.now.entries) =
    below_members c.args.members.now.entries c.next.new.self c.loop-key.lent.items c.in-Some.key.now c.in-Some.value.now so_far in
    search (rules, within)

pub lend_members-loop-key-preserved : goal.lend_members-loop-key-preserved
lend_members-loop-key-preserved t c =
    let so_far = subst (λ l. AreLentSoFar c.args.members.now.entries l c.loop-key.lent.items) c.in-Some.ensures.steps c.loop-key.invariant in
    one_more_member c.args.members.now.entries c.next.new.self c.loop-key.lent.items c.push.new.self.items c.in-Some.key.now
    c.in-Some.value.now (c.as_str.result, c.in_ok-member.member) so_far c.as_str.ensures.value c.in_ok-member.ensures
    c.in_ok-push.ensures.items
