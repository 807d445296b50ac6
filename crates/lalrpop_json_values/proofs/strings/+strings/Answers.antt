use Rattle.std.proofs.Common.{◌≤◌, rules, arith, ap, ◌∙◌}
use Rattle.serde_json.specs.Data.{depth, items_depth}
use Rattle.lalrpop_json_document.specs.DocumentViews.{view, items_view}
use Rattle.lalrpop_json_values.specs.Prefix.{longest_of}
use Rattle.lalrpop_json_values.specs.Strings.{strings}
use Rattle.lalrpop_json_values.proofs.StringRunLemmas.{below_members, below_values, item_more, member_more}
use Rattle.lalrpop_json_values.proofs.strings.+strings.Goals as goal

pub longest_in_items-longest_in-requires : goal.longest_in_items-longest_in-requires
longest_in_items-longest_in-requires t c =
    let below = below_values c.args.items.now c.loop-item.item-index c.item-item.result c.loop-item-test.true in
    let is_item = ap (λ v. depth (view v)) c.item-item.is in
    let within : depth (view c.item-item.result) ≤ items_depth (items_view c.args.items.now) = omega (arith, below, is_item) in
    search (rules, within)

pub longest_in_items-loop-item-preserved : goal.longest_in_items-loop-item-preserved
longest_in_items-loop-item-preserved t c =
    let here = c.longest_in.ensures ∙ ap (λ v. longest_of (strings (view v))) c.item-item.is in
    item_more c.args.items.now c.loop-item.longest c.longest_in.result c.larger-longest.result c.loop-item.item-index c.item-item.result
    c.loop-item-test.true here c.larger-longest.ensures c.loop-item.invariant

pub longest_in_members-longest_in-requires : goal.longest_in_members-longest_in-requires
longest_in_members-longest_in-requires t c =
    let within =
    below_members c.args.members.now.items _ c.loop-member.member-index _ c.deref-member-items.ensures.value c.loop-member-test.true
    c.loop-member-item.is in
    search (rules, within)

pub longest_in_members-loop-member-preserved : goal.longest_in_members-loop-member-preserved
longest_in_members-loop-member-preserved t c =
    member_more c.args.members.now.items _ c.loop-member.longest c.longest_in.result c.larger-longest.result c.loop-member.member-index _
    c.deref-member-items.ensures.value c.loop-member-test.true c.loop-member-item.is c.longest_in.ensures c.larger-longest.ensures
    c.loop-member.invariant
