use Rattle.std.proofs.Common.{◌<◌, ◌≤◌, arith, length}
use Rattle.lalrpop_lr1_build.proofs.ItemLemmas.{joined_taken, joined_whole}
use Rattle.lalrpop_lr1_build.proofs.ListLemmas.{get_here}
use Rattle.lalrpop_lr1_build.proofs.collapse.joining.join_items.Goals as goal

pub loop-place-preserved : goal.loop-place-preserved
loop-place-preserved c =
    let ones = c.args.ones.now in
    let others = c.args.others.now in
    let i = c.loop-place.place in
    let a = c.index-ones-place.result in
    let b = c.index-others-place.result in
    let here : i < length ones = omega arith in
    let there : i < length others = omega (arith, here, c.requires) in
    joined_taken ones others c.loop-place.joined c.push.new.self i a b c.in_ok-join_item.field-0
    (get_here ones i a here c.index-ones-place.is) (get_here others i b there c.index-others-place.is) c.loop-place.invariant
    c.in_ok-join_item.ensures c.in_ok-push.ensures.ok

pub returns : goal.returns
returns c =
    let end : length c.args.ones.now ≤ c.loop-place.place = omega arith in
    joined_whole c.args.ones.now c.args.others.now c.loop-place.joined c.loop-place.place end (omega (arith, end, c.requires))
    c.loop-place.invariant
