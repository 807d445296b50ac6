use Rattle.std.proofs.Common.{arith}
use Rattle.lalrpop_lr1_build.proofs.MergeLemmas.{takes_more, takes_none}
use Rattle.lalrpop_lr1_build.proofs.states.merging.add_before.Goals as goal

pub loop-item-init : goal.loop-item-init
loop-item-init g c = takes_none c.args.place c.args.kernel.now c.args.items.now

pub loop-item-preserved : goal.loop-item-preserved
loop-item-preserved g c =
    takes_more c.args.place c.args.kernel.now c.args.items.now c.loop-item.items c.loop-item.rest.now c.in-Some.item.now
    c.in-Some.others.now c.in_ok-try_clone.field-0 c.push.new.self c.loop-item.invariant c.in-Some.ensures.cases.0 (omega arith)
    c.in_ok-try_clone.ensures c.in_ok-push.ensures.ok
