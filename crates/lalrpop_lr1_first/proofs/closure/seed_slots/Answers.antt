use Rattle.std.proofs.Common.{subst, sym, take}
use Rattle.lalrpop_lr1_first.specs.ClosureTables.{SeedsAll}
use Rattle.lalrpop_lr1_first.proofs.AddLemmas.{taken_more}
use Rattle.lalrpop_lr1_first.proofs.SeedLemmas.{seeds_more, seeds_none}
use Rattle.lalrpop_lr1_first.proofs.closure.seed_slots.Goals as goal

pub loop-item-init : goal.loop-item-init
loop-item-init g c = seeds_none g.L.ClosureLookahead.marks g.L.ClosureLookahead.firsts c.args.closures.now.numbered
    c.args.closures.now.firsts.items c.args.slots.now.items c.requires.count c.requires.empty

pub seed_slot-requires-clause-lookahead : goal.seed_slot-requires-clause-lookahead
seed_slot-requires-clause-lookahead g c = λ k h. c.requires.marks c.item-item.result.0 k
    (c.item-item.result.1, (c.loop-item.item-index, c.loop-item-test.true, sym c.item-item.is), h)

pub loop-item-preserved : goal.loop-item-preserved
loop-item-preserved g c =
    let marks = g.L.ClosureLookahead.marks in
    let counts = g.L.ClosureLookahead.firsts in
    let t = c.args.closures.now.numbered in
    let rests = c.args.closures.now.firsts.items in
    let seed = c.args.seed.now in
    let i = c.loop-item.item-index in
    subst (λ xs. SeedsAll marks counts t rests xs c.seed_slot.new.slots.items)
    (sym (taken_more seed i c.item-item.result c.loop-item-test.true c.item-item.is))
    (seeds_more marks counts t rests (take i seed) c.item-item.result c.loop-item.slots.items c.seed_slot.new.slots.items
    c.loop-item.invariant c.in_ok-seed_slot.ensures.seeded c.seed_slot.ensures.count)
