use Rattle.std.proofs.Common.{refl}
use Rattle.lalrpop_lr1_first.specs.declared.flowing.Edge.{Edge}
use Rattle.lalrpop_lr1_check_lookaheads.specs.LookaheadSlots.{slot_key}
use Rattle.lalrpop_lr1_check_lookaheads.proofs.PropagationEdgeLemmas.{edges_one}
use Rattle.lalrpop_lr1_check_lookaheads.proofs.lookaheads.propagation.add_edge.Goals as goal

pub returns : goal.returns
returns c =
    let e : Edge = record { from = c.args.from; to = c.in_ok-number.number; rest = 0 } in
    edges_one c.args.from c.args.slots.now c.number_of.new.self c.args.edges.now.items c.push.new.self.items (slot_key c.args.to) e
    c.in_ok-number.ensures.gained c.in_ok-push.ensures.items refl refl c.in_ok-number.ensures.at
