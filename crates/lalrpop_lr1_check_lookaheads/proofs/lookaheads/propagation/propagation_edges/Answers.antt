use Rattle.std.proofs.Common.{◌∙◌, subst, sym}
use Rattle.lalrpop_lr1_first.specs.Listings.{lent}
use Rattle.lalrpop_lr1_first.specs.NumberedGrammars.{table_productions}
use Rattle.lalrpop_lr1_check_lookaheads.specs.PropagationEdges.{ArePropagationEdges, PropagatesBy, PropagatesBySome}
use Rattle.lalrpop_lr1_check_lookaheads.specs.LookaheadSlots.{slot_key}
use Rattle.lalrpop_lr1_check_lookaheads.proofs.SlotLemmas.{key_there, keys_past}
use Rattle.lalrpop_lr1_check_lookaheads.proofs.PropagationEdgeLemmas.{any_look, edges_as, propagation_ends, propagation_more, propagation_starts}
use Rattle.lalrpop_lr1_check_lookaheads.proofs.NamedLemmas.{some_named}
use Rattle.lalrpop_lr1_check_lookaheads.proofs.lookaheads.propagation.propagation_edges.Goals as goal

pub propagate-requires-clause-slots : goal.propagate-requires-clause-slots
propagate-requires-clause-slots c = (c.loop-slot.invariant any_look).are

pub loop-slot-init : goal.loop-slot-init
loop-slot-init c = λ look.
    subst (λ es. ArePropagationEdges c.args.grammar.now look c.args.states.now (table_productions c.args.named.now.table.now) c.args.slots.now
    c.args.slots.now es 0) (sym c.new-edges.ensures.items)
    (propagation_starts c.args.grammar.now look c.args.states.now (table_productions c.args.named.now.table.now) c.args.slots.now c.requires.slots)

pub loop-slot-preserved : goal.loop-slot-preserved
loop-slot-preserved c = λ look.
    let g = c.args.grammar.now in
    let states = c.args.states.now in
    let all = table_productions c.args.named.now.table.now in
    let own = slot_key c.in-Some.slot in
    let listed = lent c.productions_of.result.now in
    let gain = edges_as c.loop-slot.number c.loop-slot.slots c.propagate.new.slots c.loop-slot.edges.items c.propagate.new.edges.items
    (PropagatesBySome g look states own listed) (PropagatesBySome g look states own all)
    (λ key. some_named all listed c.in-Some.slot.name.now c.productions_of.ensures (λ p. PropagatesBy g look states own p key)
    (λ p b. b.0))
    (c.in_ok-propagate.ensures look) in
    propagation_more g look states all c.args.slots.now c.loop-slot.slots c.propagate.new.slots c.loop-slot.edges.items
    c.propagate.new.edges.items c.loop-slot.number own (c.loop-slot.invariant look)
    (key_there c.loop-slot.slots c.loop-slot.number c.in-Some.slot (sym c.slot_at.ensures.slot ∙ c.in-Some.is)) gain

pub returns : goal.returns
returns c = λ look.
    propagation_ends c.args.grammar.now look c.args.states.now (table_productions c.args.named.now.table.now) c.args.slots.now c.loop-slot.slots
    c.loop-slot.edges.items c.loop-slot.number (c.loop-slot.invariant look)
    (keys_past c.loop-slot.slots c.loop-slot.number (sym c.slot_at.ensures.slot ∙ c.in_default.is))
