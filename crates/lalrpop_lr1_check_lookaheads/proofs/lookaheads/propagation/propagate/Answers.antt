use Rattle.std.specs.Borrow.{Bor}
use Rattle.lalrpop_grammar_repr.specs.declared.production.Production.{Production}
use Rattle.lalrpop_lr1_check_lookaheads.specs.PropagationEdges.{PropagatesBy}
use Rattle.lalrpop_lr1_check_lookaheads.specs.LookaheadSlots.{slot_key}
use Rattle.lalrpop_lr1_check_lookaheads.proofs.PropagationEdgeLemmas.{any_look, propagates_all, propagates_lent, propagates_more, propagates_none}
use Rattle.lalrpop_lr1_check_lookaheads.proofs.lookaheads.propagation.propagate.Goals as goal

pub propagate_by-requires-clause-slots : goal.propagate_by-requires-clause-slots
propagate_by-requires-clause-slots c = (c.loop-production.invariant any_look).are

pub loop-production-init : goal.loop-production-init
loop-production-init c = λ look.
    propagates_none c.args.from (λ (p : Bor Production). PropagatesBy c.args.grammar.now look c.args.states.now (slot_key c.args.slot) p.now)
    c.args.slots.now c.args.edges.now.items c.requires.slots

pub loop-production-preserved : goal.loop-production-preserved
loop-production-preserved c = λ look.
    propagates_more c.args.from (λ (p : Bor Production). PropagatesBy c.args.grammar.now look c.args.states.now (slot_key c.args.slot) p.now)
    c.args.slots.now c.loop-production.slots c.propagate_by.new.slots c.args.edges.now.items c.loop-production.edges.items
    c.propagate_by.new.edges.items c.args.productions.now c.loop-production.production-index c.production-item.result
    c.loop-production-test.true c.production-item.is (c.loop-production.invariant look) (c.in_ok-propagate_by.ensures look)

pub returns : goal.returns
returns c = λ look.
    propagates_lent c.args.from (PropagatesBy c.args.grammar.now look c.args.states.now (slot_key c.args.slot)) c.args.slots.now
    c.loop-production.slots c.args.edges.now.items c.loop-production.edges.items c.args.productions.now
    (propagates_all c.args.from (λ (p : Bor Production). PropagatesBy c.args.grammar.now look c.args.states.now (slot_key c.args.slot) p.now)
    c.args.slots.now c.loop-production.slots c.args.edges.now.items c.loop-production.edges.items c.args.productions.now
    c.loop-production.production-index c.loop-production-test.false (c.loop-production.invariant look))
