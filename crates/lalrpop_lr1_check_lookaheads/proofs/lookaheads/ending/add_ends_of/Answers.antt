use Rattle.std.specs.Borrow.{Bor}
use Rattle.lalrpop_grammar_repr.specs.declared.production.Production.{Production}
use Rattle.lalrpop_lr1_check_lookaheads.specs.Ends.{BringsToEnd, end_table}
use Rattle.lalrpop_lr1_check_lookaheads.specs.LookaheadSlots.{slot_key}
use Rattle.lalrpop_lr1_check_lookaheads.proofs.KeyedSetLemmas.{gains_lent, some_all, some_more, some_none}
use Rattle.lalrpop_lr1_check_lookaheads.proofs.PropagationEdgeLemmas.{any_look}
use Rattle.lalrpop_lr1_check_lookaheads.proofs.lookaheads.ending.add_ends_of.Goals as goal

pub add_end-requires : goal.add_end-requires
add_end-requires c = (c.loop-production.invariant any_look).are

pub loop-production-init : goal.loop-production-init
loop-production-init c = λ look.
    some_none (λ (p : Bor Production). BringsToEnd look c.args.states.now (slot_key c.args.slot) c.args.tokens.now p.now)
    (end_table c.args.ends.now) c.requires

pub loop-production-preserved : goal.loop-production-preserved
loop-production-preserved c = λ look.
    some_more (λ (p : Bor Production). BringsToEnd look c.args.states.now (slot_key c.args.slot) c.args.tokens.now p.now)
    (end_table c.args.ends.now) (end_table c.loop-production.ends) (end_table c.add_end.new.ends) c.args.productions.now
    c.loop-production.production-index c.production-item.result c.loop-production-test.true c.production-item.is
    (c.loop-production.invariant look) (c.in_ok-add_end.ensures look)

pub returns : goal.returns
returns c = λ look.
    gains_lent (BringsToEnd look c.args.states.now (slot_key c.args.slot) c.args.tokens.now) (end_table c.args.ends.now)
    (end_table c.loop-production.ends) c.args.productions.now
    (some_all (λ (p : Bor Production). BringsToEnd look c.args.states.now (slot_key c.args.slot) c.args.tokens.now p.now)
    (end_table c.args.ends.now) (end_table c.loop-production.ends) c.args.productions.now c.loop-production.production-index
    c.loop-production-test.false (c.loop-production.invariant look))
