use Rattle.std.specs.Borrow.{Bor}
use Rattle.lalrpop_grammar_repr.specs.declared.production.Production.{Production}
use Rattle.lalrpop_lr1_check_lookaheads.specs.Brought.{BeginBrings}
use Rattle.lalrpop_lr1_check_lookaheads.specs.LookaheadSlots.{slot_key, slot_table}
use Rattle.lalrpop_lr1_check_lookaheads.proofs.KeyedSetLemmas.{gains_lent, some_all, some_more}
use Rattle.lalrpop_lr1_check_lookaheads.proofs.lookaheads.seeds.seed_begins.Goals as goal

pub loop-production-preserved : goal.loop-production-preserved
loop-production-preserved c =
    some_more (λ (p : Bor Production). BeginBrings c.args.grammar.now (slot_key c.args.slot) p.now) (slot_table c.args.slots.now)
    (slot_table c.loop-production.slots) (slot_table c.seed_begin.new.slots) c.args.productions.now c.loop-production.production-index
    c.production-item.result c.loop-production-test.true c.production-item.is c.loop-production.invariant
    c.in_ok-seed_begin.ensures

pub returns : goal.returns
returns c =
    gains_lent (BeginBrings c.args.grammar.now (slot_key c.args.slot)) (slot_table c.args.slots.now) (slot_table c.loop-production.slots)
    c.args.productions.now
    (some_all (λ (p : Bor Production). BeginBrings c.args.grammar.now (slot_key c.args.slot) p.now) (slot_table c.args.slots.now)
    (slot_table c.loop-production.slots) c.args.productions.now c.loop-production.production-index c.loop-production-test.false
    c.loop-production.invariant)
