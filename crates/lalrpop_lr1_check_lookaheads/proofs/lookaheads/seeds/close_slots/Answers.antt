use Rattle.std.proofs.Common.{◌∙◌, sym}
use Rattle.lalrpop_lr1_first.specs.Listings.{lent}
use Rattle.lalrpop_lr1_first.specs.NumberedGrammars.{table_productions}
use Rattle.lalrpop_lr1_check_lookaheads.specs.Brought.{BeginBrings}
use Rattle.lalrpop_lr1_check_lookaheads.specs.KeyedSets.{OfSome}
use Rattle.lalrpop_lr1_check_lookaheads.specs.LookaheadSlots.{GainsSlotMarks, slot_key, slot_table}
use Rattle.lalrpop_lr1_check_lookaheads.proofs.BroughtLemmas.{closing_ends, closing_more, closing_starts}
use Rattle.lalrpop_lr1_check_lookaheads.proofs.NamedLemmas.{some_named}
use Rattle.lalrpop_lr1_check_lookaheads.proofs.KeyedSetLemmas.{gains_as}
use Rattle.lalrpop_lr1_check_lookaheads.proofs.SlotLemmas.{key_there, keys_past}
use Rattle.lalrpop_lr1_check_lookaheads.proofs.lookaheads.seeds.close_slots.Goals as goal

pub loop-slot-init : goal.loop-slot-init
loop-slot-init c =
    closing_starts c.args.grammar.now (table_productions c.args.named.now.table.now) c.args.slots.now c.requires.slots

pub loop-slot-preserved : goal.loop-slot-preserved
loop-slot-preserved c =
    let g = c.args.grammar.now in
    let all = table_productions c.args.named.now.table.now in
    let own = slot_key c.in-Some.slot in
    let listed = lent c.productions_of-productions.result.now in
    let gain : GainsSlotMarks c.loop-slot.slots c.seed_begins.new.slots (OfSome (BeginBrings g own) all) =
    gains_as (slot_table c.loop-slot.slots) (slot_table c.seed_begins.new.slots) (OfSome (BeginBrings g own) listed) (OfSome (BeginBrings g own) all)
    (λ key mark. some_named all listed c.in-Some.slot.name.now c.productions_of-productions.ensures
    (λ p. BeginBrings g own p key mark) (λ p b. b.0))
    c.in_ok-seed_begins.ensures in
    closing_more g all c.args.slots.now c.loop-slot.slots c.seed_begins.new.slots c.loop-slot.number own c.loop-slot.invariant
    (key_there c.loop-slot.slots c.loop-slot.number c.in-Some.slot (sym c.slot_at.ensures.slot ∙ c.in-Some.is)) gain

pub returns : goal.returns
returns c =
    closing_ends c.args.grammar.now (table_productions c.args.named.now.table.now) c.args.slots.now c.loop-slot.slots
    c.loop-slot.number c.loop-slot.invariant
    (keys_past c.loop-slot.slots c.loop-slot.number (sym c.slot_at.ensures.slot ∙ c.in_default.is))
