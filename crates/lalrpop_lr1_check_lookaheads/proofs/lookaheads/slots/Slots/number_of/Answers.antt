use Rattle.std.proofs.Common.{◌∙◌, ap, sym, ◌++◌, ◌∷◌, []}
use Rattle.lalrpop_lr1_check_lookaheads.specs.LookaheadSlots.{slot_key}
use Rattle.lalrpop_lr1_check_lookaheads.specs.contracts.lookaheads.slots.SlotPartialEq.TheImpl as slots_eq
use Rattle.lalrpop_lr1_check_lookaheads.proofs.KeyedSetLemmas.{gains_new, gains_old, not_false, not_true, stored_at}
use Rattle.lalrpop_lr1_check_lookaheads.proofs.SlotLemmas.{same_slots}
use Rattle.lalrpop_lr1_check_lookaheads.proofs.lookaheads.slots.Slots.number_of.Goals as goal

pub returns-in_ok-push-clause-at : goal.returns-in_ok-push-clause-at
returns-in_ok-push-clause-at c =
    stored_at slot_key (slots_eq.ghosts).eq same_slots c.insert_full.new.self.keys c.in_ok-number.number c.args.slot
    c.in_ok-number.ensures.stored

pub returns-in_ok-push-clause-gained : goal.returns-in_ok-push-clause-gained
returns-in_ok-push-clause-gained c =
    gains_new slot_key (slots_eq.ghosts).eq same_slots c.args.self.now.keys.keys c.insert_full.new.self.keys c.args.self.now.sets.items
    c.push.new.self.items c.args.slot c.requires (not_true _ (sym c.in_ok-number.ensures.added ∙ c.if-is_new.true))
    c.in_ok-number.ensures.keys
    (c.in_ok-push.ensures.items ∙ ap (λ s. c.args.self.now.sets.items ++ s ∷ []) c.in_ok-new.ensures)

pub returns-else-is_new-clause-at : goal.returns-else-is_new-clause-at
returns-else-is_new-clause-at c =
    stored_at slot_key (slots_eq.ghosts).eq same_slots c.insert_full.new.self.keys c.in_ok-number.number c.args.slot
    c.in_ok-number.ensures.stored

pub returns-else-is_new-clause-gained : goal.returns-else-is_new-clause-gained
returns-else-is_new-clause-gained c =
    gains_old slot_key (slots_eq.ghosts).eq same_slots c.args.self.now.keys.keys c.insert_full.new.self.keys c.args.self.now.sets.items
    c.args.slot c.in_ok-number.number c.requires (not_false _ (sym c.in_ok-number.ensures.added ∙ c.if-is_new.false))
    c.in_ok-number.ensures.keys
    (stored_at slot_key (slots_eq.ghosts).eq same_slots c.insert_full.new.self.keys c.in_ok-number.number c.args.slot
    c.in_ok-number.ensures.stored)
