use Rattle.std.proofs.Common.{◌∙◌, sym, subst}
use Rattle.lalrpop_lr1_first.specs.Listings.{lent}
use Rattle.lalrpop_lr1_first.specs.NumberedGrammars.{table_productions}
use Rattle.lalrpop_lr1_check_lookaheads.specs.Ends.{BringsToEnd, SlotBringsToEnd, end_table}
use Rattle.lalrpop_lr1_check_lookaheads.specs.KeyedSets.{OfSome}
use Rattle.lalrpop_lr1_check_lookaheads.specs.LookaheadSlots.{slot_key, slot_keys}
use Rattle.lalrpop_lr1_check_lookaheads.proofs.EndKeyLemmas.{gains_none, no_slot, none_flow, slot_brings}
use Rattle.lalrpop_lr1_check_lookaheads.proofs.KeyedSetLemmas.{gains_as}
use Rattle.lalrpop_lr1_check_lookaheads.proofs.NamedLemmas.{some_named}
use Rattle.lalrpop_lr1_check_lookaheads.proofs.SlotLemmas.{key_there, keys_past}
use Rattle.lalrpop_lr1_check_lookaheads.proofs.lookaheads.ending.add_ends_from.Goals as goal

pub returns-in-None : goal.returns-in-None
returns-in-None c = λ look.
    gains_none c.args.ends.now
    (SlotBringsToEnd look c.args.states.now (table_productions c.args.named.now.table.now) (slot_keys c.args.slots.now) c.args.number
    c.args.tokens.now) c.requires.ends
    (λ end mark b. none_flow look c.args.states.now (table_productions c.args.named.now.table.now) (slot_keys c.args.slots.now)
    c.args.number end mark
    (subst (λ o. SlotBringsToEnd look c.args.states.now (table_productions c.args.named.now.table.now) (slot_keys c.args.slots.now)
    c.args.number o end mark) c.in-None.is b))

pub returns-in-None-slot_at : goal.returns-in-None-slot_at
returns-in-None-slot_at c = λ look.
    gains_none c.args.ends.now
    (SlotBringsToEnd look c.args.states.now (table_productions c.args.named.now.table.now) (slot_keys c.args.slots.now) c.args.number
    c.args.tokens.now) c.requires.ends
    (no_slot look c.args.states.now (table_productions c.args.named.now.table.now) (slot_keys c.args.slots.now) c.args.number
    c.args.tokens.now
    (keys_past c.args.slots.now c.args.number (sym c.slot_at.ensures.slot ∙ c.in-None-slot_at.is)))

pub returns-in_ok-add_ends_of-in-Some-slot_at : goal.returns-in_ok-add_ends_of-in-Some-slot_at
returns-in_ok-add_ends_of-in-Some-slot_at c = λ look.
    let states = c.args.states.now in
    let all = table_productions c.args.named.now.table.now in
    let slot = c.in-Some-slot_at.slot in
    let own = slot_key slot in
    let set = c.in-Some.set in
    let listed = lent c.productions_of-productions.result.now in
    let keys = slot_keys c.args.slots.now in
    let at = key_there c.args.slots.now c.args.number slot (sym c.slot_at.ensures.slot ∙ c.in-Some-slot_at.is) in
    gains_as (end_table c.args.ends.now) (end_table c.add_ends_of.new.ends) (OfSome (BringsToEnd look states own set) listed)
    (SlotBringsToEnd look states all keys c.args.number c.args.tokens.now)
    (λ end mark.
    let named = some_named all listed slot.name.now c.productions_of-productions.ensures
    (λ p. BringsToEnd look states own set p end mark) (λ p b. b.name) in
    let brings = slot_brings look states all keys c.args.number own set c.args.tokens.now at c.in-Some.is end mark in
    (λ h. brings.0 (named.0 h), λ h. named.1 (brings.1 h)))
    (c.in_ok-add_ends_of-in-Some-slot_at.ensures look)
