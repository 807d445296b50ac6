use Rattle.std.proofs.Common.{◌∙◌, ◌<◌, ◌≤◌, ℕ, List, ap, arith, length, subst, sym}
use Rattle.lalrpop_lr1_core.specs.declared.state.State.{State}
use Rattle.lalrpop_lr1_check_lookaheads.specs.Brought.{ItemBrings}
use Rattle.lalrpop_lr1_check_lookaheads.specs.KeyedSets.{OfSome}
use Rattle.lalrpop_lr1_check_lookaheads.specs.LookaheadSlots.{GainsSlotMarks, slot_table}
use Rattle.lalrpop_lr1_check_lookaheads.proofs.KeyedSetLemmas.{first_all, first_more}
use Rattle.lalrpop_lr1_check_lookaheads.proofs.lookaheads.seeds.seed_all_items.Goals as goal

pub loop-state-preserved : goal.loop-state-preserved
loop-state-preserved c =
    let n = c.loop-state.state in
    let here : n < length c.args.states.now = omega arith in
    first_more (λ n (state : State (List ℕ)). OfSome (ItemBrings c.args.grammar.now n) state.items.vec) c.args.states.now
    (slot_table c.args.slots.now) (slot_table c.loop-state.slots) (slot_table c.seed_items.new.slots) n c.index-states-state.result here c.index-states-state.is
    c.loop-state.invariant
    (subst (λ l. GainsSlotMarks c.loop-state.slots c.seed_items.new.slots (OfSome (ItemBrings c.args.grammar.now n) l))
    (c.as_slice-items.ensures ∙ ap (λ (s : State (List ℕ)). s.items.vec) (sym c.index-states-state.is))
    c.in_ok-seed_items.ensures)

pub returns : goal.returns
returns c =
    let end : length c.args.states.now ≤ c.loop-state.state = omega arith in
    first_all (λ n (state : State (List ℕ)). OfSome (ItemBrings c.args.grammar.now n) state.items.vec) c.args.states.now
    (slot_table c.args.slots.now) (slot_table c.loop-state.slots) c.loop-state.state end c.loop-state.invariant
