use Rattle.std.proofs.Common.{◌≡◌, ◌<◌, ◌≤◌, ◌∙◌, ℕ, List, [], ap, arith, length, map, subst, sym, take}
use Rattle.std.proofs.lemmas.List.{take_all}
use Rattle.lalrpop_lr1_core.specs.declared.state.State.{State}
use Rattle.lalrpop_lr1_check_lookaheads.specs.ListTests.{GainsElements, HaveSameElements}
use Rattle.lalrpop_lr1_check_lookaheads.specs.ListedItems.{item_key, key_of_item, keys_of_state, keys_of_states}
use Rattle.lalrpop_lr1_check_lookaheads.proofs.GainLemmas.{each_place_more}
use Rattle.lalrpop_lr1_check_lookaheads.proofs.ListedLemmas.{same_more}
use Rattle.lalrpop_lr1_check_lookaheads.proofs.parts.listed.listed_items.Goals as goal

pub loop-state-init : goal.loop-state-init
loop-state-init c =
    let none : map item_key c.new-listed.result.keys ≡ [] = ap (map item_key) c.new-listed.ensures.empty in
    subst (λ l. HaveSameElements l (keys_of_states (take 0 c.args.states.now))) (sym none) (λ x. (λ c. c, λ c. c))

pub loop-state-preserved : goal.loop-state-preserved
loop-state-preserved c =
    let i = c.loop-state.state in
    let states = c.args.states.now in
    let st = c.index-states-state.result in
    let here : i < length states = omega arith in
    let gained : GainsElements (map item_key c.loop-state.listed.keys) (map item_key c.list_items.new.listed.keys) (keys_of_state i st) =
    subst (λ l. GainsElements (map item_key c.loop-state.listed.keys) (map item_key c.list_items.new.listed.keys)
    (map (key_of_item i) l)) (c.as_slice.ensures ∙ ap (λ (s : State (List ℕ)). s.items.vec) (sym c.index-states-state.is))
    c.in_ok-list_items.ensures in
    subst (HaveSameElements (map item_key c.list_items.new.listed.keys))
    (sym (each_place_more keys_of_state states i st here c.index-states-state.is))
    (same_more (map item_key c.loop-state.listed.keys) (map item_key c.list_items.new.listed.keys) (keys_of_states (take i states))
    (keys_of_state i st) c.loop-state.invariant gained)

pub returns : goal.returns
returns c =
    let end : length c.args.states.now ≤ c.loop-state.state = omega arith in
    subst (λ l. HaveSameElements (map item_key c.loop-state.listed.keys) (keys_of_states l))
    (take_all c.loop-state.state c.args.states.now end) c.loop-state.invariant
