use Rattle.std.proofs.Common.{◌∙◌, ◌+◌, ◌<◌, ◌≤◌, ℕ, List, Some, ap, arith, get_or, length, subst, sym}
use Rattle.lalrpop_lr1_core.specs.declared.item.Item.{Item}
use Rattle.lalrpop_lr1_core.specs.declared.state.State.{State}
use Rattle.lalrpop_lr1_build.specs.StateCores.{core_in_state}
use Rattle.lalrpop_lr1_build.specs.JoinedItems.{AreJoinedItems}
use Rattle.lalrpop_lr1_build.proofs.ItemLemmas.{AreJoinedSoFar, joined_done, joined_more, joined_skip, joined_start, long_same}
use Rattle.lalrpop_lr1_build.proofs.ListLemmas.{get_here, index_here}
use Rattle.lalrpop_lr1_first.proofs.TableLemmas.{long_map}
use Rattle.lalrpop_lr1_build.proofs.collapse.joining.join_alike.Goals.{else-numbers-other, then-numbers-other+in_ok-items-2}
use Rattle.lalrpop_lr1_build.proofs.collapse.joining.join_alike.Goals as goal

abbrev vec_of : State (List ℕ) → List (Item (List ℕ))
vec_of state = state.items.vec

pub bounds-numbers-place : goal.bounds-numbers-place
bounds-numbers-place c =
    omega (arith, c.requires.place, c.requires.numbers.count, long_map core_in_state c.args.states.now)

pub offset_bounds-numbers-place : goal.offset_bounds-numbers-place
offset_bounds-numbers-place c =
    omega (arith, c.requires.place, c.requires.numbers.count, long_map core_in_state c.args.states.now)

pub bounds-numbers-other : goal.bounds-numbers-other
bounds-numbers-other c =
    let inside : c.loop-other.other < length c.args.states.now = omega arith in
    omega (arith, inside, c.requires.numbers.count, long_map core_in_state c.args.states.now)

pub offset_bounds-numbers-other : goal.offset_bounds-numbers-other
offset_bounds-numbers-other c =
    let inside : c.loop-other.other < length c.args.states.now = omega arith in
    omega (arith, inside, c.requires.numbers.count, long_map core_in_state c.args.states.now)

pub loop-other-init : goal.loop-other-init
loop-other-init c =
    let states = c.args.states.now in
    let numbers = c.args.numbers.now in
    let place = c.args.place in
    let first = c.index-states-place.result in
    let at = get_here states place first c.requires.place c.index-states-place.is in
    let within : place < length numbers = omega (arith, c.requires.place, c.requires.numbers.count, long_map core_in_state states) in (
      first,
      at,
      joined_start states numbers c.requires.numbers (get_or numbers place 0) first place (index_here numbers place within) at
          c.in_ok-items.items (c.in_ok-items.ensures ∙ c.as_slice.ensures ∙ ap vec_of (sym c.index-states-place.is)),
    )

pub join_items-requires : goal.join_items-requires
join_items-requires c =
    let states = c.args.states.now in
    let numbers = c.args.numbers.now in
    let place = c.args.place in
    let first = c.loop-other.invariant.0 in
    let at = c.loop-other.invariant.1 in
    let other = c.loop-other.other in
    let state = c.index-states-other.result in
    let within : place < length numbers = omega (arith, c.requires.place, c.requires.numbers.count, long_map core_in_state states) in
    let here : other < length states = omega arith in
    let inside : other < length numbers = omega (arith, here, c.requires.numbers.count, long_map core_in_state states) in
    ap length c.as_slice-then-numbers-other.ensures
    ∙ long_same states numbers c.requires.numbers (get_or numbers place 0) first place (index_here numbers place within) at other state
    other c.loop-other.items c.loop-other.invariant.2
    (index_here numbers other inside ∙ ap Some c.if-numbers-other.true) (get_here states other state here c.index-states-other.is)
    ∙ ap (λ s. length (vec_of s)) c.index-states-other.is ∙ sym (ap length c.as_slice-then-numbers-other-2.ensures)

pub loop-other-preserved : goal.loop-other-preserved
loop-other-preserved c =
    let states = c.args.states.now in
    let numbers = c.args.numbers.now in
    let place = c.args.place in
    let number = get_or numbers place 0 in
    let first = c.loop-other.invariant.0 in
    let at = c.loop-other.invariant.1 in
    let other = c.loop-other.other in
    let within : place < length numbers = omega (arith, c.requires.place, c.requires.numbers.count, long_map core_in_state states) in
    let numbered = index_here numbers place within in
    let here : other < length states = omega arith in
    let inside : other < length numbers = omega (arith, here, c.requires.numbers.count, long_map core_in_state states) in
    let own = index_here numbers other inside in (
      first,
      at,
      elim c.if-numbers-other.branch [
        | then-numbers-other+in_ok-items-2 w ↦
            let state = w.index-states-other.result in
            let made = subst (λ is. AreJoinedItems is (vec_of state) w.in_ok-items-2.items) w.as_slice-then-numbers-other.ensures
            (subst (λ is. AreJoinedItems w.as_slice-then-numbers-other.result.now is w.in_ok-items-2.items)
            (w.as_slice-then-numbers-other-2.ensures ∙ ap vec_of (sym w.index-states-other.is)) w.in_ok-items-2.ensures) in
            subst (AreJoinedSoFar states numbers number first (other + 1)) (sym w.items-is)
            (joined_more states numbers c.requires.numbers number first place numbered at other c.loop-other.items
            c.loop-other.invariant.2 state (get_here states other state here w.index-states-other.is)
            (own ∙ ap Some w.if-numbers-other.true) w.in_ok-items-2.items made)
        | else-numbers-other w ↦
            subst (AreJoinedSoFar states numbers number first (other + 1)) (sym w.items-is)
            (joined_skip states numbers c.requires.numbers number first place numbered at other c.loop-other.items
            c.loop-other.invariant.2 (get_or numbers other 0) own w.if-numbers-other.false)
      ],
    )

pub returns : goal.returns
returns c =
    let states = c.args.states.now in
    let numbers = c.args.numbers.now in
    let place = c.args.place in
    let first = c.loop-other.invariant.0 in
    let at = c.loop-other.invariant.1 in
    let within : place < length numbers = omega (arith, c.requires.place, c.requires.numbers.count, long_map core_in_state states) in
    let end : length states ≤ c.loop-other.other = omega arith in
    joined_done states numbers c.requires.numbers (get_or numbers place 0) first place (index_here numbers place within) at
    c.loop-other.other c.loop-other.items end c.loop-other.invariant.2
