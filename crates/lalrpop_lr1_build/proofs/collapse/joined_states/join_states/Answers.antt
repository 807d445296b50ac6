use Rattle.std.proofs.Common.{◌≡◌, ◌∙◌, ◌+◌, ◌<◌, ◌≤◌, Some, ap, arith, get_or, length, subst, sym}
use Rattle.lalrpop_lr1_build.specs.StateCores.{core_in_state}
use Rattle.lalrpop_lr1_build.specs.JoinedStates.{AreJoinedByNumbers}
use Rattle.lalrpop_lr1_build.proofs.ListLemmas.{index_here}
use Rattle.lalrpop_lr1_first.proofs.TableLemmas.{long_map}
use Rattle.lalrpop_lr1_build.proofs.StateLemmas.{by_numbers_done, by_numbers_more, by_numbers_skip, by_numbers_start}
use Rattle.lalrpop_lr1_build.proofs.collapse.joined_states.join_states.Goals.{else-numbers-place, then-numbers-place+in_ok-join_state+in_ok-push}
use Rattle.lalrpop_lr1_build.proofs.collapse.joined_states.join_states.Goals as goal

pub bounds-numbers-place : goal.bounds-numbers-place
bounds-numbers-place c =
    let inside : c.loop-place.place < length c.args.states.now = omega arith in
    omega (arith, inside, c.requires.numbers.count, long_map core_in_state c.args.states.now)

pub offset_bounds-numbers-place : goal.offset_bounds-numbers-place
offset_bounds-numbers-place c =
    let inside : c.loop-place.place < length c.args.states.now = omega arith in
    omega (arith, inside, c.requires.numbers.count, long_map core_in_state c.args.states.now)

pub loop-place-init : goal.loop-place-init
loop-place-init c =
    let states = c.args.states.now in
    let numbers = c.args.numbers.now in
    subst (AreJoinedByNumbers states numbers 0) (sym c.new-joined.ensures.items) (by_numbers_start states numbers)

pub loop-place-preserved : goal.loop-place-preserved
loop-place-preserved c =
    let states = c.args.states.now in
    let numbers = c.args.numbers.now in
    let place = c.loop-place.place in
    let joined = c.loop-place.joined.items in
    let are = c.loop-place.invariant in
    let here : place < length states = omega arith in
    let inside : place < length numbers = omega (arith, here, c.requires.numbers.count, long_map core_in_state states) in
    let own = index_here numbers place inside in
    let next : c.len.result ≡ length joined = omega (arith, c.len.ensures, c.loop-place.joined.ok) in
    elim c.if-numbers-place.branch [
      | then-numbers-place+in_ok-join_state+in_ok-push w ↦ rw w.joined-is
          (subst (AreJoinedByNumbers states numbers (place + 1)) (sym w.in_ok-push.ensures.items)
          (by_numbers_more states numbers place joined are w.in_ok-join_state.field-0
          (own ∙ ap Some (w.if-numbers-place.true ∙ next)) w.in_ok-join_state.ensures))
      | else-numbers-place w ↦ rw w.joined-is
          (by_numbers_skip states numbers place joined are c.requires.numbers (get_or numbers place 0) own
          (λ e. w.if-numbers-place.false (e ∙ sym next)))
    ]

pub returns : goal.returns
returns c =
    let states = c.args.states.now in
    let end : length states ≤ c.loop-place.place = omega arith in
    by_numbers_done states c.args.numbers.now c.loop-place.place c.loop-place.joined.items end c.loop-place.invariant
