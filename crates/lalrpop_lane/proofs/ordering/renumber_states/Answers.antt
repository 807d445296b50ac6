use Rattle.std.proofs.Common.{◌≡◌, ◌∙◌, ◌<◌, ◌++◌, ◌∷◌, List, [], ℕ, ap, arith, drop, length}
use Rattle.std.proofs.Common.{length-append, rules, suc, subst, sym, get_or}
use Rattle.std.specs.Vec.Iter.{into_iter_items}
use Rattle.lalrpop_lr1_core.specs.declared.state.State.{State}
use Rattle.lalrpop_lr1_build.specs.Renumbering.{HaveTargetsWithin}
use Rattle.lalrpop_lane.specs.GotoNumbers.{state_by_numbers, states_by_numbers}
use Rattle.lalrpop_lane.proofs.NumberLemmas.{renumber_more}
use Rattle.lalrpop_lane.proofs.ordering.renumber_states.Goals as goal

pub loop-state-init : goal.loop-state-init
loop-state-init c =
    let numbers = c.args.numbers.now in
    let left = into_iter_items c.into_iter-state-iterator.result in
    let gives = c.into_iter-state-iterator.ensures.into_iter_gives.0 in
    let none = c.new-renumbered.ensures.items in (
      ap (λ (l : List (State (List ℕ))). l ++ states_by_numbers numbers (drop (length l) numbers) left) none
          ∙ ap (states_by_numbers numbers numbers) gives,
      omega (arith, ap length none, ap length gives, c.requires.count),
      subst (HaveTargetsWithin (length numbers)) (sym gives) c.requires.targets,
      search rules,
    )

pub renumber_state-requires-clause-shifts : goal.renumber_state-requires-clause-shifts
renumber_state-requires-clause-shifts c =
    (subst (HaveTargetsWithin (length c.args.numbers.now)) c.in-Some.ensures.steps.0 c.loop-state.invariant.2 0 c.in-Some.state
    (omega arith)).0

pub renumber_state-requires-clause-gotos : goal.renumber_state-requires-clause-gotos
renumber_state-requires-clause-gotos c =
    (subst (HaveTargetsWithin (length c.args.numbers.now)) c.in-Some.ensures.steps.0 c.loop-state.invariant.2 0 c.in-Some.state
    (omega arith)).1

pub loop-state-preserved : goal.loop-state-preserved
loop-state-preserved c =
    let numbers = c.args.numbers.now in
    let before = c.loop-state.renumbered.items in
    let left = into_iter_items c.loop-state.state-iterator in
    let rest = into_iter_items c.next.new.self in
    let state = c.in-Some.state in
    let first = c.in-Some.ensures.steps.0 in
    let longer = ap length first in
    let within : length before < length numbers = omega (arith, longer, c.loop-state.invariant.1) in
    let place : c.len-place.result ≡ length before = omega (arith, c.len-place.ensures, c.loop-state.renumbered.ok) in
    let pushed = c.in_ok-push.ensures.items in
    let long = ap length pushed in
    let more = length-append before (c.in_ok-renumber_state.field-0 ∷ []) in (
      renumber_more numbers (states_by_numbers numbers numbers c.args.states.items) before c.push.new.self.items left rest state
          c.in_ok-renumber_state.field-0 c.loop-state.invariant.0 first within
          (c.in_ok-renumber_state.ensures ∙ ap (λ k. state_by_numbers numbers (get_or numbers k 0) state) place) pushed,
      omega (arith, long, more, longer, c.loop-state.invariant.1),
      (let all = subst (HaveTargetsWithin (length numbers)) first c.loop-state.invariant.2 in
          λ k d h. all (suc k) d (omega (arith, h))),
      omega (arith, longer, c.in-Some.ensures.steps.1, c.loop-state.invariant.3),
    )
