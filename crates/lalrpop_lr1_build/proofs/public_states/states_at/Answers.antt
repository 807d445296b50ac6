use Rattle.std.proofs.Common.{◌∙◌, ◌++◌, ◌∷◌, [], List, ap, append_assoc, arith, length, refl, slice_get}
use Rattle.std.proofs.Common.{subst, sym}
use Rattle.std.specs.Vec.Iter.{into_iter_items}
use Rattle.lalrpop_lr1_build.specs.declared.states.numbered_states.NumberedState.{NumberedState}
use Rattle.lalrpop_lr1_build.specs.PublicStates.{ArePublicStates}
use Rattle.lalrpop_lr1_build.proofs.EntryLemmas.{get_behind, public_more}
use Rattle.lalrpop_lr1_build.proofs.public_states.states_at.Goals as goal

pub push_state_at-requires-clause-state : goal.push_state_at-requires-clause-state
push_state_at-requires-clause-state g c =
    let done = c.loop-state.invariant.0 in
    let state = c.in-Some.state in
    let parts = c.loop-state.invariant.1 ∙ ap (λ (xs : List (NumberedState g.row.L.Denot)). done ++ xs) c.in-Some.ensures.steps.0 in
    c.requires.states (length done) state
    (ap (λ (xs : List (NumberedState g.row.L.Denot)). slice_get xs (length done)) parts
    ∙ get_behind done state (into_iter_items c.next.new.self))

pub loop-state-preserved : goal.loop-state-preserved
loop-state-preserved g c =
    let done = c.loop-state.invariant.0 in
    let state = c.in-Some.state in
    let rest = into_iter_items c.next.new.self in
    let public = c.loop-state.public.items in
    let added = c.in_ok-push_state_at.ensures in (
      done ++ state ∷ [],
      c.loop-state.invariant.1 ∙ ap (λ (xs : List (NumberedState g.row.L.Denot)). done ++ xs) c.in-Some.ensures.steps.0
          ∙ sym (append_assoc done (state ∷ []) rest),
      subst (λ ps. ArePublicStates c.args.table.now (done ++ state ∷ []) ps) (sym added.1)
          (public_more c.args.table.now done public state added.0 (length public) refl c.loop-state.invariant.2 added.2),
      (let more = ap length c.in-Some.ensures.steps.0 in omega (arith, more, c.in-Some.ensures.steps.1, c.loop-state.invariant.3)),
    )
