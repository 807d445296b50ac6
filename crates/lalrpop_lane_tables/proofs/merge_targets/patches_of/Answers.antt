use Rattle.std.proofs.Common.{◌≡◌, ◌∙◌, ◌<◌, ◌≤◌, ◌+◌, ap, arith, get_or, inl, inr, length, refl, Some, subst, sym}
use Rattle.lalrpop_lr1_theory.proofs.ListLemmas.{get_contains}
use Rattle.lalrpop_lr1_core.specs.declared.state_index.StateIndex.{StateIndex}
use Rattle.lalrpop_lane_tables.specs.PatchedTargets.{ArePatches, IsTarget}
use Rattle.lalrpop_lane_tables.proofs.PatchLemmas.{IsTargetBefore, all_targets, got_or, other_index, patches_more, patches_same}
use Rattle.lalrpop_lane_tables.proofs.PatchLemmas.{same_index, target_more, target_no_more}
use Rattle.lalrpop_lane_tables.proofs.merge_targets.patches_of.Goals as goal
use Rattle.lalrpop_lane_tables.proofs.merge_targets.patches_of.Goals.{then-eq+in_ok-add_patch-2, else-eq}

pub add_patch-requires-clause-actions : goal.add_patch-requires-clause-actions
add_patch-requires-clause-actions c = λ own at. c.requires.actions c.args.target own (inl refl) at

pub add_patch-requires-then-eq-clause-actions : goal.add_patch-requires-then-eq-clause-actions
add_patch-requires-then-eq-clause-actions c = λ own at.
    let none : StateIndex = record { 0 = 0 } in
    let entry = get_or c.args.copies.now c.loop-place.place (none, none) in
    let within : c.loop-place.place < length c.args.copies.now = grind arith in
    let same : entry.1 ≡ c.args.target = same_index entry.1 c.args.target (sym c.eq.ensures ∙ c.if-eq.true) in
    let there = got_or c.args.copies.now c.loop-place.place (none, none) within ∙ ap (λ (m : StateIndex). Some (entry.0, m)) same in
    c.requires.actions entry.0 own (inr (get_contains c.args.copies.now c.loop-place.place (entry.0, c.args.target) there)) at

pub loop-place-preserved : goal.loop-place-preserved
loop-place-preserved c =
    let none : StateIndex = record { 0 = 0 } in
    let entry = get_or c.args.copies.now c.loop-place.place (none, none) in
    let within : c.loop-place.place < length c.args.copies.now = grind arith in
    let got = got_or c.args.copies.now c.loop-place.place (none, none) within in
    elim c.if-eq.branch [
      | then-eq+in_ok-add_patch-2 w ↦ (
          let same : entry.1 ≡ c.args.target = same_index entry.1 c.args.target (sym c.eq.ensures ∙ w.if-eq.true) in
          let there = got ∙ ap (λ (m : StateIndex). Some (entry.0, m)) same in
          subst (λ v. ArePatches c.args.actions.now.keys c.args.sets.now c.args.unify.now c.args.states.now
          (IsTargetBefore c.args.target c.args.copies.now (c.loop-place.place + 1)) v.items) (sym w.patches-is)
          (patches_more c.args.actions.now.keys c.args.sets.now c.args.unify.now c.args.states.now
          (IsTargetBefore c.args.target c.args.copies.now c.loop-place.place)
          (IsTargetBefore c.args.target c.args.copies.now (c.loop-place.place + 1)) entry.0 c.loop-place.patches.items
          w.add_patch-then-eq.new.patches.items (target_more c.args.target c.args.copies.now c.loop-place.place entry.0 there)
          c.loop-place.invariant w.in_ok-add_patch-2.ensures)
          )
      | else-eq w ↦
          subst (λ v. ArePatches c.args.actions.now.keys c.args.sets.now c.args.unify.now c.args.states.now
          (IsTargetBefore c.args.target c.args.copies.now (c.loop-place.place + 1)) v.items) (sym w.patches-is)
          (patches_same c.args.actions.now.keys c.args.sets.now c.args.unify.now c.args.states.now
          (IsTargetBefore c.args.target c.args.copies.now c.loop-place.place)
          (IsTargetBefore c.args.target c.args.copies.now (c.loop-place.place + 1)) c.loop-place.patches.items
          (target_no_more c.args.target c.args.copies.now c.loop-place.place entry got
          (other_index entry.1 c.args.target (sym c.eq.ensures ∙ w.if-eq.false))) c.loop-place.invariant)
    ]

pub returns : goal.returns
returns c =
    let all : length c.args.copies.now ≤ c.loop-place.place = grind arith in
    patches_same c.args.actions.now.keys c.args.sets.now c.args.unify.now c.args.states.now
    (IsTargetBefore c.args.target c.args.copies.now c.loop-place.place) (IsTarget c.args.target c.args.copies.now)
    c.loop-place.patches.items (all_targets c.args.target c.args.copies.now c.loop-place.place all) c.loop-place.invariant
