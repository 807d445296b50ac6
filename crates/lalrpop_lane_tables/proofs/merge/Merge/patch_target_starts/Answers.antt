use Rattle.std.proofs.Common.{◌∙◌, ap, subst, sym}
use Rattle.std.proofs.lemmas.Option.{slice_get_within}
use Rattle.lalrpop_lane_tables.specs.MergeViews.{MergeView}
use Rattle.lalrpop_lane_tables.specs.PatchedTargets.{ArePatches, HaveTargetActions, IsTarget}
use Rattle.lalrpop_lane_tables.proofs.PatchLemmas.{targets_patched}
use Rattle.lalrpop_lane_tables.proofs.merge.Merge.patch_target_starts.Goals as goal

pub patches_of-requires-clause-actions : goal.patches_of-requires-clause-actions
patches_of-requires-clause-actions c =
    let copies = c.as_slice.ensures.value ∙ ap (λ (m : MergeView). m.copies) c.self.view_is in
    let target = ap (λ (m : MergeView). m.target) c.self.view_is in
    subst (λ t. HaveTargetActions t c.as_slice.result.now c.args.actions.now.keys c.args.states.now) (sym target)
    (subst (λ l. HaveTargetActions c.args.self.target l c.args.actions.now.keys c.args.states.now) (sym copies) c.requires.actions)

pub put_patches-requires : goal.put_patches-requires
put_patches-requires c = λ p there.
    let are = (c.in_ok-patches.ensures.sound p there).1 in
    slice_get_within c.args.states.now p.state.0 are.state are.at

pub returns-clause-patched : goal.returns-clause-patched
returns-clause-patched c =
    let copies = c.as_slice.ensures.value ∙ ap (λ (m : MergeView). m.copies) c.self.view_is in
    let target = ap (λ (m : MergeView). m.target) c.self.view_is in
    targets_patched c.args.actions.now.keys c.args.sets.now c.args.unify.now c.args.self.target c.args.self.copies c.args.states.now
    c.put_patches.new.states c.in_ok-patches.patches.items
    (subst (λ t. ArePatches c.args.actions.now.keys c.args.sets.now c.args.unify.now c.args.states.now (IsTarget t c.args.self.copies)
    c.in_ok-patches.patches.items) target
    (subst (λ l. ArePatches c.args.actions.now.keys c.args.sets.now c.args.unify.now c.args.states.now (IsTarget c.self.inside.target l)
    c.in_ok-patches.patches.items) copies c.in_ok-patches.ensures)) c.put_patches.ensures
