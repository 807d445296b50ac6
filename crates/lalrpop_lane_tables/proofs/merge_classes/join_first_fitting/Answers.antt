use Rattle.std.proofs.Common.{◌∙◌, ap, get_or, subst}
use Rattle.std.proofs.lemmas.Bool.Decides.{Decides-eqb}
use Rattle.lalrpop_lr1_core.specs.declared.state_index.StateIndex.{StateIndex}
use Rattle.lalrpop_lane_tables.specs.MergeClasses.{DontFit}
use Rattle.lalrpop_lane_tables.proofs.MergeClassLemmas.{none_fits_more, not_joined}
use Rattle.lalrpop_lane_tables.proofs.merge_classes.join_first_fitting.Goals as goal
use Rattle.lalrpop_lane_tables.proofs.merge_classes.join_first_fitting.Goals.{else-eq-via-then-eq+in_ok-join+else-branch, else-eq-via-else-eq}

pub loop-place-preserved : goal.loop-place-preserved
loop-place-preserved c =
    let none : StateIndex = record { 0 = 0 } in
    let entry = get_or c.args.copies.now c.loop-place.place (none, none) in
    elim c.else-eq.branch [
      | else-eq-via-then-eq+in_ok-join+else-branch w ↦ (
          let n = not_joined c.args.sets.now c.loop-place.unify c.args.state entry.0 w.join.new.unify w.in_ok-join.field-0 w.if-branch.false
          w.in_ok-join.ensures in
          record {
            same = w.unify-is ∙ n.1 ∙ c.loop-place.invariant.same;
            before = none_fits_more c.args.sets.now c.args.unify.now c.args.state c.args.original c.args.copies.now c.loop-place.place (none, none)
                c.loop-place.invariant.before
                (λ e. subst (λ u. DontFit c.args.sets.now u c.args.state entry.0) c.loop-place.invariant.same n.0);
          }
          )
      | else-eq-via-else-eq w ↦ record {
        same = w.unify-is ∙ c.loop-place.invariant.same;
        before = none_fits_more c.args.sets.now c.args.unify.now c.args.state c.args.original c.args.copies.now c.loop-place.place (none, none)
            c.loop-place.invariant.before
            (λ e. let t = (Decides-eqb entry.1.0 c.args.original.0).1 (ap (λ (s : StateIndex). s.0) e) in
            let v = c.eq.ensures in let u = w.if-eq.false in let z : ⊥ = cc in absurd z);
      }
    ]
