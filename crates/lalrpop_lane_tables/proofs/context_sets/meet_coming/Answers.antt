use Rattle.std.proofs.Common.{arith, ◌≡◌, Some, refl, slice_get}
use Rattle.std.proofs.lemmas.Option.{slice_get_within}
use Rattle.lalrpop_lane_tables.proofs.InsertLemmas.{get_of}
use Rattle.lalrpop_lane_tables.proofs.UnifyLemmas.{others_meet, none_meet_more, none_meet}
use Rattle.lalrpop_lane_tables.proofs.context_sets.meet_coming.Goals as goal

pub returns-then-meets_either : goal.returns-then-meets_either
returns-then-meets_either c =
    let i = c.loop-index.index in
    let s = c.index-others-index.result in
    let at : slice_get c.args.others.now i ≡ Some s = get_of c.args.others.now i s (omega arith) c.index-others-index.is in (
      λ e. others_meet c.args.columns.now c.args.others.now i s at (c.meets_either.ensures.0 c.if-meets_either.true),
      λ m. refl,
    )

pub loop-index-preserved : goal.loop-index-preserved
loop-index-preserved c =
    let i = c.loop-index.index in
    let s = c.index-others-index.result in
    let at : slice_get c.args.others.now i ≡ Some s = get_of c.args.others.now i s (omega arith) c.index-others-index.is in
    none_meet_more c.args.columns.now c.args.others.now i s at c.loop-index.invariant
    (λ m. let z = c.meets_either.ensures.1 m in let w : ⊥ = cc in w)

pub returns : goal.returns
returns c = (
  λ e. let w : ⊥ = cc in absurd w,
  λ m. absurd (none_meet c.args.columns.now c.args.others.now
      (λ i tokens at h. c.loop-index.invariant i tokens
      (omega (arith, c.loop-index-test.false, slice_get_within c.args.others.now i tokens at)) at h) m),
)
