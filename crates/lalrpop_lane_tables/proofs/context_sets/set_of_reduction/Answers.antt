use Rattle.std.proofs.Common.{rules, arith, ◌≡◌, ◌∙◌, ◌∷◌, [], sym}
use Rattle.std.proofs.lemmas.Option.{slice_get_within}
use Rattle.lalrpop_lane_tables.proofs.AppliedLemmas.{left_begins, none_at_all, none_before_more, none_left}
use Rattle.lalrpop_lane_tables.proofs.InsertLemmas.{get_of}
use Rattle.lalrpop_lane_tables.proofs.context_sets.set_of_reduction.Goals as goal

pub bounds-sets-place : goal.bounds-sets-place
bounds-sets-place c =
    let left : c.loop-action.action-iterator ≡ c.in-Some.action.now ∷ c.next.new.self = search rules in
    let at = left_begins c.args.actions.now.keys c.loop-action.place c.in-Some.action.now c.next.new.self (sym left ∙ c.loop-action.invariant.left) in
    omega (arith, c.requires.sets, slice_get_within c.args.actions.now.keys c.loop-action.place c.in-Some.action.now at.0)

pub returns-then-is_reduction_by : goal.returns-then-is_reduction_by
returns-then-is_reduction_by c =
    let left : c.loop-action.action-iterator ≡ c.in-Some.action.now ∷ c.next.new.self = search rules in
    let at = left_begins c.args.actions.now.keys c.loop-action.place c.in-Some.action.now c.next.new.self (sym left ∙ c.loop-action.invariant.left) in (
      c.loop-action.place,
      c.in-Some.action.now,
      at.0,
      c.is_reduction_by.ensures.0 c.if-is_reduction_by.true,
      get_of c.args.sets.now c.loop-action.place c.index-sets-place.result
          (omega (arith, c.requires.sets, slice_get_within c.args.actions.now.keys c.loop-action.place c.in-Some.action.now at.0)) c.index-sets-place.is,
    )

pub loop-action-preserved : goal.loop-action-preserved
loop-action-preserved c =
    let left : c.loop-action.action-iterator ≡ c.in-Some.action.now ∷ c.next.new.self = search rules in
    let at = left_begins c.args.actions.now.keys c.loop-action.place c.in-Some.action.now c.next.new.self (sym left ∙ c.loop-action.invariant.left) in
    record {
      left = at.1;
      few = omega (arith, slice_get_within c.args.actions.now.keys c.loop-action.place c.in-Some.action.now at.0);
      none = none_before_more c.args.actions.now.keys c.args.production.now c.loop-action.place c.in-Some.action.now
          c.loop-action.invariant.none at.0 (λ r. let z = c.is_reduction_by.ensures.1 r in let w : ⊥ = cc in w);
    }

pub unreachable-requires : goal.unreachable-requires
unreachable-requires c =
    let left : c.loop-action.action-iterator ≡ [] = search rules in
    none_at_all c.args.actions.now.keys c.args.production.now c.loop-action.place c.loop-action.invariant.none
    (none_left c.args.actions.now.keys c.loop-action.place (sym left ∙ c.loop-action.invariant.left)) c.requires.action
