use Rattle.std.proofs.Common.{arith, ◌≡◌, List, ℕ, refl, subst, sym}
use Rattle.std.specs.Borrow.{Bor}
use Rattle.std.proofs.lemmas.List.Elements.{All-contains, all_zip_more}
use Rattle.lalrpop_grammar_repr.specs.declared.production.Production.{Production}
use Rattle.lalrpop_lane_tables.specs.AppliedSets.{IsAmongActions, HasSetOfAction}
use Rattle.lalrpop_lane_tables.proofs.context_sets.reductions_with.Goals as goal

pub set_of_reduction-requires-clause-action : goal.set_of_reduction-requires-clause-action
set_of_reduction-requires-clause-action c =
    All-contains (λ (r : List ℕ × Bor Production). IsAmongActions c.args.actions.now.keys r.1.now) c.args.reductions.now c.reduction-item.result
    c.requires.actions (c.loop-reduction.reduction-index, omega arith, sym c.reduction-item.is)

pub loop-reduction-preserved : goal.loop-reduction-preserved
loop-reduction-preserved c =
    rw c.in_ok-push.ensures.ok (all_zip_more
    (λ (old new : List ℕ × Bor Production). (new.1 ≡ old.1) × HasSetOfAction c.args.actions.now.keys c.args.sets.now old.1.now new.0)
    c.args.reductions.now c.loop-reduction.applied c.loop-reduction.reduction-index c.reduction-item.result
    (c.in_ok-set.set, c.reduction-item.result.1) (omega arith) c.reduction-item.is c.loop-reduction.invariant
    (refl, subst (HasSetOfAction c.args.actions.now.keys c.args.sets.now c.reduction-item.result.1.now) (sym c.in_ok-set.ensures) c.set_of_reduction.ensures))
