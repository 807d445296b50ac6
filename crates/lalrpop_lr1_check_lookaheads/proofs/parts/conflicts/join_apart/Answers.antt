use Rattle.std.proofs.Common.{◌≡◌, ◌∙◌, ◌&&◌, refl, sym, true, false, ap}
use Rattle.lalrpop_sets.specs.AscendingLists.{has}
use Rattle.lalrpop_lr1_check_lookaheads.proofs.parts.conflicts.join_apart.Goals as goal

pub returns-then-not-is_disjoint-clause-apart : goal.returns-then-not-is_disjoint-clause-apart
returns-then-not-is_disjoint-clause-apart c =
    let shared = c.is_disjoint.ensures.no c.if-not-is_disjoint.true in (
      λ e. let w : ⊥ = cc in absurd w,
      λ h.
          let both : true ≡ false =
          sym (ap (λ b. b && has c.args.set.now shared.0) shared.1 ∙ shared.2) ∙ h shared.0 in
          let w : ⊥ = cc in absurd w,
    )

pub returns-clause-apart : goal.returns-clause-apart
returns-clause-apart c = (λ e. c.is_disjoint.ensures.yes c.if-not-is_disjoint.false, λ h. refl)
