use Rattle.std.proofs.Common.{◌≡◌, ◌∙◌, refl, sym, true, false}
use Rattle.lalrpop_lr1_check.proofs.closure.closure_items.has_own_closure_if_marked.Goals as goal

pub returns-in_ok-brings-clause-brings : goal.returns-in_ok-brings-clause-brings
returns-in_ok-brings-clause-brings c = (
  λ e m. c.in_ok-brings.ensures.brings.0 e,
  λ h. c.in_ok-brings.ensures.brings.1 (h c.if-is_target.true),
)

pub returns-else-is_target-clause-brings : goal.returns-else-is_target-clause-brings
returns-else-is_target-clause-brings c = (
  λ e m. let both : true ≡ false = sym m ∙ c.if-is_target.false in let w : ⊥ = cc in absurd w,
  λ h. refl,
)
