use Rattle.std.proofs.Common.{◌≡◌, ◌∙◌, sym, true, false}
use Rattle.lalrpop_lr1_check.proofs.closure.closure_items.has_start_closure.Goals as goal

pub returns-in_ok-are : goal.returns-in_ok-are
returns-in_ok-are c = (
  λ e. record { unmoved = c.are_unmoved.ensures.0 c.if-are_unmoved.true; brought = c.in_ok-are.ensures.0 e },
  λ h. c.in_ok-are.ensures.1 h.brought,
)

pub returns-else-are_unmoved : goal.returns-else-are_unmoved
returns-else-are_unmoved c = (
  λ e. let w : ⊥ = cc in absurd w,
  λ h. let both : true ≡ false = sym (c.are_unmoved.ensures.1 h.unmoved) ∙ c.if-are_unmoved.false in let w : ⊥ = cc in absurd w,
)
