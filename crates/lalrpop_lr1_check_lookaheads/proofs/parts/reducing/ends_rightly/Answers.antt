use Rattle.std.proofs.Common.{◌≡◌, ◌∙◌, refl, sym, true, false}
use Rattle.lalrpop_lr1_check_lookaheads.proofs.parts.reducing.ends_rightly.Goals as goal

pub returns-in_ok-alone : goal.returns-in_ok-alone
returns-in_ok-alone c =
    (λ e name. c.in_ok-alone.ensures.0 e, λ h. c.in_ok-alone.ensures.1 (h (c.is_of_start.ensures.0 c.if-is_of_start.true)))

pub returns-else-is_of_start : goal.returns-else-is_of_start
returns-else-is_of_start c = (
  λ e name.
      let both : true ≡ false = sym (c.is_of_start.ensures.1 name) ∙ c.if-is_of_start.false in let w : ⊥ = cc in absurd w,
  λ h. refl,
)
