use Rattle.std.proofs.Common.{◌≡◌, ◌∙◌, sym, true, false}
use Rattle.lalrpop_lr1_check_lookaheads.proofs.parts.moving.comes_back_over.Goals as goal

pub returns-then-is_symbol : goal.returns-then-is_symbol
returns-then-is_symbol c =
    (λ e. (c.is_symbol.ensures.0 c.if-is_symbol.true, c.has_item.ensures.0 e), λ h. c.has_item.ensures.1 h.1)

pub returns-else-is_symbol : goal.returns-else-is_symbol
returns-else-is_symbol c = (
  λ e. let w : ⊥ = cc in absurd w,
  λ h. let both : true ≡ false = sym (c.is_symbol.ensures.1 h.0) ∙ c.if-is_symbol.false in let w : ⊥ = cc in absurd w,
)
