use Rattle.std.proofs.Common.{inl, inr, refl}
use Rattle.lalrpop_lane_tables.proofs.lane_tables.add_unreached.Goals as goal

pub returns-then-is_reached : goal.returns-then-is_reached
returns-then-is_reached c = inl (c.is_reached.ensures.0 c.if-is_reached.true, refl)

pub returns : goal.returns
returns c =
    inr (λ k. let z = c.is_reached.ensures.1 k in let no = c.if-is_reached.false in let w : ⊥ = cc in w, c.in_ok-add_state.ensures)
