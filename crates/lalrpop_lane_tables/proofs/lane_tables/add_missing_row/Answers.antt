use Rattle.std.proofs.Common.{inl, inr, refl}
use Rattle.lalrpop_lane_tables.proofs.lane_tables.add_missing_row.Goals as goal

pub returns-then-has_columns : goal.returns-then-has_columns
returns-then-has_columns c = inl (c.has_columns.ensures.0 c.if-has_columns.true, refl)

pub returns : goal.returns
returns c =
    inr (λ k. let z = c.has_columns.ensures.1 k in let no = c.if-has_columns.false in let w : ⊥ = cc in w, c.in_ok-add_empty_row.ensures)
