use Rattle.std.proofs.Common.{◌≡◌, arith, map}
use Rattle.lalrpop_norm_tyinfer.specs.GroundViews.{ground_types, type_repr_view}
use Rattle.lalrpop_norm_tyinfer.proofs.SameLemmas.{ended_alike}
use Rattle.lalrpop_norm_tyinfer.proofs.same.+same_type.Goals as goal

pub same_types-returns : goal.same_types-returns
same_types-returns t c =
    ended_alike c.loop-ty.ty-index c.args.a.now c.loop-ty.others.now c.is_empty.result
    (ground_types (map type_repr_view c.args.a.now) ≡ ground_types (map type_repr_view c.args.b.now))
    (omega (arith, c.loop-ty-test.false))
    c.is_empty.ensures c.loop-ty.invariant
