use Rattle.std.proofs.Common.{◌≡◌, ap, sym, refl, true, false}
use Rattle.std.specs.Prelude.{Bool, IsTrue, option_map}
use Rattle.lalrpop_norm_tyinfer.specs.GroundViews.{type_repr_view}
use Rattle.lalrpop_norm_tyinfer.proofs.search.new_type.Goals as goal

not_true : (b : Bool) → b ≡ false → IsTrue b → ⊥
not_true true e h = absurd (let wrong : ⊥ = cc in wrong)
not_true false e h = absurd (let wrong : ⊥ = cc in wrong)

pub returns : goal.returns
returns c = (
  refl,
  type_repr_view c.in-Some.known.now,
  sym (ap (option_map type_repr_view) c.in-Some.ensures),
  λ e. not_true c.same_type.result c.if-same_type.false (c.same_type.ensures.1 e),
)
