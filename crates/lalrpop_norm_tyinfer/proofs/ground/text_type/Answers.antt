use Rattle.std.proofs.Common.{◌∙◌, [], ap, ap₂, Some, false}
use Rattle.std.specs.Prelude.{codes}
use Rattle.lalrpop_norm_theory.specs.Types.{GroundType}
use Rattle.lalrpop_norm_tyinfer.specs.GroundViews.{type_repr_view}
use Rattle.lalrpop_norm_tyinfer.proofs.GroundLemmas.{view-nominal, view-ref}
use Rattle.lalrpop_norm_tyinfer.proofs.ground.text_type.Goals as goal

pub returns : goal.returns
returns c =
    view-ref (Some c.in_ok-lifetime.lifetime) false c.in_ok-new.field-0
    ∙ ap₂ (λ l r. GroundType.ref (Some l) false r) c.in_ok-lifetime.ensures
    (ap type_repr_view (c.in_ok-new.ensures ∙ c.in_ok-referent.ensures) ∙ view-nominal (codes "str") [])
