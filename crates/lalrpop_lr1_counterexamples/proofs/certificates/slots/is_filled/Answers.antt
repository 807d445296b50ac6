use Rattle.std.proofs.Common.{◌∙◌, Some, ap, refl}
use Rattle.std.proofs.lemmas.Option.{slice_get_read}
use Rattle.lalrpop_lr1_counterexamples.proofs.certificates.slots.is_filled.Goals as goal

pub returns-in-Some : goal.returns-in-Some
returns-in-Some c = λ yes. (
  c.in-Some.field-0,
  slice_get_read c.args.slots.now _ c.args.number c.index-slots-number.result refl c.requires c.index-slots-number.is
      ∙ ap Some c.in-Some.is,
)
