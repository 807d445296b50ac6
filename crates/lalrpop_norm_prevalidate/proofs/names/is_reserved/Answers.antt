use Rattle.std.proofs.Common.{ap, ◌∙◌}
use Rattle.std.specs.List.{starts_with}
use Rattle.std.specs.Prelude.{◌==◌}
use Rattle.lalrpop_norm_prevalidate.proofs.NameLemmas.{prefix_test}
use Rattle.lalrpop_norm_prevalidate.proofs.names.is_reserved.Goals as goal

pub returns : goal.returns
returns c =
    c.starts_with.ensures.value
    ∙ ap (λ s. starts_with (λ a b. a == b) s c.as_bytes-2.result.now) (c.as_bytes.ensures.value ∙ c.as_str.ensures)
    ∙ ap (λ s. starts_with (λ a b. a == b) c.args.name.now s) c.as_bytes-2.ensures.value
    ∙ prefix_test c.args.prefix.now c.args.name.now
