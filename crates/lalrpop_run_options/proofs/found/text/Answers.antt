use Rattle.std.proofs.Common.{◌∙◌, [], ap, codes, unwrap_or}
use Rattle.std.proofs.lemmas.Result.{IfOk-weaker}
use Rattle.clap.proofs.WalkLemmas.{first_value-rows}
use Rattle.clap.specs.Matches.{found_of}
use Rattle.lalrpop_run_options.proofs.FoundLemmas.{either_text, unwrap_or_text}
use Rattle.lalrpop_run_options.proofs.found.text.Goals as goal

pub returns : goal.returns
returns c =
    let given = either_text c.or-text.result _ _ _ _ c.or-text.ensures c.hidden_value.ensures
    (c.get_str.ensures ∙ first_value-rows (found_of c.args.matches.now) (codes "text")) in
    IfOk-weaker c.from_str.result _ _
    (λ t is. is ∙ (ap (λ s. s.now) c.unwrap_or.ensures
    ∙ (unwrap_or_text c.or-text.result _ ∙ ap (λ o. unwrap_or o []) given)))
    c.from_str.ensures.ok
