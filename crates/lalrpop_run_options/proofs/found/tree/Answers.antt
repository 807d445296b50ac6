use Rattle.std.proofs.Common.{◌∙◌, Some, ap, codes, sym}
use Rattle.std.specs.Prelude.{option_map}
use Rattle.clap.proofs.WalkLemmas.{first_value-rows}
use Rattle.clap.specs.Matches.{found_of}
use Rattle.lalrpop_run_options.proofs.FoundLemmas.{either_text}
use Rattle.lalrpop_run_options.proofs.found.tree.Goals as goal

pub returns-in_ok-from_str-in-Some : goal.returns-in_ok-from_str-in-Some
returns-in_ok-from_str-in-Some c =
    let given = either_text c.or.result _ _ _ _ c.or.ensures c.hidden_value.ensures
    (c.get_str.ensures ∙ first_value-rows (found_of c.args.matches.now) (codes "tree")) in
    ap (λ t. Some t) c.in_ok-from_str-in-Some.ensures.ok ∙ (sym (ap (option_map (λ s. s.now)) c.in-Some.is) ∙ given)

pub returns-in-None : goal.returns-in-None
returns-in-None c =
    let given = either_text c.or.result _ _ _ _ c.or.ensures c.hidden_value.ensures
    (c.get_str.ensures ∙ first_value-rows (found_of c.args.matches.now) (codes "tree")) in
    sym (ap (option_map (λ s. s.now)) c.in-None.is) ∙ given
