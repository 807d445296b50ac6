use Rattle.std.proofs.Common.{◌≡◌, ◌-◌, ◌∙◌, sym, subst, arith}
use Rattle.std.specs.Prelude.{IfOk, codes, decimal}
use Rattle.std.proofs.lemmas.List.{append_assoc}
use Rattle.lalrpop_norm_theory.specs.Keys.{with_number}
use Rattle.lalrpop_norm_precedence.proofs.NumberLemmas.{number_of_next}
use Rattle.lalrpop_norm_precedence.proofs.level_names.names.name_for.Goals as goal

pub returns : goal.returns
returns c =
    let text = c.args.text in
    let time = c.args.time in
    let is : c.as_str.result.now ≡ with_number text (time - 1) =
    c.as_str.ensures.value ∙ c.in_ok-name.ensures.ok ∙ sym (append_assoc text (codes "~") (decimal time))
    ∙ sym (number_of_next text time (omega (arith, c.if-time-lt2.false))) in
    subst (λ t. IfOk c.new.result (λ name. name ≡ t)) is c.new.ensures
