use Rattle.std.proofs.Common.{◌≡◌, ◌-◌, ◌≤◌, ◌∙◌, ap, sym, subst, arith}
use Rattle.std.specs.Prelude.{IfOk, codes, decimal}
use Rattle.std.proofs.lemmas.List.{append_assoc}
use Rattle.lalrpop_norm_theory.specs.Keys.{with_number}
use Rattle.lalrpop_norm_precedence.proofs.NumberLemmas.{number_of_next}
use Rattle.lalrpop_norm_macros.proofs.key_names.names.name_for.Goals as goal

pub returns : goal.returns
returns c =
    let text = c.args.text in
    let time = c.in-Some.time in
    let next = c.in-Some.ensures.1 in
    let two : 2 ≤ time = omega (arith, next, c.if-before-eq0.false) in
    let before : time - 1 ≡ c.args.before = omega (arith, next) in
    let is : c.as_str.result.now ≡ with_number text c.args.before =
    c.as_str.ensures.value ∙ c.in_ok-name.ensures.ok ∙ sym (append_assoc text (codes "~") (decimal time))
    ∙ sym (number_of_next text time two)
    ∙ ap (with_number text) before in
    subst (λ t. IfOk c.new.result (λ name. name ≡ t)) is c.new.ensures
