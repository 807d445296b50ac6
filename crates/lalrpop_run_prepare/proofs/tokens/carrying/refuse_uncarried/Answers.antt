use Rattle.std.proofs.Common.{◌≡◌, ◌∙◌, true, false, inr, refl, sym}
use Rattle.std.specs.Prelude.{is_some}
use Rattle.lalrpop_grammar.specs.Views.{grammar_view}
use Rattle.lalrpop_run_prepare.specs.Refused.{IsUncarried}
use Rattle.lalrpop_run_prepare.proofs.CarriedLemmas.{has_extern, lacks_extern, recovery_found, recovery_missing}
use Rattle.lalrpop_run_prepare.proofs.tokens.carrying.refuse_uncarried.Goals as goal

pub returns-then-is_some-clause-refused : goal.returns-then-is_some-clause-refused
returns-then-is_some-clause-refused c =
    let some : is_some c.extern_token.result ≡ true = sym c.is_some.ensures ∙ c.if-is_some.true in
    inr (λ finds. IsUncarried.extern_block (has_extern c.args.grammar.now c.extern_token.result c.extern_token.ensures some) refl)

pub returns-then-branch-clause-refused : goal.returns-then-branch-clause-refused
returns-then-branch-clause-refused c =
    let none : is_some c.extern_token.result ≡ false = sym c.is_some.ensures ∙ c.if-is_some.false in
    inr (λ finds. IsUncarried.recovery (lacks_extern c.args.grammar.now c.extern_token.result c.extern_token.ensures none)
    (recovery_found finds c.args.features.now (grammar_view c.args.grammar.now)
    (sym c.in_ok-grammar_recovers.ensures ∙ c.if-branch.true)) refl)

pub returns-clause-carried : goal.returns-clause-carried
returns-clause-carried c = λ finds.
    let none : is_some c.extern_token.result ≡ false = sym c.is_some.ensures ∙ c.if-is_some.false in
    record {
      no_extern = lacks_extern c.args.grammar.now c.extern_token.result c.extern_token.ensures none;
      no_recovery = recovery_missing finds c.args.features.now (grammar_view c.args.grammar.now)
          (sym c.in_ok-grammar_recovers.ensures ∙ c.if-branch.false);
    }
