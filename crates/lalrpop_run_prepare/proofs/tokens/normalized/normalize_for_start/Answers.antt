use Rattle.std.proofs.Common.{◌≡◌, ◌∙◌, false, true, List, subst, sym}
use Rattle.std.proofs.lemmas.Result.{err_from_is_err_and}
use Rattle.lalrpop_grammar_symbols.specs.Symbols.{Text}
use Rattle.lalrpop_grammar.specs.Views.{grammar_view}
use Rattle.lalrpop_grammar_language.specs.Enabled.{enabled_grammar}
use Rattle.lalrpop_grammar_language.specs.Starts.{has_start}
use Rattle.lalrpop_grammar_rules.specs.StartViews.{is_known, is_public_start}
use Rattle.lalrpop_grammar_rules.specs.Search.{finds, is_too_deep}
use Rattle.lalrpop_run_prepare.specs.Carried.{IsCarried}
use Rattle.lalrpop_run_prepare.proofs.TokenizerLemmas.{fault_told, normalizable, start_told}
use Rattle.lalrpop_run_prepare.proofs.tokens.normalized.normalize_for_start.Goals as goal

pub returns-in_err-made-clause-refused : goal.returns-in_err-made-clause-refused
returns-in_err-made-clause-refused c =
    let w = grammar_view c.args.grammar in
    let fs = c.args.session.now.features.items in
    let carried = subst (λ (l : List Text). IsCarried finds l w) c.as_slice-features.ensures.value
    (c.in_ok-found.ensures.carried finds) in
    let p = err_from_is_err_and c.from_residual-in_err-made.result c.from_residual-in_err-made.ensures.1 in
    rw p.1 (λ read. fault_told finds is_too_deep fs c.args.session.now.macro_recursion_limit c.args.start.now w p.0
    c.in_err-made.field-0.0 carried (c.in_err-made.ensures.refused (normalizable finds fs w read carried)) p.2)

pub returns-in_err-refuse_start-clause-refused : goal.returns-in_err-refuse_start-clause-refused
returns-in_err-refuse_start-clause-refused c =
    let w = grammar_view c.args.grammar in
    let fs = c.args.session.now.features.items in
    let start = c.args.start.now in
    let found = c.in_ok-found.found in
    let same = c.as_slice-features.ensures.value in
    let carried = subst (λ (l : List Text). IsCarried finds l w) same (c.in_ok-found.ensures.carried finds) in
    let known = subst (λ (l : List Text). is_known found ≡ has_start start false (enabled_grammar finds l w)) same
    (c.in_ok-found.ensures.known finds) in
    let public = subst (λ (l : List Text). is_public_start found ≡ has_start start true (enabled_grammar finds l w)) same
    (c.in_ok-found.ensures.public finds) in
    let p = err_from_is_err_and c.from_residual-in_err-refuse_start.result c.from_residual-in_err-refuse_start.ensures.1 in
    rw (p.1, p.2) (λ read. start_told finds is_too_deep fs c.args.session.now.macro_recursion_limit start w
    c.in_err-refuse_start.field-0.0 (is_known found) (is_public_start found) carried
    (c.in_ok-made.ensures.none (normalizable finds fs w read carried)) known public c.in_err-refuse_start.ensures.refused)

pub returns-clause-made : goal.returns-clause-made
returns-clause-made c =
    let w = grammar_view c.args.grammar in
    let fs = c.args.session.now.features.items in
    let start = c.args.start.now in
    let found = c.in_ok-found.found in
    let same = c.as_slice-features.ensures.value in
    let carried = subst (λ (l : List Text). IsCarried finds l w) same (c.in_ok-found.ensures.carried finds) in
    let public = subst (λ (l : List Text). is_public_start found ≡ has_start start true (enabled_grammar finds l w)) same
    (c.in_ok-found.ensures.public finds) in
    λ read.
    let fit = normalizable finds fs w read carried in
    record {
      generable = record {
        carried = carried;
        faultless = c.in_ok-made.ensures.none fit;
        starts = sym public ∙ c.in_ok-refuse_start.ensures.public;
      };
      normalized = c.in_ok-made.ensures.given fit;
      decides = c.in_ok-made.ensures.decides fit;
    }
