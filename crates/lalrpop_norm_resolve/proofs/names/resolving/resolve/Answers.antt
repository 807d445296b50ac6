use Rattle.std.proofs.Common.{◌≡◌}
use Rattle.std.specs.Prelude.{Bool, Option}
use Rattle.lalrpop_grammar_symbols.specs.Symbols.{Text}
use Rattle.lalrpop_grammar.specs.Views.{grammar_view}
use Rattle.lalrpop_grammar.specs.declared.grammar.Grammar.{Grammar}
use Rattle.lalrpop_norm_theory.specs.Between.{grammar_between}
use Rattle.lalrpop_norm_theory.specs.Premises.{IsResolved}
use Rattle.lalrpop_norm_theory.specs.Same.{SameExpansion}
use Rattle.lalrpop_norm_theory.specs.Inlined.{SameInlined}
use Rattle.lalrpop_norm_theory.specs.NameFaults.{HasRightNames}
use Rattle.lalrpop_norm_theory.specs.Resolving.{resolved_grammar}
use Rattle.lalrpop_norm_resolve.specs.FoundFaults.{IsResolvedFrom}
use Rattle.lalrpop_norm_resolve.proofs.LawLemmas.{is_resolved, right_still, same_expansion, same_inlined, stays}
use Rattle.lalrpop_grammar_symbols.proofs.BoolLemmas.{ok_from}
use Rattle.lalrpop_norm_resolve.proofs.names.resolving.resolve.Goals as goal

pub returns-clause-value : goal.returns-clause-value
returns-clause-value c =
    let g = c.args.grammar in
    ok_from (λ (made : Grammar). IsResolvedFrom (grammar_view g) (grammar_view made))
    (λ (made : Grammar). grammar_view made ≡ resolved_grammar (grammar_view g)) _
    (λ made w. w.value) c.resolved_grammar.ensures.made

pub returns-clause-right : goal.returns-clause-right
returns-clause-right c =
    let g = c.args.grammar in
    ok_from (λ (made : Grammar). IsResolvedFrom (grammar_view g) (grammar_view made))
    (λ (made : Grammar). HasRightNames (grammar_view g)) _
    (λ made w. w.right) c.resolved_grammar.ensures.made

pub returns-clause-resolved : goal.returns-clause-resolved
returns-clause-resolved c =
    let g = c.args.grammar in
    ok_from (λ (made : Grammar). IsResolvedFrom (grammar_view g) (grammar_view made))
    (λ (made : Grammar). (finds : Text → Text → Option Bool) → IsResolved (grammar_between finds (grammar_view made))) _
    (λ made w. is_resolved (grammar_view g) (grammar_view made) w) c.resolved_grammar.ensures.made

pub returns-clause-right_still : goal.returns-clause-right_still
returns-clause-right_still c =
    let g = c.args.grammar in
    ok_from (λ (made : Grammar). IsResolvedFrom (grammar_view g) (grammar_view made))
    (λ (made : Grammar). HasRightNames (grammar_view made)) _
    (λ made w. right_still (grammar_view g) (grammar_view made) w) c.resolved_grammar.ensures.made

pub returns-clause-expansion : goal.returns-clause-expansion
returns-clause-expansion c =
    let g = c.args.grammar in
    ok_from (λ (made : Grammar). IsResolvedFrom (grammar_view g) (grammar_view made))
    (λ (made : Grammar). (finds : Text → Text → Option Bool)
    → SameExpansion (grammar_between finds (grammar_view g)) (grammar_between finds (grammar_view made)) (λ x. x)) _
    (λ made w. same_expansion (grammar_view g) (grammar_view made) w) c.resolved_grammar.ensures.made

pub returns-clause-inlined : goal.returns-clause-inlined
returns-clause-inlined c =
    let g = c.args.grammar in
    ok_from (λ (made : Grammar). IsResolvedFrom (grammar_view g) (grammar_view made))
    (λ (made : Grammar). (finds : Text → Text → Option Bool)
    → SameInlined (grammar_between finds (grammar_view g)) (grammar_between finds (grammar_view made)) (λ x. x)) _
    (λ made w. same_inlined (grammar_view g) (grammar_view made) w) c.resolved_grammar.ensures.made

pub returns-clause-stays : goal.returns-clause-stays
returns-clause-stays c =
    let g = c.args.grammar in
    ok_from (λ (made : Grammar). IsResolvedFrom (grammar_view g) (grammar_view made))
    (λ (made : Grammar). (finds : Text → Text → Option Bool) → IsResolved (grammar_between finds (grammar_view g))
    → grammar_view made ≡ grammar_view g) _
    (λ made w. stays (grammar_view g) (grammar_view made) w) c.resolved_grammar.ensures.made

pub returns-clause-fault : goal.returns-clause-fault
returns-clause-fault c = c.resolved_grammar.ensures.fault
