use Rattle.std.proofs.Common.{◌≡◌, [], ◌∷◌, ◌+◌, ◌∙◌, ap, drop, map, sym, subst}
use Rattle.std.specs.Prelude.{None, Some}
use Rattle.std.proofs.lemmas.List.{drop_all, drop_more}
use Rattle.std.proofs.lemmas.Result.{err_from_is_err_and}
use Rattle.lalrpop_grammar_rules.specs.RuleTable.{rules_with}
use Rattle.lalrpop_grammar_rules.specs.Views.{closed_view}
use Rattle.lalrpop_norm_keys.specs.PlaceSearch.{IsFoundInCalls}
use Rattle.lalrpop_norm_keys.proofs.CallerLemmas.{callers_here, callers_later, no_caller}
use Rattle.lalrpop_norm_keys.proofs.FoundLemmas.{item_among, told_wider}
use Rattle.lalrpop_norm_keys.proofs.callers.place_of_call.Goals as goal

pub returns-in_err-span-clause-fault : goal.returns-in_err-span-clause-fault
returns-in_err-span-clause-fault g c =
    let t = rules_with (g.F.Finder.finds c.args.finder.now) c.args.rules.now in
    let callers = c.args.callers.now in
    let y = c.caller-item.result in
    let p = err_from_is_err_and c.from_residual.result c.from_residual.ensures.1 in
    rw (p.1, p.2)
    (told_wider t (g.F.Finder.too_deep c.args.finder.now) (closed_view y ∷ []) (map closed_view callers)
    (λ z i. item_among closed_view callers c.loop-caller.caller-index y z c.loop-caller-test.true c.caller-item.is i) _
    c.in_err-span.ensures.fault)

pub returns-in-Some-clause-place : goal.returns-in-Some-clause-place
returns-in-Some-clause-place g c =
    let t = rules_with (g.F.Finder.finds c.args.finder.now) c.args.rules.now in
    let ys = c.args.callers.now in
    let i = c.loop-caller.caller-index in
    let y = c.caller-item.result in
    let x = closed_view c.args.call.now in
    let found = Some c.in-Some.span in
    let here : drop i ys ≡ y ∷ drop (i + 1) ys =
    drop_more ys i y c.loop-caller-test.true ∙ ap (λ z. z ∷ drop (i + 1) ys) (sym c.caller-item.is) in
    let one : IsFoundInCalls t (closed_view y ∷ []) x found =
    subst (λ f. IsFoundInCalls t (closed_view y ∷ []) x f) c.in-Some.is c.in_ok-span.ensures.place in
    c.loop-caller.invariant found
    (subst (λ l. IsFoundInCalls t (map closed_view l) x found) (sym here)
    (callers_here t (closed_view y) (map closed_view (drop (i + 1) ys)) x c.in-Some.span one))

pub loop-caller-preserved : goal.loop-caller-preserved
loop-caller-preserved g c =
    let t = rules_with (g.F.Finder.finds c.args.finder.now) c.args.rules.now in
    let ys = c.args.callers.now in
    let i = c.loop-caller.caller-index in
    let y = c.caller-item.result in
    let x = closed_view c.args.call.now in
    let here : drop i ys ≡ y ∷ drop (i + 1) ys =
    drop_more ys i y c.loop-caller-test.true ∙ ap (λ z. z ∷ drop (i + 1) ys) (sym c.caller-item.is) in
    let none : IsFoundInCalls t (closed_view y ∷ []) x None =
    subst (λ f. IsFoundInCalls t (closed_view y ∷ []) x f) c.in_default.is c.in_ok-span.ensures.place in
    λ found w. c.loop-caller.invariant found
    (subst (λ l. IsFoundInCalls t (map closed_view l) x found) (sym here)
    (callers_later t (closed_view y) (map closed_view (drop (i + 1) ys)) x found none w))

pub returns-clause-place : goal.returns-clause-place
returns-clause-place g c =
    let t = rules_with (g.F.Finder.finds c.args.finder.now) c.args.rules.now in
    let ys = c.args.callers.now in
    let i = c.loop-caller.caller-index in
    let x = closed_view c.args.call.now in
    let nothing : drop i ys ≡ [] = drop_all i ys c.loop-caller-test.false in
    c.loop-caller.invariant None
    (subst (λ l. IsFoundInCalls t (map closed_view l) x None) (sym nothing) (no_caller t x))
