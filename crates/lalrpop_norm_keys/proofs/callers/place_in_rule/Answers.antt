use Rattle.std.proofs.Common.{◌≡◌, [], ◌∷◌, ◌+◌, ◌∙◌, ap, sym, subst, drop}
use Rattle.std.specs.Prelude.{None, Some}
use Rattle.std.proofs.lemmas.List.{drop_all, drop_more}
use Rattle.std.proofs.lemmas.Result.{err_from_is_err_and}
use Rattle.lalrpop_grammar_language.specs.Levels.{levels, ranked_choices}
use Rattle.lalrpop_grammar_rules.specs.Details.{choices_view, enabled_rule_view}
use Rattle.lalrpop_grammar_rules.specs.RuleTable.{rules_with}
use Rattle.lalrpop_grammar_rules.specs.Views.{binding_of, closed_view}
use Rattle.lalrpop_norm_keys.specs.Instances.{AreTight, TellsOfSome, kept_from}
use Rattle.lalrpop_norm_keys.specs.PlaceSearch.{IsFoundInSides}
use Rattle.lalrpop_norm_keys.proofs.CallerLemmas.{no_side, sides_here, sides_later}
use Rattle.lalrpop_norm_keys.proofs.SideLemmas.{kept_are_ranked, kept_are_tight, tells_of_all, tells_later, tight_first, tight_others}
use Rattle.lalrpop_norm_keys.proofs.callers.place_in_rule.Goals as goal

pub loop-choice-init : goal.loop-choice-init
loop-choice-init g c =
    let features = c.args.rules.now.features.now in
    let rule = c.args.rule.now in
    let r = enabled_rule_view features rule in
    let n = (rule.written.now).name.0 in
    record {
      tight = subst (λ cs. AreTight (levels r) (choices_view n 0 cs)) (sym c.as_slice-choices.ensures)
          (kept_are_tight features rule c.requires.kept);
      left = λ found w. w;
      faults = λ f h. h;
    }

pub place_in_choice-requires-clause-tight : goal.place_in_choice-requires-clause-tight
place_in_choice-requires-clause-tight g c =
    let cs = c.as_slice-choices.result.now in
    let i = c.loop-choice.choice-index in
    let x = c.choice-item.result in
    let ls = levels (enabled_rule_view c.args.rules.now.features.now c.args.rule.now) in
    let n = (c.args.rule.now.written.now).name.0 in
    let here : drop i cs ≡ x ∷ drop (i + 1) cs =
    drop_more cs i x c.loop-choice-test.true ∙ ap (λ y. y ∷ drop (i + 1) cs) (sym c.choice-item.is) in
    tight_first ls n i x (drop (i + 1) cs) (subst (λ l. AreTight ls (choices_view n i l)) here c.loop-choice.invariant.tight)

pub returns-in_err-span-clause-fault : goal.returns-in_err-span-clause-fault
returns-in_err-span-clause-fault g c =
    let features = c.args.rules.now.features.now in
    let rule = c.args.rule.now in
    let cs = c.as_slice-choices.result.now in
    let i = c.loop-choice.choice-index in
    let x = c.choice-item.result in
    let n = (rule.written.now).name.0 in
    let here : drop i cs ≡ x ∷ drop (i + 1) cs =
    drop_more cs i x c.loop-choice-test.true ∙ ap (λ y. y ∷ drop (i + 1) cs) (sym c.choice-item.is) in
    let p = err_from_is_err_and c.from_residual.result c.from_residual.ensures.1 in
    rw (p.1, p.2)
    (tells_of_all (g.F.Finder.finds c.args.finder.now) (g.F.Finder.too_deep c.args.finder.now)
    (binding_of (rule.written.now).args c.args.args.now) n i (drop i cs) (drop (i + 1) cs) cs x
    (ranked_choices (enabled_rule_view features rule)) here
    (ap (kept_from n 0) c.as_slice-choices.ensures ∙ kept_are_ranked features rule c.requires.kept) c.loop-choice.invariant.faults _
    c.in_err-span.ensures.fault)

pub returns-clause-place : goal.returns-clause-place
returns-clause-place g c =
    let features = c.args.rules.now.features.now in
    let rule = c.args.rule.now in
    let r = enabled_rule_view features rule in
    let cs = c.as_slice-choices.result.now in
    let i = c.loop-choice.choice-index in
    let n = (rule.written.now).name.0 in
    let t = rules_with (g.F.Finder.finds c.args.finder.now) c.args.rules.now in
    let b = binding_of (rule.written.now).args c.args.args.now in
    let x = closed_view c.args.call.now in
    let nothing : drop i cs ≡ [] = drop_all i cs c.loop-choice-test.false in
    let done : IsFoundInSides t r b (kept_from n i (drop i cs)) x None =
    subst (λ l. IsFoundInSides t r b (kept_from n i l) x None) (sym nothing) (no_side t r b x) in
    subst (λ ps. IsFoundInSides t r b ps x None)
    (ap (kept_from n 0) c.as_slice-choices.ensures ∙ kept_are_ranked features rule c.requires.kept)
    (c.loop-choice.invariant.left None done)

pub returns-in-Some-clause-place : goal.returns-in-Some-clause-place
returns-in-Some-clause-place g c =
    let features = c.args.rules.now.features.now in
    let rule = c.args.rule.now in
    let r = enabled_rule_view features rule in
    let cs = c.as_slice-choices.result.now in
    let i = c.loop-choice.choice-index in
    let o = c.choice-item.result in
    let n = (rule.written.now).name.0 in
    let t = rules_with (g.F.Finder.finds c.args.finder.now) c.args.rules.now in
    let b = binding_of (rule.written.now).args c.args.args.now in
    let x = closed_view c.args.call.now in
    let found = Some c.in-Some.span in
    let here : drop i cs ≡ o ∷ drop (i + 1) cs =
    drop_more cs i o c.loop-choice-test.true ∙ ap (λ y. y ∷ drop (i + 1) cs) (sym c.choice-item.is) in
    let one : IsFoundInSides t r b (kept_from n i (o ∷ [])) x found =
    subst (λ f. IsFoundInSides t r b (kept_from n i (o ∷ [])) x f) c.in-Some.is (c.in_ok-span.ensures.place i) in
    let all : IsFoundInSides t r b (kept_from n i (drop i cs)) x found =
    subst (λ l. IsFoundInSides t r b (kept_from n i l) x found) (sym here)
    (sides_here t r b x n i o (drop (i + 1) cs) c.in-Some.span one) in
    subst (λ ps. IsFoundInSides t r b ps x found)
    (ap (kept_from n 0) c.as_slice-choices.ensures ∙ kept_are_ranked features rule c.requires.kept)
    (c.loop-choice.invariant.left found all)

pub loop-choice-preserved : goal.loop-choice-preserved
loop-choice-preserved g c =
    let rule = c.args.rule.now in
    let r = enabled_rule_view c.args.rules.now.features.now rule in
    let cs = c.as_slice-choices.result.now in
    let i = c.loop-choice.choice-index in
    let o = c.choice-item.result in
    let n = (rule.written.now).name.0 in
    let t = rules_with (g.F.Finder.finds c.args.finder.now) c.args.rules.now in
    let deep = g.F.Finder.too_deep c.args.finder.now in
    let b = binding_of (rule.written.now).args c.args.args.now in
    let x = closed_view c.args.call.now in
    let here : drop i cs ≡ o ∷ drop (i + 1) cs =
    drop_more cs i o c.loop-choice-test.true ∙ ap (λ y. y ∷ drop (i + 1) cs) (sym c.choice-item.is) in
    let none : IsFoundInSides t r b (kept_from n i (o ∷ [])) x None =
    subst (λ f. IsFoundInSides t r b (kept_from n i (o ∷ [])) x f) c.in_default.is (c.in_ok-span.ensures.place i) in
    record {
      tight = tight_others (levels r) n i o (drop (i + 1) cs)
          (subst (λ l. AreTight (levels r) (choices_view n i l)) here c.loop-choice.invariant.tight);
      left = λ found w. c.loop-choice.invariant.left found
          (subst (λ l. IsFoundInSides t r b (kept_from n i l) x found) (sym here)
          (sides_later t r b x n i o (drop (i + 1) cs) found none w));
      faults = λ f h. c.loop-choice.invariant.faults f
          (subst (λ l. TellsOfSome t.finds deep b (kept_from n i l) f) (sym here)
          (tells_later t.finds deep b n i o (drop (i + 1) cs) f h));
    }
