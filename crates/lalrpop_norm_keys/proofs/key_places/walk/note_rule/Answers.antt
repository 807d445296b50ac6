use Rattle.std.proofs.Common.{◌≡◌, [], ◌∷◌, ◌+◌, ◌∙◌, ap, refl, sym, subst, map, drop}
use Rattle.std.proofs.lemmas.List.{drop_all, drop_more}
use Rattle.std.proofs.lemmas.Result.{err_from_is_err_and}
use Rattle.lalrpop_grammar_language.specs.Levels.{levels, ranked_choices}
use Rattle.lalrpop_grammar_rules.specs.Details.{choices_view, enabled_rule_view}
use Rattle.lalrpop_grammar_rules.specs.RuleTable.{rules_with}
use Rattle.lalrpop_grammar_rules.specs.Views.{binding_of}
use Rattle.lalrpop_norm_keys.specs.Instances.{AreTight, TellsOfSome, kept_from}
use Rattle.lalrpop_norm_keys.proofs.SideLemmas.{kept_are_ranked, kept_are_tight, tells_later, tells_of_all, tight_first}
use Rattle.lalrpop_norm_keys.proofs.SideLemmas.{tight_others}
use Rattle.lalrpop_norm_keys.specs.GrammarPlaces.{PutsMetInChoices}
use Rattle.lalrpop_norm_keys.specs.Views.{met_view}
use Rattle.lalrpop_norm_keys.proofs.SideKeyLemmas.{met_next}
use Rattle.lalrpop_norm_keys.proofs.key_places.walk.note_rule.Goals as goal

pub loop-choice-init : goal.loop-choice-init
loop-choice-init g c =
    let features = c.args.rules.now.features.now in
    let rule = c.args.rule.now in
    let r = enabled_rule_view features rule in
    let n = (rule.written.now).name.0 in
    let t = rules_with (g.F.Finder.finds c.args.finder.now) c.args.rules.now in
    let b = binding_of (rule.written.now).args c.args.args.now in
    record {
      tight = subst (λ cs. AreTight (levels r) (choices_view n 0 cs)) (sym c.as_slice-choices.ensures)
          (kept_are_tight features rule c.requires.kept);
      left = λ new w. w;
      faults = λ f h. h;
    }

pub note_choice-requires-clause-tight : goal.note_choice-requires-clause-tight
note_choice-requires-clause-tight g c =
    let cs = c.as_slice-choices.result.now in
    let i = c.loop-choice.choice-index in
    let x = c.choice-item.result in
    let ls = levels (enabled_rule_view c.args.rules.now.features.now c.args.rule.now) in
    let n = (c.args.rule.now.written.now).name.0 in
    let here : drop i cs ≡ x ∷ drop (i + 1) cs =
    drop_more cs i x c.loop-choice-test.true ∙ ap (λ y. y ∷ drop (i + 1) cs) (sym c.choice-item.is) in
    tight_first ls n i x (drop (i + 1) cs) (subst (λ l. AreTight ls (choices_view n i l)) here c.loop-choice.invariant.tight)

pub returns-in_err-note_choice-clause-fault : goal.returns-in_err-note_choice-clause-fault
returns-in_err-note_choice-clause-fault g c =
    let features = c.args.rules.now.features.now in
    let rule = c.args.rule.now in
    let cs = c.as_slice-choices.result.now in
    let i = c.loop-choice.choice-index in
    let x = c.choice-item.result in
    let n = (rule.written.now).name.0 in
    let here : drop i cs ≡ x ∷ drop (i + 1) cs =
    drop_more cs i x c.loop-choice-test.true ∙ ap (λ y. y ∷ drop (i + 1) cs) (sym c.choice-item.is) in
    let p = err_from_is_err_and c.from_residual.result c.from_residual.ensures.1 in
    rw (p.1, p.2)
    (tells_of_all (g.F.Finder.finds c.args.finder.now) (g.F.Finder.too_deep c.args.finder.now)
    (binding_of (rule.written.now).args c.args.args.now) n i (drop i cs) (drop (i + 1) cs) cs x
    (ranked_choices (enabled_rule_view features rule)) here
    (ap (kept_from n 0) c.as_slice-choices.ensures ∙ kept_are_ranked features rule c.requires.kept) c.loop-choice.invariant.faults _
    c.in_err-note_choice.ensures.fault)

pub returns-clause-added : goal.returns-clause-added
returns-clause-added g c =
    let features = c.args.rules.now.features.now in
    let rule = c.args.rule.now in
    let r = enabled_rule_view features rule in
    let cs = c.as_slice-choices.result.now in
    let i = c.loop-choice.choice-index in
    let n = (rule.written.now).name.0 in
    let t = rules_with (g.F.Finder.finds c.args.finder.now) c.args.rules.now in
    let b = binding_of (rule.written.now).args c.args.args.now in
    let now = map met_view c.loop-choice.met in
    let nothing : drop i cs ≡ [] = drop_all i cs c.loop-choice-test.false in
    let done : PutsMetInChoices t r b (kept_from n i (drop i cs)) now now =
    subst (λ l. PutsMetInChoices t r b (kept_from n i l) now now) (sym nothing) refl in
    subst (λ ps. PutsMetInChoices t r b ps (map met_view c.args.met.now) now)
    (ap (kept_from n 0) c.as_slice-choices.ensures ∙ kept_are_ranked features rule c.requires.kept)
    (c.loop-choice.invariant.left now done)

pub loop-choice-preserved : goal.loop-choice-preserved
loop-choice-preserved g c =
    let features = c.args.rules.now.features.now in
    let rule = c.args.rule.now in
    let r = enabled_rule_view features rule in
    let n = (rule.written.now).name.0 in
    let t = rules_with (g.F.Finder.finds c.args.finder.now) c.args.rules.now in
    let deep = g.F.Finder.too_deep c.args.finder.now in
    let b = binding_of (rule.written.now).args c.args.args.now in
    let cs = c.as_slice-choices.result.now in
    let i = c.loop-choice.choice-index in
    let x = c.choice-item.result in
    let rest = drop (i + 1) cs in
    let old = map met_view c.loop-choice.met in
    let mid = map met_view c.note_choice.new.met in
    let here : drop i cs ≡ x ∷ rest =
    drop_more cs i x c.loop-choice-test.true ∙ ap (λ y. y ∷ rest) (sym c.choice-item.is) in
    record {
      tight = tight_others (levels r) n i x rest (subst
          (λ l. AreTight (levels r) (choices_view n i l)) here c.loop-choice.invariant.tight);
      left = λ new w. c.loop-choice.invariant.left new (subst (λ l. PutsMetInChoices t r b (kept_from n i l) old new) (sym here)
          (met_next t r b n i x rest old mid new c.in_ok-note_choice.ensures.added w));
      faults = λ f h. c.loop-choice.invariant.faults f (subst (λ l. TellsOfSome t.finds deep b (kept_from n i l) f) (sym here)
          (tells_later t.finds deep b n i x rest f h));
    }
