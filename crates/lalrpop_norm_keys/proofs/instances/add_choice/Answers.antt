use Rattle.std.proofs.Common.{[], ◌∷◌, refl, inl, subst}
use Rattle.lalrpop_grammar_language.specs.Levels.{levels}
use Rattle.lalrpop_grammar_rules.specs.Details.{choice_view, choices_view, enabled_rule_view}
use Rattle.lalrpop_grammar_rules.specs.Views.{binding_of}
use Rattle.lalrpop_norm_keys.specs.Instances.{AreTight}
use Rattle.lalrpop_norm_keys.proofs.SideLemmas.{tells_one_err}
use Rattle.lalrpop_norm_keys.proofs.AskedLemmas.{askable_one_ok}
use Rattle.lalrpop_norm_keys.proofs.instances.add_choice.Goals as goal

pub add_side-requires-clause-tighter : goal.add_side-requires-clause-tighter
add_side-requires-clause-tighter g c =
    let ls = levels (enabled_rule_view c.args.rules.now.features.now c.args.rule.now) in
    let n = (c.args.rule.now.written.now).name.0 in
    let here = subst (λ o. AreTight ls (choices_view n 0 (o ∷ []))) c.in-Some.is c.requires.tight in
    here (choice_view n 0 c.in-Some.choice) (inl refl)

pub returns-in-Some-clause-fault : goal.returns-in-Some-clause-fault
returns-in-Some-clause-fault g c =
    tells_one_err (g.F.Finder.finds c.args.finder.now) (g.F.Finder.too_deep c.args.finder.now)
    (binding_of (c.args.rule.now.written.now).args c.args.args.now) (c.args.rule.now.written.now).name.0 c.in-Some.choice c.args.choice.now
    c.in-Some.is c.add_side.result c.add_side.ensures.fault

pub returns-in-Some-clause-asked : goal.returns-in-Some-clause-asked
returns-in-Some-clause-asked g c =
    askable_one_ok (g.F.Finder.finds c.args.finder.now) (g.F.Finder.too_deep c.args.finder.now)
    (binding_of (c.args.rule.now.written.now).args c.args.args.now) (c.args.rule.now.written.now).name.0 c.in-Some.choice c.args.choice.now
    c.in-Some.is c.add_side.result c.add_side.ensures.asked
