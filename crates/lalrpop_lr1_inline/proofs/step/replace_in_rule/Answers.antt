use Rattle.std.proofs.Common.{◌≡◌, ◌+◌, ◌∙◌, List, ap, arith, false, length, subst, sym, vec_len}
use Rattle.std.specs.List.{list_any}
use Rattle.lalrpop_grammar_repr.specs.declared.production.Production.{Production}
use Rattle.lalrpop_lr1_inline.specs.InliningSteps.{AddsDefinitions, data_after, is_place}
use Rattle.lalrpop_lr1_inline.proofs.MadeLemmas.{adds_none, unnamed_none, unnamed_stay}
use Rattle.lalrpop_lr1_inline.proofs.step.replace_in_rule.Goals as goal

-- none of the productions names it
none_names : (c : goal.Then-not-name_it) → list_any (λ p. list_any (is_place c.args.name.now.0) p.symbols) c.args.rule.productions ≡ false
none_names c =
    sym (ap (list_any (λ (p : Production). list_any (is_place c.args.name.now.0) p.symbols)) c.as_slice.ensures)
    ∙ sym c.name_it.ensures ∙ c.if-not-name_it.true

pub returns-then-not-name_it-clause-rule : goal.returns-then-not-name_it-clause-rule
returns-then-not-name_it-clause-rule c =
    ap (data_after c.args.rule)
    (sym (unnamed_stay c.args.name.now.0 c.args.sources.now c.args.rule.productions (length c.args.actions.now + vec_len c.args.definitions.now)
    (none_names c)))

pub returns-then-not-name_it-clause-definitions : goal.returns-then-not-name_it-clause-definitions
returns-then-not-name_it-clause-definitions c =
    subst (λ l. AddsDefinitions c.args.actions.now l c.args.definitions.now.items c.args.definitions.now.items)
    (sym (unnamed_none c.args.name.now.0 c.args.sources.now c.args.rule.productions (none_names c)))
    (adds_none c.args.actions.now c.args.definitions.now.items)

pub returns-then-not-name_it-clause-count : goal.returns-then-not-name_it-clause-count
returns-then-not-name_it-clause-count c =
    let none = ap length (unnamed_none c.args.name.now.0 c.args.sources.now c.args.rule.productions (none_names c)) in
    omega (arith, none)
