use Rattle.std.proofs.Common.{◌∙◌, length, refl, sym, map}
use Rattle.std.proofs.lemmas.List.{length-map}
use Rattle.lalrpop_grammar_symbols.specs.Symbols.{closed_list}
use Rattle.lalrpop_grammar_symbols.specs.declared.names.NonterminalString.{NonterminalString}
use Rattle.lalrpop_grammar_rules.specs.Details.{enabled_rule_view}
use Rattle.lalrpop_grammar_rules.specs.RuleTable.{rules_with}
use Rattle.lalrpop_grammar_rules.specs.Views.{binding_of, closed_view, closeds}
use Rattle.lalrpop_norm_keys.proofs.InstanceLemmas.{as_many, binding_same, symbols_err}
use Rattle.lalrpop_norm_keys.proofs.CallerLemmas.{call_found, no_rule_stands_in}
use Rattle.lalrpop_norm_keys.proofs.FoundLemmas.{told_of_call}
use Rattle.lalrpop_norm_keys.proofs.StandingCallLemmas.{other_length}
use Rattle.lalrpop_norm_keys.proofs.callers.place_in_call.Goals as goal

pub returns-then-len-called-clause-place : goal.returns-then-len-called-clause-place
returns-then-len-called-clause-place g c =
    let t = rules_with (g.F.Finder.finds c.args.finder.now) c.args.rules.now in
    let called = c.in-Some.called in
    let args = closeds (map closed_view called.args.now) in
    let r = enabled_rule_view c.args.rules.now.features.now c.in-Some-find.rule.now in
    let ps = (c.in-Some-find.rule.now.written.now).args in
    no_rule_stands_in t (closed_view c.args.caller.now) (closed_view c.args.call.now) called.name.now args c.in-Some.ensures.some
    (λ s. other_length t called.name.now (length (closed_list args)) r s.rule c.in-Some-find.ensures.0 s.is_rule
    (λ e. c.if-len-called.true (c.len.ensures ∙ sym (length-map ps (λ (q : NonterminalString). q.0)) ∙ sym e
    ∙ as_many called.args.now)) s.arguments)

pub returns-clause-place : goal.returns-clause-place
returns-clause-place g c =
    let t = rules_with (g.F.Finder.finds c.args.finder.now) c.args.rules.now in
    let called = c.in-Some.called in
    let args = closeds (map closed_view called.args.now) in
    let r = enabled_rule_view c.args.rules.now.features.now c.in-Some-find.rule.now in
    let ps = (c.in-Some-find.rule.now.written.now).args in
    call_found t (closed_view c.args.caller.now) (closed_view c.args.call.now) called.name.now args r (binding_of ps called.args.now)
    c.in-Some.ensures.some c.in-Some-find.ensures.0
    (as_many called.args.now ∙ sym c.if-len-called.false ∙ c.len.ensures ∙ sym (length-map ps (λ (q : NonterminalString). q.0)))
    (binding_same r ps called.args.now refl) c.place_in_rule.result c.place_in_rule.ensures.place

pub returns-clause-fault : goal.returns-clause-fault
returns-clause-fault g c =
    let t = rules_with (g.F.Finder.finds c.args.finder.now) c.args.rules.now in
    let deep = g.F.Finder.too_deep c.args.finder.now in
    let called = c.in-Some.called in
    let args = closeds (map closed_view called.args.now) in
    let r = enabled_rule_view c.args.rules.now.features.now c.in-Some-find.rule.now in
    let ps = (c.in-Some-find.rule.now.written.now).args in
    told_of_call t deep (closed_view c.args.caller.now) called.name.now args c.place_in_rule.result c.in-Some.ensures.some
    (symbols_err t deep called.name.now args r c.in-Some-find.ensures.0 (binding_of ps called.args.now)
    (binding_same r ps called.args.now refl) c.place_in_rule.result c.place_in_rule.ensures.fault)
