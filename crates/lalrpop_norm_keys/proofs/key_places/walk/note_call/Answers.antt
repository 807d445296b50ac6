use Rattle.std.proofs.Common.{◌∙◌, length, refl, sym, map}
use Rattle.std.proofs.lemmas.List.{length-map}
use Rattle.lalrpop_grammar_symbols.specs.Symbols.{closed_list}
use Rattle.lalrpop_grammar_symbols.specs.declared.names.NonterminalString.{NonterminalString}
use Rattle.lalrpop_grammar_rules.specs.Details.{enabled_rule_view}
use Rattle.lalrpop_grammar_rules.specs.RuleTable.{rules_with}
use Rattle.lalrpop_grammar_rules.specs.Views.{binding_of, closed_view, closeds}
use Rattle.lalrpop_norm_keys.proofs.InstanceLemmas.{as_many, binding_same, symbols_err}
use Rattle.lalrpop_norm_keys.proofs.FoundLemmas.{told_of_call}
use Rattle.lalrpop_norm_keys.proofs.StandingCallLemmas.{other_length}
use Rattle.lalrpop_norm_keys.specs.GrammarPlaces.{PutsMetInCall}
use Rattle.lalrpop_norm_keys.specs.Views.{met_view}
use Rattle.lalrpop_norm_keys.proofs.CallLemmas.{met_in_called, nothing_called}
use Rattle.lalrpop_norm_keys.proofs.key_places.walk.note_call.Goals as goal

pub returns-in_default-clause-added : goal.returns-in_default-clause-added
returns-in_default-clause-added g c =
    PutsMetInCall.uncalled (λ args r h. c.in_default.ensures.none h.name args h.call_is) refl

pub returns-in_default-find-clause-added : goal.returns-in_default-find-clause-added
returns-in_default-find-clause-added g c =
    PutsMetInCall.uncalled
    (nothing_called (rules_with (g.F.Finder.finds c.args.finder.now) c.args.rules.now) (closed_view c.args.call.now)
    c.in-Some.called.name.now (closeds (map closed_view c.in-Some.called.args.now)) c.in-Some.ensures.some
    (λ r i full. c.in_default-find.ensures r i)) refl

pub returns-then-len-called-clause-added : goal.returns-then-len-called-clause-added
returns-then-len-called-clause-added g c =
    let t = rules_with (g.F.Finder.finds c.args.finder.now) c.args.rules.now in
    let called = c.in-Some.called in
    let args = closeds (map closed_view called.args.now) in
    let r = enabled_rule_view c.args.rules.now.features.now c.in-Some-find.rule.now in
    let ps = (c.in-Some-find.rule.now.written.now).args in
    PutsMetInCall.uncalled (nothing_called t (closed_view c.args.call.now) called.name.now args c.in-Some.ensures.some
    (λ q i full. other_length t called.name.now (length (closed_list args)) r q c.in-Some-find.ensures.0 i
    (λ e. c.if-len-called.true (c.len.ensures ∙ sym (length-map ps (λ (q : NonterminalString). q.0)) ∙ sym e
    ∙ as_many called.args.now)) full)) refl

pub returns-clause-added : goal.returns-clause-added
returns-clause-added g c =
    let t = rules_with (g.F.Finder.finds c.args.finder.now) c.args.rules.now in
    let called = c.in-Some.called in
    let args = closeds (map closed_view called.args.now) in
    let r = enabled_rule_view c.args.rules.now.features.now c.in-Some-find.rule.now in
    let ps = (c.in-Some-find.rule.now.written.now).args in
    met_in_called t (closed_view c.args.call.now) called.name.now args r (binding_of ps called.args.now)
    (map met_view c.args.met.now) (map met_view c.note_rule.new.met) c.in-Some.ensures.some c.in-Some-find.ensures.0
    (as_many called.args.now ∙ sym c.if-len-called.false ∙ c.len.ensures ∙ sym (length-map ps (λ (q : NonterminalString). q.0)))
    (binding_same r ps called.args.now refl) c.note_rule.result c.note_rule.ensures.added

pub returns-clause-fault : goal.returns-clause-fault
returns-clause-fault g c =
    let t = rules_with (g.F.Finder.finds c.args.finder.now) c.args.rules.now in
    let deep = g.F.Finder.too_deep c.args.finder.now in
    let called = c.in-Some.called in
    let args = closeds (map closed_view called.args.now) in
    let r = enabled_rule_view c.args.rules.now.features.now c.in-Some-find.rule.now in
    let ps = (c.in-Some-find.rule.now.written.now).args in
    told_of_call t deep (closed_view c.args.call.now) called.name.now args c.note_rule.result c.in-Some.ensures.some
    (symbols_err t deep called.name.now args r c.in-Some-find.ensures.0 (binding_of ps called.args.now)
    (binding_same r ps called.args.now refl) c.note_rule.result c.note_rule.ensures.fault)
