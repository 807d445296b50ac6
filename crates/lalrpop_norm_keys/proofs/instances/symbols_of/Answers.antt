use Rattle.std.proofs.Common.{◌∙◌, length, refl, sym, subst, map, None}
use Rattle.std.proofs.lemmas.List.{length-map}
use Rattle.lalrpop_grammar_symbols.specs.Symbols.{Closed, closed_list}
use Rattle.lalrpop_grammar_symbols.specs.declared.names.NonterminalString.{NonterminalString}
use Rattle.lalrpop_grammar_rules.specs.Details.{enabled_rule_view}
use Rattle.lalrpop_grammar_rules.specs.RuleTable.{rules_with}
use Rattle.lalrpop_grammar_rules.specs.Views.{binding_of, closed_view, closeds}
use Rattle.lalrpop_norm_theory.specs.KeyTables.{keys_in_all}
use Rattle.lalrpop_norm_theory.specs.UsedKeys.{KeyUses}
use Rattle.lalrpop_norm_keys.specs.Instances.{HasKeysOf}
use Rattle.lalrpop_norm_keys.specs.StandingCalls.{HasCallsOf}
use Rattle.lalrpop_norm_keys.proofs.InstanceLemmas.{as_many, binding_same, calls_ok, keys_of_nothing, keys_ok}
use Rattle.lalrpop_norm_keys.proofs.InstanceLemmas.{nothing_without_arguments, symbols_err}
use Rattle.lalrpop_norm_keys.proofs.StandingCallLemmas.{no_calls_without, other_length}
use Rattle.lalrpop_norm_keys.proofs.AskedLemmas.{asks_of_other, asks_of_rule_ok}
use Rattle.lalrpop_norm_keys.proofs.UseSideLemmas.{uses_nothing, uses_ok}
use Rattle.lalrpop_norm_keys.proofs.instances.symbols_of.Goals as goal

pub returns-in_default-clause-calls : goal.returns-in_default-clause-calls
returns-in_default-clause-calls g c =
    let t = rules_with (g.F.Finder.finds c.args.finder.now) c.args.rules.now in
    let n = c.args.name.now in
    let args = closeds (map closed_view c.args.args.now) in
    subst (λ l. HasCallsOf t (Closed.call n args None) (map closed_view l)) (sym c.new.ensures)
    (no_calls_without t n args (λ r i full. c.in_default.ensures r i))

pub returns-then-len-args-clause-calls : goal.returns-then-len-args-clause-calls
returns-then-len-args-clause-calls g c =
    let t = rules_with (g.F.Finder.finds c.args.finder.now) c.args.rules.now in
    let n = c.args.name.now in
    let args = closeds (map closed_view c.args.args.now) in
    let r = enabled_rule_view c.args.rules.now.features.now c.in-Some.rule.now in
    let ps = (c.in-Some.rule.now.written.now).args in
    subst (λ l. HasCallsOf t (Closed.call n args None) (map closed_view l)) (sym c.new-then-len-args.ensures)
    (no_calls_without t n args (λ q i full. other_length t n (length (closed_list args)) r q c.in-Some.ensures.0 i
    (λ e. c.if-len-args.true (c.len.ensures ∙ sym (length-map ps (λ (q : NonterminalString). q.0)) ∙ sym e
    ∙ as_many c.args.args.now)) full))

pub returns-then-len-args-clause-keys : goal.returns-then-len-args-clause-keys
returns-then-len-args-clause-keys g c = λ flat.
    let t = rules_with (g.F.Finder.finds c.args.finder.now) c.args.rules.now in
    let n = c.args.name.now in
    let args = closeds (map closed_view c.args.args.now) in
    let r = enabled_rule_view c.args.rules.now.features.now c.in-Some.rule.now in
    let ps = (c.in-Some.rule.now.written.now).args in
    subst (λ l. HasKeysOf t (Closed.call n args None) (map closed_view l)) (sym c.new-then-len-args.ensures)
    (keys_of_nothing t n args (nothing_without_arguments t n args r c.in-Some.ensures.0
    (λ e. c.if-len-args.true (c.len.ensures ∙ sym (length-map ps (λ (q : NonterminalString). q.0)) ∙ sym e
    ∙ as_many c.args.args.now))))

pub returns-clause-calls : goal.returns-clause-calls
returns-clause-calls g c =
    let t = rules_with (g.F.Finder.finds c.args.finder.now) c.args.rules.now in
    let n = c.args.name.now in
    let args = closeds (map closed_view c.args.args.now) in
    let r = enabled_rule_view c.args.rules.now.features.now c.in-Some.rule.now in
    let ps = (c.in-Some.rule.now.written.now).args in
    calls_ok t n args r c.in-Some.ensures.0
    (as_many c.args.args.now ∙ sym c.if-len-args.false ∙ c.len.ensures ∙ sym (length-map ps (λ (q : NonterminalString). q.0)))
    (binding_of ps c.args.args.now) (binding_same r ps c.args.args.now refl) c.bound_symbols.result c.bound_symbols.ensures.symbols

pub returns-clause-keys : goal.returns-clause-keys
returns-clause-keys g c =
    let t = rules_with (g.F.Finder.finds c.args.finder.now) c.args.rules.now in
    let n = c.args.name.now in
    let args = closeds (map closed_view c.args.args.now) in
    let r = enabled_rule_view c.args.rules.now.features.now c.in-Some.rule.now in
    let ps = (c.in-Some.rule.now.written.now).args in
    keys_ok t n args r c.in-Some.ensures.0
    (as_many c.args.args.now ∙ sym c.if-len-args.false ∙ c.len.ensures ∙ sym (length-map ps (λ (q : NonterminalString). q.0)))
    (binding_of ps c.args.args.now) (binding_same r ps c.args.args.now refl) c.bound_symbols.result c.bound_symbols.ensures.symbols

pub returns-clause-fault : goal.returns-clause-fault
returns-clause-fault g c =
    let t = rules_with (g.F.Finder.finds c.args.finder.now) c.args.rules.now in
    let n = c.args.name.now in
    let args = closeds (map closed_view c.args.args.now) in
    let r = enabled_rule_view c.args.rules.now.features.now c.in-Some.rule.now in
    let ps = (c.in-Some.rule.now.written.now).args in
    symbols_err t (g.F.Finder.too_deep c.args.finder.now) n args r c.in-Some.ensures.0 (binding_of ps c.args.args.now)
    (binding_same r ps c.args.args.now refl) c.bound_symbols.result c.bound_symbols.ensures.fault

pub returns-then-len-args-clause-asked : goal.returns-then-len-args-clause-asked
returns-then-len-args-clause-asked g c =
    let t = rules_with (g.F.Finder.finds c.args.finder.now) c.args.rules.now in
    let n = c.args.name.now in
    let args = closeds (map closed_view c.args.args.now) in
    let r = enabled_rule_view c.args.rules.now.features.now c.in-Some.rule.now in
    let ps = (c.in-Some.rule.now.written.now).args in
    asks_of_other t (g.F.Finder.too_deep c.args.finder.now) n args r c.in-Some.ensures.0
    (λ e. c.if-len-args.true (c.len.ensures ∙ sym (length-map ps (λ (q : NonterminalString). q.0)) ∙ sym e
    ∙ as_many c.args.args.now))

pub returns-clause-asked : goal.returns-clause-asked
returns-clause-asked g c =
    let t = rules_with (g.F.Finder.finds c.args.finder.now) c.args.rules.now in
    let n = c.args.name.now in
    let args = closeds (map closed_view c.args.args.now) in
    let r = enabled_rule_view c.args.rules.now.features.now c.in-Some.rule.now in
    let ps = (c.in-Some.rule.now.written.now).args in
    asks_of_rule_ok t (g.F.Finder.too_deep c.args.finder.now) n args r c.in-Some.ensures.0 (binding_of ps c.args.args.now)
    (binding_same r ps c.args.args.now refl) c.bound_symbols.result c.bound_symbols.ensures.asked

pub returns-in_default-clause-order : goal.returns-in_default-clause-order
returns-in_default-clause-order g c = λ flat.
    let t = rules_with (g.F.Finder.finds c.args.finder.now) c.args.rules.now in
    let n = c.args.name.now in
    let args = closeds (map closed_view c.args.args.now) in
    subst (λ l. KeyUses t (Closed.call n args None) (keys_in_all (closeds (map closed_view l)))) (sym c.new.ensures)
    (uses_nothing t n args (λ r i full. c.in_default.ensures r i))

pub returns-then-len-args-clause-order : goal.returns-then-len-args-clause-order
returns-then-len-args-clause-order g c = λ flat.
    let t = rules_with (g.F.Finder.finds c.args.finder.now) c.args.rules.now in
    let n = c.args.name.now in
    let args = closeds (map closed_view c.args.args.now) in
    let r = enabled_rule_view c.args.rules.now.features.now c.in-Some.rule.now in
    let ps = (c.in-Some.rule.now.written.now).args in
    subst (λ l. KeyUses t (Closed.call n args None) (keys_in_all (closeds (map closed_view l)))) (sym c.new-then-len-args.ensures)
    (uses_nothing t n args (λ q i full. other_length t n (length (closed_list args)) r q c.in-Some.ensures.0 i
    (λ e. c.if-len-args.true (c.len.ensures ∙ sym (length-map ps (λ (q : NonterminalString). q.0)) ∙ sym e
    ∙ as_many c.args.args.now)) full))

pub returns-clause-order : goal.returns-clause-order
returns-clause-order g c =
    let t = rules_with (g.F.Finder.finds c.args.finder.now) c.args.rules.now in
    let n = c.args.name.now in
    let args = closeds (map closed_view c.args.args.now) in
    let r = enabled_rule_view c.args.rules.now.features.now c.in-Some.rule.now in
    let ps = (c.in-Some.rule.now.written.now).args in
    uses_ok t n args r c.in-Some.ensures.0
    (as_many c.args.args.now ∙ sym c.if-len-args.false ∙ c.len.ensures ∙ sym (length-map ps (λ (q : NonterminalString). q.0)))
    (binding_of ps c.args.args.now) (binding_same r ps c.args.args.now refl) c.bound_symbols.result c.bound_symbols.ensures.symbols
