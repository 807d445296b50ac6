use Rattle.std.proofs.Common.{◌∙◌, [], ◌∷◌, ap, arith, inl, map, refl, subst}
use Rattle.std.proofs.lemmas.List.{map-append, take_all}
use Rattle.std.proofs.lemmas.Result.{err_from_is_err_and}
use Rattle.lalrpop_norm_keys.proofs.FoundLemmas.{item_among}
use Rattle.lalrpop_norm_macros.proofs.CallRuleLemmas.{one_told}
use Rattle.lalrpop_grammar_symbols.specs.Views.{span_view}
use Rattle.lalrpop_grammar.specs.Views.{nonterminal_view}
use Rattle.lalrpop_grammar_rules.specs.Views.{closed_view}
use Rattle.lalrpop_norm_macros.specs.FinishedRules.{AreRulesFrom}
use Rattle.lalrpop_norm_macros.specs.WrittenKeys.{IsRuleOfKey, span_of_key}
use Rattle.lalrpop_norm_macros.proofs.NamedKeyLemmas.{key_at_place, key_below}
use Rattle.lalrpop_norm_macros.proofs.RuleListLemmas.{rules_put}
use Rattle.lalrpop_norm_macros.proofs.key_rules.keys.all_key_rules.Goals as goal

pub loop-place-preserved : goal.loop-place-preserved
loop-place-preserved g c = λ f spelled.
    let tables = c.args.tables.now in
    let finds = g.F.Finder.finds c.args.finder.now in
    let keys = c.args.keys.now in
    let i = c.loop-place.place in
    let x = c.index-keys-place.result in
    let r = nonterminal_view c.in_ok-key_rule.field-0 in
    let here = key_at_place tables.names.now keys i x c.requires.all c.loop-place-test.true c.index-keys-place.is in
    rules_put (λ j y q. IsRuleOfKey tables finds y (f y) (span_of_key c.args.spans.now (span_view c.args.otherwise) j) q) keys i x
    (map nonterminal_view c.loop-place.made) (map nonterminal_view c.push.new.self) r c.loop-place-test.true c.index-keys-place.is
    (ap (map nonterminal_view) c.in_ok-push.ensures.ok ∙ map-append nonterminal_view c.loop-place.made (c.in_ok-key_rule.field-0 ∷ []))
    (c.loop-place.invariant f spelled)
    (subst (λ p. IsRuleOfKey tables finds (closed_view x) (f (closed_view x)) p r) c.span_of-span.ensures
    (subst (λ n. IsRuleOfKey tables finds (closed_view x) n (span_view c.span_of-span.result) r)
    (c.in-Some.ensures f spelled (closed_view x) here) c.in_ok-key_rule.ensures.made))

pub returns-in_default-clause-made : goal.returns-in_default-clause-made
returns-in_default-clause-made g c = λ f spelled.
    let tables = c.args.tables.now in
    let w = key_below tables.names.now c.args.keys.now c.loop-place.place c.requires.all c.loop-place-test.true in
    absurd (c.in_default.ensures f spelled w.0 w.1)

pub returns-clause-made : goal.returns-clause-made
returns-clause-made g c = λ f spelled.
    let tables = c.args.tables.now in
    let finds = g.F.Finder.finds c.args.finder.now in
    subst (λ l. AreRulesFrom
    (λ j y q. IsRuleOfKey tables finds y (f y) (span_of_key c.args.spans.now (span_view c.args.otherwise) j) q) 0 (map closed_view l)
    (map nonterminal_view c.loop-place.made))
    (take_all c.loop-place.place c.args.keys.now (omega (arith, c.loop-place-test.false))) (c.loop-place.invariant f spelled)

pub returns-in_err-key_rule-clause-fault : goal.returns-in_err-key_rule-clause-fault
returns-in_err-key_rule-clause-fault g c =
    let keys = c.args.keys.now in
    let x = c.index-keys-place.result in
    let p = err_from_is_err_and c.from_residual.result c.from_residual.ensures.1 in
    rw (p.1, p.2)
    (one_told c.args.tables.now (g.F.Finder.finds c.args.finder.now) (g.F.Finder.too_deep c.args.finder.now) (map closed_view keys)
    (closed_view x)
    (item_among closed_view keys c.loop-place.place x (closed_view x) c.loop-place-test.true c.index-keys-place.is (inl refl)) _
    c.in_err-key_rule.ensures.fault)
