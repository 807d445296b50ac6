use Rattle.std.proofs.Common.{◌≡◌, ◌∙◌, ap, map, subst, sym}
use Rattle.lalrpop_grammar_symbols.specs.Symbols.{Closed}
use Rattle.lalrpop_grammar_symbols.specs.Views.{span_view}
use Rattle.lalrpop_grammar.specs.Views.{nonterminal_view}
use Rattle.lalrpop_grammar_rules.specs.Views.{closed_view, closeds}
use Rattle.lalrpop_grammar_rules.proofs.CallLemmas.{seen-Call}
use Rattle.lalrpop_norm_macros.specs.WrittenKeys.{IsCallRule, IsRuleOfKey}
use Rattle.lalrpop_grammar_symbols.proofs.BoolLemmas.{ok_from}
use Rattle.lalrpop_norm_macros.proofs.CallRuleLemmas.{key_told}
use Rattle.lalrpop_norm_macros.proofs.key_rules.rules.key_rule.Goals as goal

pub returns-in-Call-clause-made : goal.returns-in-Call-clause-made
returns-in-Call-clause-made g c =
    let finds = g.F.Finder.finds c.args.finder.now in
    let seen : closed_view c.args.key.now ≡ Closed.call c.in-Call.called (closeds (map closed_view c.in-Call.args)) c.in-Call.field-2 =
    ap closed_view c.in-Call.is ∙ seen-Call c.in-Call.called c.in-Call.args c.in-Call.field-2 in
    ok_from _ _ c.call_rule.result
    (λ made m. subst (λ x. IsRuleOfKey c.args.keys.now finds x c.args.name.now (span_view c.args.span) (nonterminal_view made)) (sym seen)
    (subst (λ l. IsCallRule c.args.keys.now finds c.in-Call.called (closeds (map closed_view l)) c.args.name.now (nonterminal_view made))
    c.as_slice.ensures m))
    c.call_rule.ensures.made

pub returns-in-Call-clause-fault : goal.returns-in-Call-clause-fault
returns-in-Call-clause-fault g c =
    let seen : closed_view c.args.key.now ≡ Closed.call c.in-Call.called (closeds (map closed_view c.in-Call.args)) c.in-Call.field-2 =
    ap closed_view c.in-Call.is ∙ seen-Call c.in-Call.called c.in-Call.args c.in-Call.field-2 in
    key_told c.args.keys.now (g.F.Finder.finds c.args.finder.now) (g.F.Finder.too_deep c.args.finder.now) c.in-Call.called
    (closeds (map closed_view c.in-Call.args)) c.in-Call.field-2 (closed_view c.args.key.now) c.call_rule.result seen
    (rw c.as_slice.ensures at c.call_rule.ensures.fault)
