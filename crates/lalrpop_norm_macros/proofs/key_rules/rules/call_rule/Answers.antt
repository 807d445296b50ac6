use Rattle.std.proofs.Common.{◌∙◌}
use Rattle.lalrpop_grammar.specs.Views.{nonterminal_view}
use Rattle.lalrpop_grammar_symbols.proofs.BoolLemmas.{ok_from}
use Rattle.lalrpop_norm_macros.proofs.CallRuleLemmas.{call_made, call_told, none_called}
use Rattle.lalrpop_norm_macros.proofs.key_rules.rules.call_rule.Goals as goal

pub returns-then-len-args-clause-made : goal.returns-then-len-args-clause-made
returns-then-len-args-clause-made g c =
    ok_from _ _ c.called_rule.result
    (λ made m. call_made c.args.keys.now (g.F.Finder.finds c.args.finder.now) c.args.called.now c.args.args.now c.args.name.now
    c.in-Some-Some.rule.now (nonterminal_view c.in-Some-Some.written.now) (nonterminal_view made) c.in-Some-Some.ensures
    c.in-Some-Some.ensures' m)
    c.called_rule.ensures.made

pub returns-then-len-args-clause-fault : goal.returns-then-len-args-clause-fault
returns-then-len-args-clause-fault g c =
    call_told c.args.keys.now (g.F.Finder.finds c.args.finder.now) c.args.called.now c.args.args.now
    (g.F.Finder.too_deep c.args.finder.now) c.in-Some-Some.rule.now (nonterminal_view c.in-Some-Some.written.now) c.called_rule.result
    c.in-Some-Some.ensures c.in-Some-Some.ensures' c.called_rule.ensures.fault

pub returns-in_ok-empty_rule-in-Some-Some-clause-made : goal.returns-in_ok-empty_rule-in-Some-Some-clause-made
returns-in_ok-empty_rule-in-Some-Some-clause-made g c = λ written k.
    absurd (none_called c.args.keys.now (g.F.Finder.finds c.args.finder.now) c.args.called.now c.args.args.now
    c.in-Some-Some.written.now written c.in-Some-Some.ensures' (λ e. c.if-len-args.false (c.len.ensures ∙ e)) k)
