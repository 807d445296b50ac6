use Rattle.std.proofs.Common.{sym, subst, [], ◌∷◌}
use Rattle.std.proofs.lemmas.Result.{err_from_is_err_and}
use Rattle.lalrpop_grammar.specs.Views.{item_view, nonterminal_view}
use Rattle.lalrpop_grammar.specs.WrittenGrammar.{rules_of}
use Rattle.lalrpop_norm_resolve.specs.FoundFaults.{TellsOneOf, StandsInRules}
use Rattle.lalrpop_norm_resolve.specs.NameViews.{definition_names}
use Rattle.lalrpop_norm_resolve.proofs.RuleListLemmas.{fault_alone}
use Rattle.lalrpop_norm_resolve.proofs.names.resolving.resolved_item.Goals as goal

pub returns-in_err-resolved_rule-in-Nonterminal-clause-fault : goal.returns-in_err-resolved_rule-in-Nonterminal-clause-fault
returns-in_err-resolved_rule-in-Nonterminal-clause-fault c =
    let d = definition_names c.args.definitions.now in
    let p = err_from_is_err_and c.from_residual.result c.from_residual.ensures.1 in
    rw (p.1, p.2)
    (subst (λ it. TellsOneOf (StandsInRules d (rules_of (item_view it ∷ []))) c.in_err-resolved_rule-in-Nonterminal.field-0.0)
    (sym c.in-Nonterminal.is)
    (fault_alone d (nonterminal_view c.in-Nonterminal.rule) _ c.in_err-resolved_rule-in-Nonterminal.ensures.fault))
