use Rattle.std.proofs.Common.{◌∙◌, ap, map, subst, sym}
use Rattle.lalrpop_grammar.specs.Views.{grammar_view, nonterminal_view}
use Rattle.lalrpop_grammar.specs.WrittenGrammar.{Grammar}
use Rattle.lalrpop_norm_chain.specs.Chains.{IsMacroResult}
use Rattle.lalrpop_norm_macros.specs.RuleItems.{other_items}
use Rattle.lalrpop_norm_macros.proofs.ResultLemmas.{others_stay}
use Rattle.lalrpop_norm_macros.proofs.expanding.expand_macros_by.Goals as goal

pub returns-clause-made : goal.returns-clause-made
returns-clause-made g c = λ ready.
    subst (IsMacroResult (g.F.Finder.finds c.args.finder.now) (grammar_view c.args.grammar)) (sym c.in_ok-with_rules.ensures)
    (c.in_ok-rules.ensures.made ready)

pub returns-clause-items : goal.returns-clause-items
returns-clause-items g c =
    ap (λ (v : Grammar). other_items v.items) c.in_ok-with_rules.ensures
    ∙ others_stay (grammar_view c.args.grammar).items (map nonterminal_view c.in_ok-rules.rules)
