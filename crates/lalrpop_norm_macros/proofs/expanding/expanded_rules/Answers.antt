use Rattle.std.proofs.Common.{map}
use Rattle.lalrpop_grammar.specs.Views.{grammar_view, nonterminal_view}
use Rattle.lalrpop_norm_keys.specs.Tables.{table_keys}
use Rattle.lalrpop_norm_macros.proofs.ResultLemmas.{answered, fault_of_found, made_of_found}
use Rattle.lalrpop_norm_macros.proofs.expanding.expanded_rules.Goals as goal

pub returns-clause-made : goal.returns-clause-made
returns-clause-made g c =
    made_of_found (g.F.Finder.finds c.args.finder.now) (grammar_view c.args.grammar.now) (map nonterminal_view) c.rules_of_keys.result
    (table_keys c.in_ok-keys.keys) (λ ready. (c.in_ok-keys.ensures.found ready).keys_right) c.rules_of_keys.ensures.made

pub returns-clause-right : goal.returns-clause-right
returns-clause-right g c = answered c.rules_of_keys.result (λ ready. (c.in_ok-keys.ensures.found ready).none)

pub returns-clause-fault : goal.returns-clause-fault
returns-clause-fault g c =
    fault_of_found (g.F.Finder.finds c.args.finder.now) (grammar_view c.args.grammar.now) (g.F.Finder.too_deep c.args.finder.now)
    c.args.limit c.rules_of_keys.result (table_keys c.in_ok-keys.keys) (λ ready. (c.in_ok-keys.ensures.found ready).keys_right)
    c.rules_of_keys.ensures.fault
