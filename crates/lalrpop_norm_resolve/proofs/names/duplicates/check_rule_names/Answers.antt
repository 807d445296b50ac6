use Rattle.std.proofs.Common.{ap, sym, ◌∙◌}
use Rattle.std.specs.Prelude.{option_map}
use Rattle.lalrpop_grammar.specs.Views.{grammar_view, nonterminal_view}
use Rattle.lalrpop_norm_resolve.proofs.DuplicateLemmas.{shared_rule_told}
use Rattle.lalrpop_norm_resolve.proofs.names.duplicates.check_rule_names.Goals as goal

pub returns-in-Some-clause-fault : goal.returns-in-Some-clause-fault
returns-in-Some-clause-fault c =
    shared_rule_told (grammar_view c.args.definitions.now.grammar.now) (nonterminal_view c.in-Some.rule.now) _
    (sym c.in_ok-rule.ensures ∙ ap (option_map (λ r. nonterminal_view r.now)) c.in-Some.is) c.duplicate_name.ensures
