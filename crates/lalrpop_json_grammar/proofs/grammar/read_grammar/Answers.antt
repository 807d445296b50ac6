use Rattle.std.proofs.Common.{subst}
use Rattle.lalrpop_json_values.specs.Gives.{Gives}
use Rattle.lalrpop_json_grammar.specs.Grammars.{grammar_at}
use Rattle.lalrpop_json_grammar.proofs.GrammarLemmas.{gives_spelled, gives_found, gives_prefix}
use Rattle.lalrpop_json_grammar.proofs.grammar.read_grammar.Goals as goal

pub returns-clause-reads : goal.returns-clause-reads
returns-clause-reads c =
    subst (λ d. Gives c.grammar_of_document.result (grammar_at d)) c.in_ok-document.ensures c.grammar_of_document.ensures

pub returns-clause-spelled : goal.returns-clause-spelled
returns-clause-spelled c = gives_spelled _ _ (returns-clause-reads c)

pub returns-clause-found : goal.returns-clause-found
returns-clause-found c = gives_found _ _ (returns-clause-reads c)

pub returns-clause-prefix : goal.returns-clause-prefix
returns-clause-prefix c = gives_prefix _ _ (returns-clause-reads c)
