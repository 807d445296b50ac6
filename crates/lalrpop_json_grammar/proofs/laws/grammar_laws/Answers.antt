use Rattle.lalrpop_json_grammar.proofs.GrammarLemmas.{grammar_takes, grammar_again}
use Rattle.lalrpop_json_grammar.proofs.laws.grammar_laws.Goals as goal

pub returns-clause-read_is_spelled : goal.returns-clause-read_is_spelled
returns-clause-read_is_spelled c = grammar_takes

pub returns-clause-spelled_is_read : goal.returns-clause-spelled_is_read
returns-clause-spelled_is_read c = grammar_again
