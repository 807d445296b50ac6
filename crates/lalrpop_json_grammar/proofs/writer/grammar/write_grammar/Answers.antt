use Rattle.lalrpop_json_grammar.proofs.GrammarSpellingLemmas.{reads_back, writes_again}
use Rattle.lalrpop_json_grammar.proofs.writer.grammar.write_grammar.Goals as goal

pub returns-clause-read_back : goal.returns-clause-read_back
returns-clause-read_back c = reads_back c.written_value.result c.args.grammar.now c.written_value.ensures

pub returns-clause-again : goal.returns-clause-again
returns-clause-again c = writes_again c.written_value.result c.args.grammar.now c.written_value.ensures
