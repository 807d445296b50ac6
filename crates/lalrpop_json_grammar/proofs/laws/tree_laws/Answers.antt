use Rattle.lalrpop_json_grammar.proofs.TreeLemmas.{tree_takes, tree_again}
use Rattle.lalrpop_json_grammar.proofs.laws.tree_laws.Goals as goal

pub returns-clause-read_is_spelled : goal.returns-clause-read_is_spelled
returns-clause-read_is_spelled c = tree_takes

pub returns-clause-spelled_is_read : goal.returns-clause-spelled_is_read
returns-clause-spelled_is_read c = tree_again
