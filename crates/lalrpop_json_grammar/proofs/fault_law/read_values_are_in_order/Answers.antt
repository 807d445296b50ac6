use Rattle.lalrpop_json_grammar.proofs.InOrderLemmas.{read_in_order}
use Rattle.lalrpop_json_grammar.proofs.fault_law.read_values_are_in_order.Goals as goal

pub returns : goal.returns
returns c = read_in_order
