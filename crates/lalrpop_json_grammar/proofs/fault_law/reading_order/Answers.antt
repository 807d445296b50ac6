use Rattle.lalrpop_json_grammar.proofs.StrictLemmas.{later, no_earlier}
use Rattle.lalrpop_json_grammar.proofs.fault_law.reading_order.Goals as goal

pub returns-clause-once : goal.returns-clause-once
returns-clause-once c = no_earlier

pub returns-clause-through : goal.returns-clause-through
returns-clause-through c = later
