use Rattle.lalrpop_json_items.proofs.AlternativeSpellingLemmas.{of_none}
use Rattle.lalrpop_json_items.proofs.writer.alternative.is_readable_action.Goals as goal

pub returns-in-None : goal.returns-in-None
returns-in-None c = of_none c.args.action.now c.in-None.is

pub returns-in-Some : goal.returns-in-Some
returns-in-Some c = rw c.in-Some.is c.is_code.ensures
