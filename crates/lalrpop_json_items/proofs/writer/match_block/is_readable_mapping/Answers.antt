use Rattle.lalrpop_json_items.proofs.MatchSpellingLemmas.{of_terminal}
use Rattle.lalrpop_json_items.proofs.writer.match_block.is_readable_mapping.Goals as goal

pub returns-in-Terminal : goal.returns-in-Terminal
returns-in-Terminal c = of_terminal c.is_readable_terminal.result _ _ c.in-Terminal.is c.is_readable_terminal.ensures
