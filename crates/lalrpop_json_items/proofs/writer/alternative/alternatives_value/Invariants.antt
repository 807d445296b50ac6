use Rattle.lalrpop_json_items.specs.Spelling.{alternative_json}
use Rattle.lalrpop_json_symbols.proofs.ListLemmas.{AreFirst}
use Rattle.lalrpop_json_items.proofs.writer.alternative.alternatives_value.Given as goal

abbrev pub invariant-loop-alternative : goal.invariant-loop-alternative
invariant-loop-alternative l = AreFirst alternative_json l.alternatives l.values.items l.alternative-index
