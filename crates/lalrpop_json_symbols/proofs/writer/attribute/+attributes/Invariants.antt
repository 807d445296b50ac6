use Rattle.lalrpop_json_symbols.specs.Spelling.{attribute_json}
use Rattle.lalrpop_json_symbols.proofs.ListLemmas.{AreFirst}
use Rattle.lalrpop_json_symbols.proofs.writer.attribute.+attributes.Given as goal

abbrev pub invariant-attributes_value-loop-attribute : goal.invariant-attributes_value-loop-attribute
invariant-attributes_value-loop-attribute l = AreFirst attribute_json l.attributes l.values.items l.attribute-index
