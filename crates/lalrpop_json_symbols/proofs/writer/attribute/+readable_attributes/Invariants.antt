use Rattle.lalrpop_json_symbols.specs.Readable.{IsReadableAttribute}
use Rattle.lalrpop_json_symbols.proofs.EachLemmas.{RestDecides}
use Rattle.lalrpop_json_symbols.proofs.writer.attribute.+readable_attributes.Given as goal

abbrev pub invariant-are_readable_attributes-loop-attribute : goal.invariant-are_readable_attributes-loop-attribute
invariant-are_readable_attributes-loop-attribute l = RestDecides (λ _. IsReadableAttribute) l.attributes l.attribute-index
