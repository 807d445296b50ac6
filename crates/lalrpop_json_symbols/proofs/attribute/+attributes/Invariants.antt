use Rattle.std.proofs.Common.{◌+◌, ◌*◌}
use Rattle.serde_json.specs.Data.{depth}
use Rattle.lalrpop_json_document.specs.DocumentViews.{view}
use Rattle.lalrpop_json_symbols.specs.Attributes.{attribute_at}
use Rattle.lalrpop_json_values.proofs.ListReadingLemmas.{IsAt}
use Rattle.lalrpop_json_symbols.proofs.attribute.+attributes.Given as goal

abbrev pub decreases-paren_of : goal.decreases-paren_of
decreases-paren_of l = 6 * depth (view l.value.now) + 1

abbrev pub decreases-arg_of : goal.decreases-arg_of
decreases-arg_of l = 6 * depth (view l.value.now) + 2

abbrev pub decreases-arg_field : goal.decreases-arg_field
decreases-arg_field l = 6 * depth (view l.value.now) + 3

abbrev pub decreases-attribute_of : goal.decreases-attribute_of
decreases-attribute_of l = 6 * depth (view l.value.now) + 4

abbrev pub decreases-attribute_in : goal.decreases-attribute_in
decreases-attribute_in l = 6 * depth (view l.value.now) + 5

abbrev pub decreases-attributes_of : goal.decreases-attributes_of
decreases-attributes_of l = 6 * depth (view l.value.now) + 1

abbrev pub decreases-attributes_field : goal.decreases-attributes_field
decreases-attributes_field l = 6 * depth (view l.value.now)

abbrev pub invariant-attributes_of-loop-index : goal.invariant-attributes_of-loop-index
invariant-attributes_of-loop-index l = IsAt (λ _. attribute_at) l.value-items l.attributes l.index
