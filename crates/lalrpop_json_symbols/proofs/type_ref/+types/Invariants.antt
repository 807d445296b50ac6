use Rattle.std.proofs.Common.{◌+◌, ◌*◌}
use Rattle.serde_json.specs.Data.{depth}
use Rattle.lalrpop_json_document.specs.DocumentViews.{view}
use Rattle.lalrpop_json_symbols.specs.Types.{type_at}
use Rattle.lalrpop_json_values.proofs.ListReadingLemmas.{IsAt}
use Rattle.lalrpop_json_symbols.proofs.type_ref.+types.Given as goal

abbrev pub decreases-tuple_of : goal.decreases-tuple_of
decreases-tuple_of l = 4 * depth (view l.value.now) + 1

abbrev pub decreases-nominal_of : goal.decreases-nominal_of
decreases-nominal_of l = 4 * depth (view l.value.now) + 1

abbrev pub decreases-ref_of : goal.decreases-ref_of
decreases-ref_of l = 4 * depth (view l.value.now) + 1

abbrev pub decreases-type_of : goal.decreases-type_of
decreases-type_of l = 4 * depth (view l.value.now) + 2

abbrev pub decreases-type_in : goal.decreases-type_in
decreases-type_in l = 4 * depth (view l.value.now) + 3

abbrev pub decreases-types_of : goal.decreases-types_of
decreases-types_of l = 4 * depth (view l.value.now) + 1

abbrev pub decreases-referent_field : goal.decreases-referent_field
decreases-referent_field l = 4 * depth (view l.value.now)

abbrev pub decreases-types_field : goal.decreases-types_field
decreases-types_field l = 4 * depth (view l.value.now)

abbrev pub invariant-types_of-loop-index : goal.invariant-types_of-loop-index
invariant-types_of-loop-index l = IsAt (λ _. type_at) l.value-items l.types l.index
