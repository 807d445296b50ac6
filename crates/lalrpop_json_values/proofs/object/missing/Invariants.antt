use Rattle.std.proofs.Common.{◌≡◌, drop}
use Rattle.lalrpop_json_document.specs.DocumentViews.{view}
use Rattle.lalrpop_json_values.specs.Objects.{first_missing}
use Rattle.lalrpop_json_values.proofs.object.missing.Given as goal

abbrev pub invariant-loop-key : goal.invariant-loop-key
invariant-loop-key l = first_missing (drop l.key-index l.wanted) (view l.value) ≡ first_missing l.wanted (view l.value)
