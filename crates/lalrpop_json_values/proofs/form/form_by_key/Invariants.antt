use Rattle.std.proofs.Common.{◌≡◌, drop}
use Rattle.lalrpop_json_document.specs.DocumentViews.{view}
use Rattle.lalrpop_json_values.specs.Forms.{form_by_key}
use Rattle.lalrpop_json_values.proofs.form.form_by_key.Given as goal

abbrev pub invariant-loop-key : goal.invariant-loop-key
invariant-loop-key l = form_by_key (drop l.key-index l.rows) (view l.value) ≡ form_by_key l.rows (view l.value)
