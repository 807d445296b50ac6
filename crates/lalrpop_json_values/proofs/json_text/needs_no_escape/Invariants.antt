use Rattle.std.proofs.Common.{◌≡◌, drop}
use Rattle.std.specs.List.{list_all}
use Rattle.lalrpop_json_values.specs.JsonText.{stands}
use Rattle.lalrpop_json_values.proofs.json_text.needs_no_escape.Given as goal

abbrev pub invariant-loop-byte : goal.invariant-loop-byte
invariant-loop-byte l = list_all stands (drop l.byte-index l.byte-items) ≡ list_all stands l.text
