use Rattle.std.proofs.Common.{◌≡◌, drop}
use Rattle.lalrpop_json_values.specs.Objects.{is_listed}
use Rattle.lalrpop_json_values.proofs.object.is_listed.Given as goal

abbrev pub invariant-loop-key : goal.invariant-loop-key
invariant-loop-key l = is_listed (drop l.key-index l.wanted) l.name ≡ is_listed l.wanted l.name
