use Rattle.std.proofs.Common.{◌≡◌, ◌≤◌, ◌-◌, suc, string_bytes, string_len}
use Rattle.lalrpop_json_values.specs.Prefix.{underscores}
use Rattle.lalrpop_json_values.proofs.prefix.prefix_past.Given as goal

abbrev pub invariant-loop-prefix : goal.invariant-loop-prefix
invariant-loop-prefix l = record {
  run : string_bytes l.prefix ≡ underscores (string_len l.prefix);
  within : string_len l.prefix ≤ suc l.shorter;
}

abbrev pub decreases-loop-prefix : goal.decreases-loop-prefix
decreases-loop-prefix l = suc l.shorter - string_len l.prefix
