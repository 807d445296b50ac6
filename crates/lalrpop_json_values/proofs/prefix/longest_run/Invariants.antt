use Rattle.std.proofs.Common.{◌≡◌, ◌≤◌, drop}
use Rattle.lalrpop_json_values.specs.Prefix.{longest_run}
use Rattle.lalrpop_json_values.proofs.PrefixRunLemmas.{run_past}
use Rattle.lalrpop_json_values.proofs.prefix.longest_run.Given as goal

abbrev pub invariant-loop-byte : goal.invariant-loop-byte
invariant-loop-byte l = record {
  within : l.run ≤ l.longest;
  counted : l.longest ≤ l.byte-index;
  so_far : run_past l.run l.longest (drop l.byte-index l.bytes) ≡ longest_run l.bytes;
}
