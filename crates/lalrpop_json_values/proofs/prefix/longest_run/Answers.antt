use Rattle.std.proofs.Common.{arith}
use Rattle.lalrpop_json_values.proofs.PrefixRunLemmas.{run_begins, past_underscore, past_other}
use Rattle.lalrpop_json_values.proofs.prefix.longest_run.Goals as goal
use Rattle.lalrpop_json_values.proofs.prefix.longest_run.Goals.{then-byte-eq95, else-byte-eq95}

pub loop-byte-init : goal.loop-byte-init
loop-byte-init c = record { within = omega arith; counted = omega arith; so_far = run_begins c.as_bytes-bytes.result.now }

pub loop-byte-preserved : goal.loop-byte-preserved
loop-byte-preserved c =
    let inv = c.loop-byte.invariant in
    let at = past_underscore c.loop-byte.run c.loop-byte.longest c.loop-byte.byte-index c.as_bytes-bytes.result.now c.loop-byte-test.true in
    let other = past_other c.loop-byte.run c.loop-byte.longest c.loop-byte.byte-index c.as_bytes-bytes.result.now c.loop-byte-test.true in
    elim c.if-byte-eq95.branch [
      | then-byte-eq95 w ↦ record {
        within = omega arith;
        counted = omega arith;
        so_far = rw (w.run-is, w.longest-is, w.larger-longest.ensures) (at w.if-byte-eq95.true inv.so_far);
      }
      | else-byte-eq95 w ↦ record {
        within = omega arith;
        counted = omega arith;
        so_far = rw (w.run-is, w.longest-is) (other w.if-byte-eq95.false inv.within inv.so_far);
      }
    ]
