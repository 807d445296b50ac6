use Rattle.std.proofs.Common.{◌≡◌, ◌≤◌, length}
use Rattle.lalrpop_plain_tables.proofs.lines.grammar.read_lines.Given as goal

abbrev pub invariant-loop-line : goal.invariant-loop-line
invariant-loop-line l = record {
  counted : l.number ≡ length l.yielded;
  few : length l.reading.actions ≤ length l.yielded;
}
