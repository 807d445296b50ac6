use Rattle.std.proofs.Common.{◌≡◌, length}
use Rattle.lalrpop_lexer.proofs.GroupLemmas.{AreMarkedSoFar}
use Rattle.lalrpop_lexer.proofs.groups.marked_groups.Given as goal

abbrev pub invariant-loop-i : goal.invariant-loop-i
invariant-loop-i l = record {
  some : AreMarkedSoFar l.pieces l.marks l.i l.known.items l.groups.numbers.items l.groups.firsts.items;
  size : length l.known.items ≡ l.bound;
}
