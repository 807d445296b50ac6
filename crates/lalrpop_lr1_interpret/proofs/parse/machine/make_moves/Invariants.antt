use Rattle.std.proofs.Common.{◌≡◌}
use Rattle.lalrpop_lr1_interpret.proofs.RunLemmas.{IsRunning}
use Rattle.lalrpop_lr1_interpret.proofs.parse.machine.make_moves.Given as goal

abbrev pub invariant-moves : goal.invariant-moves
invariant-moves g l = record {
  running : IsRunning l.table l.tokens l.limit l.whole (g.S.TreeStack.stands l.stack) l.numbers.items l.at l.left l.next;
  same : g.S.TreeStack.given l.stack ≡ g.S.TreeStack.given l.fn.stack;
}

abbrev pub decreases-moves : goal.decreases-moves
decreases-moves g l = l.left
