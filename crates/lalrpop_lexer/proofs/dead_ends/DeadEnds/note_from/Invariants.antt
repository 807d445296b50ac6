use Rattle.std.proofs.Common.{◌≡◌, ◌<◌, ◌++◌, ℕ, List, length}
use Rattle.std.specs.Str.{IsUtf8}
use Rattle.std.specs.Str.Iter.{chars_rest}
use Rattle.lalrpop_lexer.specs.Walks.{AreDeadEnds, IsDeadEnd}
use Rattle.lalrpop_lexer.proofs.dead_ends.DeadEnds.note_from.Given as goal

abbrev pub invariant-loop-left : goal.invariant-loop-left
invariant-loop-left l = record {
  inside : l.state < length l.dfa;
  end : IsDeadEnd l.dfa l.state (chars_rest l.left);
  utf8 : IsUtf8 (chars_rest l.left);
  front : (before : List ℕ) × (l.text ≡ before ++ chars_rest l.left);
  noted : (whole front : List ℕ) → whole ≡ front ++ l.text → AreDeadEnds l.dfa whole l.fn.self → AreDeadEnds l.dfa whole l.self;
}

abbrev pub decreases-loop-left : goal.decreases-loop-left
decreases-loop-left l = length (chars_rest l.left)
