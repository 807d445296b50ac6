use Rattle.std.proofs.Common.{◌<◌, [], None, length, get_or}
use Rattle.std.specs.Str.Iter.{chars_rest}
use Rattle.lalrpop_lexer.proofs.WalkLemmas.{IsWalking}
use Rattle.lalrpop_lexer.proofs.walk.walk_along.Given as goal

abbrev pub invariant-loop-c : goal.invariant-loop-c
invariant-loop-c l = record {
  inside : l.state < length l.dfa;
  walking : IsWalking l.dfa l.text (chars_rest l.left) (get_or l.dfa l.state (None, [])) l.walk;
}

abbrev pub decreases-loop-c : goal.decreases-loop-c
decreases-loop-c l = length (chars_rest l.left)
