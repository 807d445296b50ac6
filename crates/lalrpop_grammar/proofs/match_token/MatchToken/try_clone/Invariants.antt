use Rattle.std.proofs.Common.{◌≡◌, take}
use Rattle.lalrpop_grammar.proofs.match_token.MatchToken.try_clone.Given as goal

abbrev pub invariant-loop-group : goal.invariant-loop-group
invariant-loop-group l = l.contents ≡ take l.group-index l.group-items
