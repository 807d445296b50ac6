use Rattle.std.proofs.Common.{◌≡◌, take}
use Rattle.lalrpop_grammar.proofs.match_token.MatchContents.try_clone.Given as goal

abbrev pub invariant-loop-item : goal.invariant-loop-item
invariant-loop-item l = l.items ≡ take l.item-index l.item-items
