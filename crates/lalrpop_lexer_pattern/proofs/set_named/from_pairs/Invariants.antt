use Rattle.std.proofs.Common.{◌≡◌, ℕ, map, take}
use Rattle.lalrpop_lexer_pattern.proofs.SetLemmas.{range_from}
use Rattle.lalrpop_lexer_pattern.proofs.set_named.from_pairs.Given as goal

abbrev pub invariant-loop-start : goal.invariant-loop-start
invariant-loop-start l = l.ranges.items ≡ map (λ (p : ℕ × ℕ). range_from p.0 p.1) (take l.start-index l.pairs)
