-- What stands in a pattern that no automaton is made for: the first, in the order of the tree, outside a greedy `{0}`.
use Rattle.std.specs.Prelude.{ℕ, zero, suc, Bool, true, false, Option, Some, None, is_some, if◌then◌else◌}
use Rattle.std.specs.Option.{option_or}
use Rattle.lalrpop_lexer_pattern.specs.Matches.{Pattern}
use Rattle.lalrpop_lexer_pattern.specs.declared.refusal.Refusal.{Refusal}
use Rattle.lalrpop_lexer_pattern.specs.declared.refusal.Refusal.TheVariants.{NamedCaptures, NonGreedy, LookAround}

-- the greatest count is none or more than 0
abbrev pub is_used : Option ℕ → Bool
is_used None = true
is_used (Some zero) = false
is_used (Some (suc n)) = true

abbrev pub refusal : Pattern → Option Refusal
refusal Pattern.empty = None
refusal (Pattern.literal cs) = None
refusal (Pattern.class ranges) = None
refusal (Pattern.look l) = Some LookAround
refusal (Pattern.capture name p) = if is_some name then Some NamedCaptures else refusal p
refusal (Pattern.repetition min max greedy p) = if greedy then (if is_used max then refusal p else None) else Some NonGreedy
refusal (Pattern.concat p q) = option_or (refusal p) (refusal q)
refusal (Pattern.alternation p q) = option_or (refusal p) (refusal q)
