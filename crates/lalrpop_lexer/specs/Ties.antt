-- The first state with a tie.
use Rattle.std.specs.Prelude.{ℕ, ◌+◌, ◌<◌, List, Option, length, Contains}
use Rattle.lalrpop_lexer.specs.declared.error.DfaConstructionError.{DfaConstructionError}
use Rattle.lalrpop_lexer.specs.declared.error.DfaConstructionError.TheVariants as error
use Rattle.lalrpop_lexer.specs.Subsets.{set_at}
use Rattle.lalrpop_lexer.specs.Outcome.{IsLastTie, IsAccepted}

-- the words that lead to the state s match the pattern k
abbrev pub AcceptsPattern : List (List ℕ) → ℕ → ℕ → Type 0
AcceptsPattern sets s k = Contains (set_at sets s) (3 + k)

-- memory ran out; or the first of the states with a tie has this one
abbrev pub TellsTie : List (List ℕ) → List ℕ → DfaConstructionError → Type 0
TellsTie sets precedences (error.NfaConstructionError index why) = ⊥
TellsTie sets precedences (error.Ambiguity match0 match1) =
    (s : ℕ) × (s < length sets)
    × ((r : ℕ) → r < s → (o : Option ℕ) × IsAccepted (AcceptsPattern sets r) precedences (length precedences) o)
    × IsLastTie (AcceptsPattern sets s) precedences (length precedences) match0.0 match1.0
TellsTie sets precedences error.Memory = Unit {0}
