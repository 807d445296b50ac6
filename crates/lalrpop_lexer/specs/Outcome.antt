-- Which of several patterns wins, or which tie, among those that match.
use Rattle.std.specs.Prelude.{◌≡◌, ℕ, ◌<◌, ◌≤◌, List, Option, Some, None, map, slice_index}
use Rattle.std.specs.Ordering.{match_ordering, nat_cmp}
use Rattle.lalrpop_lexer.specs.declared.outcome.Outcome.{Outcome}
use Rattle.lalrpop_lexer.specs.declared.outcome.Outcome.TheVariants.{Nothing, Wins, Ties}
use Rattle.lalrpop_lexer.specs.declared.outcome.Precedence.{Precedence}

-- precedences as numbers
abbrev pub numbers : List Precedence → List ℕ
numbers ps = map (λ (p : Precedence). p.0) ps

-- the pattern e matches, and each other one that matches has smaller precedence
pub record IsBest (M : ℕ → Type 0) (precedences : List ℕ) (n e : ℕ) : Type 0 where
  pub inside : e < n
  pub matches : M e
  pub above : (f : ℕ) → f < n → M f → (f ≡ e → ⊥) → slice_index precedences f < slice_index precedences e

-- the patterns e and f match, share a precedence, none that matches has a greater one, and they are the two last of these
pub record IsLastTie (M : ℕ → Type 0) (precedences : List ℕ) (n e f : ℕ) : Type 0 where
  pub apart : e < f
  pub inside : f < n
  pub first : M e
  pub second : M f
  pub same : slice_index precedences e ≡ slice_index precedences f
  pub greatest : (g : ℕ) → g < n → M g → slice_index precedences g ≤ slice_index precedences e
  pub last : (g h : ℕ) → g < h → h < n → M g → M h → slice_index precedences g ≡ slice_index precedences h
      → slice_index precedences h ≡ slice_index precedences e → (h ≤ f) × (h ≡ f → g ≤ e)

-- what holds of the patterns below n
abbrev pub IsOutcome : (ℕ → Type 0) → List ℕ → ℕ → Outcome → Type 0
IsOutcome M precedences n Nothing = (k : ℕ) → k < n → M k → ⊥
IsOutcome M precedences n (Wins e) = IsBest M precedences n e
IsOutcome M precedences n (Ties e f) = IsLastTie M precedences n e f

-- what is accepted of the patterns below n: the best one, or none
abbrev pub IsAccepted : (ℕ → Type 0) → List ℕ → ℕ → Option ℕ → Type 0
IsAccepted M precedences n None = (k : ℕ) → k < n → M k → ⊥
IsAccepted M precedences n (Some e) = IsBest M precedences n e

-- the outcome's patterns are below n
abbrev pub IsOutcomeBelow : ℕ → Outcome → Type 0
IsOutcomeBelow n Nothing = Unit {0}
IsOutcomeBelow n (Wins e) = e < n
IsOutcomeBelow n (Ties e f) = f < n

-- what the outcome becomes where the pattern n matches as well
abbrev pub outcome_with : List ℕ → Outcome → ℕ → Outcome
outcome_with precedences Nothing n = Wins n
outcome_with precedences (Wins e) n =
    match_ordering (nat_cmp (slice_index precedences n) (slice_index precedences e)) (Wins e) (Ties e n) (Wins n)
outcome_with precedences (Ties e f) n =
    match_ordering (nat_cmp (slice_index precedences n) (slice_index precedences f)) (Ties e f) (Ties f n) (Wins n)
