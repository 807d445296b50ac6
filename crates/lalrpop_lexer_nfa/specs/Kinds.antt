-- Which states of an automaton accept, and which one rejects.
use Rattle.std.specs.Prelude.{◌≡◌, ◌≢◌, ℕ, ◌+◌, ◌<◌, ◌≤◌, ◌⊎◌, ◌↔◌, ◌++◌}
use Rattle.std.specs.Prelude.{List, Some, All, map, slice_get}
use Rattle.lalrpop_lexer_nfa.specs.declared.automaton.TheConstants.{ACCEPT, FIRST_ACCEPT, REJECT, START}
use Rattle.lalrpop_lexer_nfa.specs.declared.state.State.{State}
use Rattle.lalrpop_lexer_nfa.specs.declared.state.StateKind.{StateKind}
use Rattle.lalrpop_lexer_nfa.specs.declared.state.StateKind.TheVariants.{Accept, Reject, Neither}

-- the kinds of states, in their order
unfoldable pub kinds_of : List State → List StateKind
kinds_of states = map (λ (s : State). s.kind) states

-- where an automaton that was joined of so many patterns accepts; of one pattern alone none was joined
abbrev pub IsAcceptingPlace : ℕ → ℕ → Type 0
IsAcceptingPlace joined q = (q ≡ ACCEPT.0) ⊎ ((FIRST_ACCEPT ≤ q) × (q < FIRST_ACCEPT + joined))

-- states accept at just these places, one rejects, and the others do neither
pub record AreKinds (joined : ℕ) (kinds : List StateKind) : Type 0 where
  pub accepts : (q : ℕ) → (slice_get kinds q ≡ Some Accept) ↔ IsAcceptingPlace joined q
  pub rejects : (q : ℕ) → (slice_get kinds q ≡ Some Reject) ↔ (q ≡ REJECT.0)

-- in every automaton: `REJECT` alone rejects, and of the states up to `START` `ACCEPT` alone accepts; what accepts besides stands
-- in one run from `FIRST_ACCEPT` on
pub record AreKindsOf (kinds : List StateKind) : Type 0 where
  pub accepts : (q : ℕ) → q ≤ START.0 → (slice_get kinds q ≡ Some Accept) ↔ (q ≡ ACCEPT.0)
  pub rejects : (q : ℕ) → (slice_get kinds q ≡ Some Reject) ↔ (q ≡ REJECT.0)
  pub run : (q : ℕ) → FIRST_ACCEPT ≤ q → slice_get kinds (q + 1) ≡ Some Accept → slice_get kinds q ≡ Some Accept

-- where a state of the kind stands in an automaton
abbrev pub IsPlaceOf : StateKind → ℕ → Type 0
IsPlaceOf Accept q = (q ≡ ACCEPT.0) ⊎ (FIRST_ACCEPT ≤ q)
IsPlaceOf Reject q = q ≡ REJECT.0
IsPlaceOf Neither q = (q ≢ ACCEPT.0) × (q ≢ REJECT.0)

-- more states came, all of which neither accept nor reject
pub record AddsNeither (old new : List StateKind) : Type 0 where
  pub more : List StateKind
  pub is : new ≡ old ++ more
  pub neither : All (λ kind. kind ≡ Neither) more
