-- Sets of states as lists of their members, and what they lead to.
use Rattle.std.specs.Prelude.{◌≡◌, ℕ, ◌⊎◌, List, [], ◌∷◌, ◌++◌, ◌↔◌, Contains}
use Rattle.lalrpop_lexer_nfa.specs.Paths.{Graph, HasEpsilonEdge, HasTransition}

-- a number that wasn't there comes after the others, and one that was changes nothing
abbrev pub Inserts : List ℕ → ℕ → List ℕ → Type 0
Inserts old x new = (Contains old x × (new ≡ old)) ⊎ ((Contains old x → ⊥) × (new ≡ old ++ x ∷ []))

-- epsilon edges lead from x to y
pub data EpsilonReaches (t : Graph) (x : ℕ) : ℕ → Type 0 where
  here : EpsilonReaches t x x
  along : {z : ℕ} (y : ℕ) → EpsilonReaches t x y → HasEpsilonEdge t y z → EpsilonReaches t x z

-- new is the epsilon closure of old: it has just what epsilon edges lead to from there
pub record IsEpsilonClosure (t : Graph) (old new : List ℕ) : Type 0 where
  pub only : (y : ℕ) → Contains new y → (x : ℕ) × Contains old x × EpsilonReaches t x y
  pub all : (x y : ℕ) → Contains old x → EpsilonReaches t x y → Contains new y

-- new has just what transitions that read c lead to from old, and what follows from there
pub record IsSubsetStep (t : Graph) (old : List ℕ) (c : ℕ) (new : List ℕ) : Type 0 where
  pub only : (y : ℕ) → Contains new y → (q x : ℕ) × Contains old q × HasTransition t q c x × EpsilonReaches t x y
  pub all : (q x y : ℕ) → Contains old q → HasTransition t q c x → EpsilonReaches t x y → Contains new y

-- the members of old come first, then the states that the epsilon edges from q lead to
pub record HasEpsilonTargets (t : Graph) (q : ℕ) (old new : List ℕ) : Type 0 where
  pub after : (more : List ℕ) × (new ≡ old ++ more)
  pub only : (x : ℕ) → Contains new x → Contains old x ⊎ HasEpsilonEdge t q x
  pub all : (x : ℕ) → HasEpsilonEdge t q x → Contains new x

-- the word leads from s to the state
pub data IsReachedBy (t : Graph) (s : ℕ) : List ℕ → ℕ → Type 0 where
  start : IsReachedBy t s [] s
  epsilon : {w : List ℕ} {r : ℕ} (q : ℕ) → IsReachedBy t s w q → HasEpsilonEdge t q r → IsReachedBy t s w r
  transition : {w : List ℕ} {r : ℕ} (q c : ℕ) → IsReachedBy t s w q → HasTransition t q c r → IsReachedBy t s (w ++ c ∷ []) r

-- the set has just the states that the word leads to from s
abbrev pub IsReachedSet : Graph → ℕ → List ℕ → List ℕ → Type 0
IsReachedSet t s w set = (q : ℕ) → Contains set q ↔ IsReachedBy t s w q

-- the members of old, and the states that the transitions from q lead to which read c
pub record AddsTransitionTargets (t : Graph) (q c : ℕ) (old new : List ℕ) : Type 0 where
  pub kept : (x : ℕ) → Contains old x → Contains new x
  pub only : (x : ℕ) → Contains new x → Contains old x ⊎ HasTransition t q c x
  pub all : (x : ℕ) → HasTransition t q c x → Contains new x

-- the states that the transitions from some states lead to which read c
pub record AreTransitionTargets (t : Graph) (from : List ℕ) (c : ℕ) (new : List ℕ) : Type 0 where
  pub only : (x : ℕ) → Contains new x → (q : ℕ) × Contains from q × HasTransition t q c x
  pub all : (q x : ℕ) → Contains from q → HasTransition t q c x → Contains new x
