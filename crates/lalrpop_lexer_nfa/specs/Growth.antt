-- How an automaton's graph grows.
use Rattle.std.specs.Prelude.{◌≡◌, ◌≢◌, ℕ, ◌+◌, ◌-◌, ◌<◌, Bool, MatchBool, List, [], ◌++◌, Contains, length}
use Rattle.std.specs.Prelude.{map, slice_index}
use Rattle.lalrpop_lexer_pattern.specs.declared.class.Range.{Range}
use Rattle.lalrpop_lexer_nfa.specs.Kinds.{AddsNeither}
use Rattle.lalrpop_lexer_nfa.specs.Paths.{Graph, EpsilonEdge, TransitionEdge, HasEpsilonEdge, HasTransition}

-- no epsilon edge goes out from the state
abbrev pub HasNoEpsilonEdges : Graph → ℕ → Type 0
HasNoEpsilonEdges t q = (r : ℕ) → HasEpsilonEdge t q r → ⊥

-- no transition from the state reads a number
abbrev pub HasNoTransitions : Graph → ℕ → Type 0
HasNoTransitions t q = (c r : ℕ) → HasTransition t q c r → ⊥

-- no transition goes out from the state, not even one without numbers
abbrev pub HasNoTransitionEdges : Graph → ℕ → Type 0
HasNoTransitionEdges t q = (e : TransitionEdge) → Contains t.tests e → e.from ≡ q → ⊥

-- one more state s, without edges, which neither accepts nor rejects
pub record IsNewState (old new : Graph) (s : ℕ) : Type 0 where
  pub is : s ≡ old.count
  pub grows : new.count ≡ s + 1
  pub kinds : AddsNeither old.kinds new.kinds
  pub noops : new.noops ≡ old.noops
  pub tests : new.tests ≡ old.tests

abbrev pub epsilon_edges_from : ℕ → List ℕ → List EpsilonEdge
epsilon_edges_from q targets = map (λ r. record { from = q; to = r }) targets

abbrev pub transitions_from : ℕ → List Range → ℕ → List TransitionEdge
transitions_from q ranges to = map (λ range. record { from = q; start = range.start; end = range.end; to = to }) ranges

-- new epsilon edges from the state to each target
pub record HasNewEpsilonEdges (old new : Graph) (q : ℕ) (targets : List ℕ) : Type 0 where
  pub count : new.count ≡ old.count
  pub kinds : new.kinds ≡ old.kinds
  pub noops : new.noops ≡ old.noops ++ epsilon_edges_from q targets
  pub tests : new.tests ≡ old.tests

-- new transitions from the state that read the ranges
pub record HasNewTransitions (old new : Graph) (q : ℕ) (ranges : List Range) (to : ℕ) : Type 0 where
  pub count : new.count ≡ old.count
  pub kinds : new.kinds ≡ old.kinds
  pub noops : new.noops ≡ old.noops
  pub tests : new.tests ≡ old.tests ++ transitions_from q ranges to

-- whether an edge from the state would be the first of its run at the end of a list
abbrev pub BeginsRun : List ℕ → ℕ → Bool → Type 0
BeginsRun froms q begins =
    MatchBool begins ((i : ℕ) → i + 1 ≡ length froms → slice_index froms i ≢ q)
    ((0 < length froms) × (slice_index froms (length froms - 1) ≡ q))

-- the same states and edges
pub record IsSameGraph (old new : Graph) : Type 0 where
  pub count : new.count ≡ old.count
  pub kinds : new.kinds ≡ old.kinds
  pub noops : new.noops ≡ old.noops
  pub tests : new.tests ≡ old.tests

-- so many states and no edge
pub record IsEmptyGraph (t : Graph) (count : ℕ) : Type 0 where
  pub size : t.count ≡ count
  pub noops : t.noops ≡ []
  pub tests : t.tests ≡ []
