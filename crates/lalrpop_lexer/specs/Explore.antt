-- The edges of one state of the automaton under way.
use Rattle.std.specs.Prelude.{◌≡◌, ℕ, ◌<◌, ◌≤◌, ◌⊎◌, List, [], ◌++◌, length, map, Contains, slice_index_or}
use Rattle.lalrpop_lexer_nfa.specs.declared.test.Test.{Test}
use Rattle.lalrpop_lexer_nfa.specs.Paths.{Graph, HasTransition}
use Rattle.lalrpop_lexer_nfa.specs.Sets.{IsSubsetStep}
use Rattle.lalrpop_lexer.specs.declared.edge.DfaEdge.{DfaEdge}
use Rattle.lalrpop_lexer.specs.Numbering.{EdgeView, edge_at, IsFirstSeen}
use Rattle.lalrpop_lexer.specs.Subsets.{set_at}
use Rattle.lalrpop_lexer.specs.Targets.{start_at}

abbrev pub end_at : List Test → ℕ → ℕ
end_at pieces i = slice_index_or (map (λ (t : Test). t.end) pieces) i 0

-- the ranges ascend, hold each number that an edge reads, and each edge reads all of a range or nothing of it
pub record AreClassesOf (t : Graph) (pieces : List Test) : Type 0 where
  pub filled : (i : ℕ) → i < length pieces → start_at pieces i ≤ end_at pieces i
  pub ascending : (i j : ℕ) → i < j → j < length pieces → end_at pieces i < start_at pieces j
  pub same : (i q c d x : ℕ) → i < length pieces → start_at pieces i ≤ c → c ≤ end_at pieces i → start_at pieces i ≤ d
      → d ≤ end_at pieces i → HasTransition t q c x → HasTransition t q d x
  pub covers : (q c x : ℕ) → HasTransition t q c x → (i : ℕ) × (i < length pieces) × (start_at pieces i ≤ c)
      × (c ≤ end_at pieces i)

abbrev pub edge_view : DfaEdge → EdgeView
edge_view e = (e.test.start, e.test.end, e.to.0)

abbrev pub edges_view : List DfaEdge → List EdgeView
edges_view es = map edge_view es

-- under way at the state cur: its edges so far are the last that were added, and no state after it has one
pub record IsGrowing (edges : ℕ → List EdgeView) (n : ℕ) (parent place : ℕ → ℕ) (cur : ℕ) : Type 0 where
  pub seen : IsFirstSeen edges n parent place
  pub current : cur < n
  pub empty : (s : ℕ) → cur < s → edges s ≡ []
  pub late : (s : ℕ) → 0 < s → s < n → (parent s < cur) ⊎ (parent s ≡ cur) × (place s < length (edges cur))

-- the state cur got its edges, and the states that they lead to came last
pub record Explores (t : Graph) (cur : ℕ) (old new : List (List ℕ)) (out : List EdgeView) : Type 0 where
  pub extends : (more : List (List ℕ)) × (new ≡ old ++ more)
  pub grows : (edges more : ℕ → List EdgeView) (parent place : ℕ → ℕ)
      → ((s : ℕ) → (s ≡ cur → ⊥) → more s ≡ edges s) → edges cur ≡ [] → more cur ≡ out →
      IsGrowing edges (length old) parent place cur → (parents places : ℕ → ℕ) × IsGrowing more (length new) parents places cur
  pub fits : (k c : ℕ) → k < length out → (edge_at out k).0 ≤ c → c ≤ (edge_at out k).1
      → IsSubsetStep t (set_at new cur) c (set_at new (edge_at out k).2)
  pub all : (q c x : ℕ) → Contains (set_at old cur) q → HasTransition t q c x → (k : ℕ) × (k < length out)
      × ((edge_at out k).0 ≤ c) × (c ≤ (edge_at out k).1)
