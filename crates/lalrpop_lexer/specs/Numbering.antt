-- Runs of an automaton whose states are numbered as they were first seen.
use Rattle.std.specs.Prelude.{◌≡◌, ℕ, ◌<◌, ◌≤◌, ◌⊎◌, List, [], ◌∷◌, ◌++◌, length, slice_index_or}
use Rattle.lalrpop_lexer_pattern.specs.Wins.{ComesBefore}

-- an edge: the first and the last number that it reads, and the state that it leads to
abbrev pub EdgeView : Type 0
EdgeView = ℕ × ℕ × ℕ

abbrev pub edge_at : List EdgeView → ℕ → EdgeView
edge_at es k = slice_index_or es k (0, 0, 0)

-- v is w, or comes before it
abbrev pub IsNoLater : List ℕ → List ℕ → Type 0
IsNoLater v w = (v ≡ w) ⊎ ComesBefore v w

-- the edges of each state
module _ (edges : ℕ → List EdgeView) where
  -- the edge k goes out from s and reads c
  abbrev pub EdgeReads : ℕ → ℕ → ℕ → Type 0
  EdgeReads s c k = (k < length (edges s)) × ((edge_at (edges s) k).0 ≤ c) × (c ≤ (edge_at (edges s) k).1)

  -- from 0 the word leads to s
  pub data IsReachedByWord : List ℕ → ℕ → Type 0 where
    here : IsReachedByWord [] 0
    along : (w : List ℕ) (s c k : ℕ) → IsReachedByWord w s → EdgeReads s c k
        → IsReachedByWord (w ++ c ∷ []) ((edge_at (edges s) k).2)

  -- each state but 0 was first seen at the edge `place s` of the state `parent s`
  pub record IsFirstSeen (n : ℕ) (parent place : ℕ → ℕ) : Type 0 where
    pub starts : (s j k : ℕ) → s < n → j < k → k < length (edges s) → (edge_at (edges s) j).0 < (edge_at (edges s) k).0
    pub inside : (s k : ℕ) → s < n → k < length (edges s) → (edge_at (edges s) k).2 < n
    pub nonempty : (s k : ℕ) → s < n → k < length (edges s) → (edge_at (edges s) k).0 ≤ (edge_at (edges s) k).1
    pub before : (s : ℕ) → 0 < s → s < n → parent s < s
    pub within : (s : ℕ) → 0 < s → s < n → place s < length (edges (parent s))
    pub leads : (s : ℕ) → 0 < s → s < n → (edge_at (edges (parent s)) (place s)).2 ≡ s
    pub rising : (s r : ℕ) → 0 < s → s < r → r < n → (parent s < parent r) ⊎ (parent s ≡ parent r) × (place s < place r)
    pub first : (p k : ℕ) → p < n → k < length (edges p) → 0 < (edge_at (edges p) k).2 →
        (parent ((edge_at (edges p) k).2) < p) ⊎ (parent ((edge_at (edges p) k).2) ≡ p) × (place ((edge_at (edges p) k).2) ≤ k)
