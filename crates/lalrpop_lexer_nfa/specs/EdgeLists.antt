-- How the edges of an automaton stand in a list: those of one state one after another, from the state's first index on.
use Rattle.std.specs.Prelude.{◌≡◌, ℕ, ◌<◌, ◌≤◌, List, length, map, slice_index}
use Rattle.lalrpop_lexer_nfa.specs.declared.edge.Edge.{Edge}

-- where the edges of a list come from
abbrev pub sources : {L : Type 0} → List (Edge L) → List ℕ
sources {L} es = map (λ (e : Edge L). e.from.0) es

-- the edges that come from one state stand one after another from its first index on, with no other between
pub record HasRuns (firsts froms : List ℕ) : Type 0 where
  pub bounded : (q : ℕ) → q < length firsts → slice_index firsts q ≤ length froms
  pub after : (i : ℕ) → i < length froms → slice_index firsts (slice_index froms i) ≤ i
  pub run : (i j : ℕ) → i < length froms → slice_index firsts (slice_index froms i) ≤ j → j ≤ i
      → slice_index froms j ≡ slice_index froms i

-- an edge from the state may come next: after one from it no other stands
abbrev pub MayComeNext : List ℕ → ℕ → Type 0
MayComeNext froms q = (i j : ℕ) → i ≤ j → j < length froms → slice_index froms i ≡ q → slice_index froms j ≡ q
