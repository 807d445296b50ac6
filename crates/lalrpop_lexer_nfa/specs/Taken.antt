-- When an edge of each label is taken, and where edges of all labels lead.
use Rattle.std.specs.Prelude.{◌≡◌, ℕ, List, [], ◌∷◌, ◌++◌, Contains}
use Rattle.lalrpop_lexer_nfa.specs.declared.edge.Edge.{Edge}
use Rattle.lalrpop_lexer_nfa.specs.declared.edge.Noop.{Noop}
use Rattle.lalrpop_lexer_nfa.specs.declared.edge.Other.{Other}
use Rattle.lalrpop_lexer_nfa.specs.declared.test.Test.{Test}
use Rattle.lalrpop_lexer_nfa.specs.declared.state.Edges.{Edges}
use Rattle.lalrpop_lexer_nfa.specs.Ranges.{TestHolds}

-- no test of the state holds the number
abbrev pub IsLeftOver : Edges → ℕ → ℕ → Type 0
IsLeftOver edges q c = (e : Edge Test) → Contains edges.test_edges.items e → e.from.0 ≡ q → TestHolds e.label c → ⊥

-- an edge leads from q to the state, and is taken on the word: an epsilon edge on none, a test on a number that it holds, and
-- one labelled `Other` on a number that no test of its state holds
pub data IsTaken (edges : Edges) (q : ℕ) : List ℕ → ℕ → Type 0 where
  noop : (e : Edge Noop) → Contains edges.noop_edges.items e → e.from.0 ≡ q → IsTaken edges q [] e.to.0
  test : (e : Edge Test) (c : ℕ) → Contains edges.test_edges.items e → e.from.0 ≡ q → TestHolds e.label c
      → IsTaken edges q (c ∷ []) e.to.0
  other : (e : Edge Other) (c : ℕ) → Contains edges.other_edges.items e → e.from.0 ≡ q → IsLeftOver edges q c
      → IsTaken edges q (c ∷ []) e.to.0

-- edges of all labels, one after another, lead from s to the state along the word
pub data IsLedTo (edges : Edges) (s : ℕ) : List ℕ → ℕ → Type 0 where
  start : IsLedTo edges s [] s
  further : {u v : List ℕ} {r : ℕ} (q : ℕ) → IsLedTo edges s u q → IsTaken edges q v r → IsLedTo edges s (u ++ v) r
