-- The parts at a text's front that an automaton accepts.
use Rattle.std.specs.Prelude.{◌≡◌, ℕ, ◌<◌, ◌≤◌, List, ◌++◌, length, take}
use Rattle.std.specs.Str.{chars}
use Rattle.lalrpop_lexer_nfa.specs.declared.automaton.Nfa.{Nfa}
use Rattle.lalrpop_lexer_nfa.specs.Paths.{Accepts}

-- no part at the front is accepted, not even the empty one
abbrev pub HasNoFront : Nfa → List ℕ → Type 0
HasNoFront nfa text = (m : ℕ) → m ≤ length (chars text) → Accepts nfa (take m (chars text)) → ⊥

-- the longest part at the front that is accepted
pub record IsLongestFront (nfa : Nfa) (text front : List ℕ) : Type 0 where
  pub rest : List ℕ
  pub is : text ≡ front ++ rest
  pub accepted : Accepts nfa (chars front)
  pub longest : (m : ℕ) → length (chars front) < m → m ≤ length (chars text) → Accepts nfa (take m (chars text)) → ⊥
