-- How an automaton answers a text. It is a list: for each state the pattern that it accepts, if any, and its edges.
use Rattle.std.specs.Prelude.{ℕ, ◌+◌, ◌<◌, ◌≤◌, length, ◌&&◌, nat_le, List, [], ◌∷◌, Option, Some, None}
use Rattle.std.specs.Prelude.{slice_get, find, option_map, option_and_then}
use Rattle.lalrpop_lexer_pattern.specs.Matches.{Pattern}
use Rattle.lalrpop_lexer_pattern.specs.Wins.{IsLongest, HasNoMatch}
use Rattle.lalrpop_lexer.specs.Numbering.{EdgeView, edge_at}

abbrev pub StateView : Type 0
StateView = Option ℕ × List EdgeView

-- each edge reads a number, and ends below the start of every later one
pub record AreApart (edges : List EdgeView) : Type 0 where
  pub filled : (k : ℕ) → k < length edges → (edge_at edges k).0 ≤ (edge_at edges k).1
  pub apart : (j k : ℕ) → j < k → k < length edges → (edge_at edges j).1 < (edge_at edges k).0

-- where the first edge that reads c leads
abbrev pub target_of : List EdgeView → ℕ → Option ℕ
target_of edges c = option_map (λ (e : EdgeView). e.2) (find (λ (e : EdgeView). nat_le e.0 c && nat_le c e.1) edges)

-- the state that c leads to, from a state
abbrev pub next_state_view : List StateView → StateView → ℕ → Option StateView
next_state_view nodes s c = option_and_then (slice_get nodes) (target_of s.1 c)

-- the best answer so far, once n characters led to a state
abbrev pub better_answer : Option StateView → ℕ → Option (ℕ × ℕ) → Option (ℕ × ℕ)
better_answer None n best = best
better_answer (Some (None, edges)) n best = best
better_answer (Some (Some e, edges)) n best = Some (e, n)

-- the answer of the last state that accepts, among those that the text leads to from s on, once n characters were read
abbrev pub simulate : List StateView → List ℕ → Option StateView → ℕ → Option (ℕ × ℕ) → Option (ℕ × ℕ)
simulate nodes text None n best = best
simulate nodes [] (Some s) n best = best
simulate nodes (c ∷ text) (Some s) n best =
    simulate nodes text (next_state_view nodes s c) (n + 1) (better_answer (next_state_view nodes s c) (n + 1) best)

-- the pattern that the text's longest nonempty front is given to, and how many characters that has
abbrev pub answer_of : List StateView → List ℕ → Option (ℕ × ℕ)
answer_of nodes text = simulate nodes text (slice_get nodes 0) 0 None

-- the answer is the longest nonempty match and its winner
abbrev pub IsAnswer : List Pattern → List ℕ → List ℕ → Option (ℕ × ℕ) → Type 0
IsAnswer ps precedences text None = HasNoMatch ps text
IsAnswer ps precedences text (Some (e, n)) = IsLongest ps precedences text n e

-- the automaton answers each text rightly
abbrev pub Decides : List StateView → List Pattern → List ℕ → Type 0
Decides nodes ps precedences = (text : List ℕ) → IsAnswer ps precedences text (answer_of nodes text)
