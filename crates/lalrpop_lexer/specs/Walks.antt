-- What an automaton finds along a text, and where it finds nothing any more.
use Rattle.std.specs.Prelude.{◌≡◌, ℕ, ◌-◌, ◌<◌, ◌≤◌, List, ◌++◌, Option, All, length, drop, slice_get, option_map}
use Rattle.std.specs.Str.{chars}
use Rattle.lalrpop_lexer.specs.declared.dead_ends.DeadEnds.{DeadEnds}
use Rattle.lalrpop_lexer.specs.declared.kind.NfaIndex.{NfaIndex}
use Rattle.lalrpop_lexer.specs.declared.walk.Walk.{Walk}
use Rattle.lalrpop_lexer.specs.Simulation.{StateView, simulate, answer_of}

-- from the state on the text leads to no state that accepts: whatever was found before stays the best answer
abbrev pub IsDeadEnd : List StateView → ℕ → List ℕ → Type 0
IsDeadEnd nodes state text = (n : ℕ) (best : Option (ℕ × ℕ)) → simulate nodes (chars text) (slice_get nodes state) n best ≡ best

-- the state is a dead end where the text has so many bytes left, if it has so many
abbrev pub IsDeadEndAt : List StateView → List ℕ → ℕ × ℕ → Type 0
IsDeadEndAt nodes text place = place.1 ≤ length text → IsDeadEnd nodes place.0 (drop (length text - place.1) text)

-- what was noted are dead ends of the text
abbrev pub AreDeadEnds : List StateView → List ℕ → DeadEnds → Type 0
AreDeadEnds nodes text ends = All (IsDeadEndAt nodes text) ends.noted.keys

-- the walk has found the longest match at the text's front, and its state is a dead end
pub record IsTextWalk (nodes : List StateView) (text : List ℕ) (walk : Walk) : Type 0 where
  pub front : List ℕ
  pub is : text ≡ front ++ walk.rest.now
  pub answer : answer_of nodes (chars text) ≡ option_map (λ (p : NfaIndex). (p.0, length (chars front))) walk.pattern
  pub inside : walk.state < length nodes
  pub last : IsDeadEnd nodes walk.state walk.rest.now
