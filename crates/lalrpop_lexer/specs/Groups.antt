-- Alphabet classes in groups whose pieces are read alike.
use Rattle.std.specs.Prelude.{◌≡◌, ℕ, ◌<◌, ◌↔◌, List, length, slice_index}
use Rattle.lalrpop_lexer_nfa.specs.declared.test.Test.{Test}
use Rattle.lalrpop_lexer_nfa.specs.Paths.{Graph, HasTransition}
use Rattle.lalrpop_lexer.specs.Targets.{start_at, StartsAscend}

-- each piece is in a group, and transitions between the same states read it and the group's first piece
pub record AreGroups (t : Graph) (pieces : List Test) (numbers : List ℕ) (firsts : List Test) : Type 0 where
  pub size : length numbers ≡ length pieces
  pub inside : (i : ℕ) → i < length pieces → slice_index numbers i < length firsts
  pub ascending : StartsAscend firsts
  pub alike : (i q x : ℕ) → i < length pieces → HasTransition t q (start_at pieces i) x
      ↔ HasTransition t q (start_at firsts (slice_index numbers i)) x

-- pieces are in one group just where they have one mark, and each group is told by a piece of it
pub record AreMarkedGroups (pieces : List Test) (marks numbers : List ℕ) (firsts : List Test) : Type 0 where
  pub size : length numbers ≡ length pieces
  pub inside : (i : ℕ) → i < length pieces → slice_index numbers i < length firsts
  pub ascending : StartsAscend firsts
  pub same : (i j : ℕ) → i < length pieces → j < length pieces → (slice_index numbers i ≡ slice_index numbers j)
      ↔ (slice_index marks i ≡ slice_index marks j)
  pub first : (g : ℕ) → g < length firsts → (j : ℕ) × (j < length pieces) × (slice_index numbers j ≡ g)
      × (start_at firsts g ≡ start_at pieces j)
