-- What follows from marks by clauses: for least sets of names.
use Rattle.std.specs.Prelude.{ℕ, ◌<◌, ◌≡◌, Bool, true, false, List, Some, Contains, get_or, slice_get}
use Rattle.lalrpop_lr1_barren.specs.declared.reachable.clauses.Clause.{Clause}

-- whether the number is marked
abbrev pub has_mark : List Bool → ℕ → Bool
has_mark marks n = get_or marks n false

abbrev pub IsMarked : List Bool → ℕ → Type 0
IsMarked marks n = has_mark marks n ≡ true

-- what the clauses give is among so many numbers
abbrev pub ClausesAreWithin : ℕ → List Clause → Type 0
ClausesAreWithin count clauses = (r : ℕ) (c : Clause) → slice_get clauses r ≡ Some c → c.gives < count

-- what a clause needs, and what it gives
abbrev pub clause_view : Clause → List ℕ × ℕ
clause_view c = (c.needs.items, c.gives)

-- the least set of numbers that has those that are marked, and with all that a clause needs what it gives
pub data Follows (clauses : List (List ℕ × ℕ)) (marks : List Bool) : ℕ → Type 0 where
  marked : (n : ℕ) → IsMarked marks n → Follows clauses marks n
  by_clause : (needs : List ℕ) (gives : ℕ) → Contains clauses (needs, gives) →
      ((n : ℕ) → Contains needs n → Follows clauses marks n) → Follows clauses marks gives
