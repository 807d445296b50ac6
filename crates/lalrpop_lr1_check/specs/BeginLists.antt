-- The names with which names begin, listed by the first one's number, and what is queued as names are marked: for closing marks.
use Rattle.std.specs.Prelude.{ℕ, ◌≡◌, ◌<◌, ◌↔◌, ◌⊎◌, Bool, List, [], ◌∷◌, Contains, Some, flat_map, length, slice_get}
use Rattle.std.specs.Prelude.{slice_index_or}
use Rattle.lalrpop_lr1_first.specs.FirstNumbers.{name_count}
use Rattle.lalrpop_lr1_first.specs.declared.numbered.Numbered.{Numbered}
use Rattle.lalrpop_lr1_barren.specs.Clauses.{Follows, IsMarked}
use Rattle.lalrpop_lr1_check.specs.BeginClauses.{begin_of_rule}

-- the lists have just what the clauses lead to
abbrev pub ListsBegins : List (List ℕ × ℕ) → List (List ℕ) → Type 0
ListsBegins clauses lists = (from s : ℕ) → Contains (slice_index_or lists from []) s ↔ Contains clauses (from ∷ [], s)

-- the lists, one for each name, have the names with which its rules begin
pub record AreBeginLists (table : Numbered) (lists : List (List ℕ)) : Type 0 where
  pub long : length lists ≡ name_count table
  pub begins : ListsBegins (flat_map (begin_of_rule table) table.rules.items) lists

-- what the clauses lead to was added to the lists
pub record AddsBegins (clauses : List (List ℕ × ℕ)) (old new : List (List ℕ)) : Type 0 where
  pub count : length new ≡ length old
  pub added : (from s : ℕ) → Contains (slice_index_or new from []) s
      ↔ (Contains (slice_index_or old from []) s ⊎ Contains clauses (from ∷ [], s))

-- these numbers are marked and no others more, and those that weren't are queued behind the others
pub record Queues (numbers : List ℕ) (old new : List Bool) (queue more : List ℕ) : Type 0 where
  pub count : length new ≡ length old
  pub kept : (j n : ℕ) → slice_get queue j ≡ Some n → slice_get more j ≡ Some n
  pub has : (n : ℕ) → IsMarked old n → IsMarked new n
  pub from : (n : ℕ) → IsMarked new n → IsMarked old n ⊎ Contains numbers n
  pub marks : (n : ℕ) → Contains numbers n → n < length old → IsMarked new n
  pub queued : ((n : ℕ) → IsMarked old n → Contains queue n) → (n : ℕ) → IsMarked new n → Contains more n
  pub only : (n : ℕ) → Contains more n → Contains queue n ⊎ Contains numbers n

-- marks that are closed as far as the first of the queue lead
pub record AreClosingNames (clauses : List (List ℕ × ℕ)) (lists : List (List ℕ)) (first now : List Bool) (queue : List ℕ)
    (done : ℕ) : Type 0 where
  pub count : length now ≡ length first
  pub has : (n : ℕ) → IsMarked first n → IsMarked now n
  pub queued : (n : ℕ) → IsMarked now n → Contains queue n
  pub sound : (n : ℕ) → Contains queue n → Follows clauses first n
  pub closed : (j n s : ℕ) → j < done → slice_get queue j ≡ Some n → Contains (slice_index_or lists n []) s → IsMarked now s
