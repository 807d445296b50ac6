-- Counts of symbols by a table, and how far the search for least trees is: for the search.
use Rattle.std.specs.Prelude.{ℕ, suc, ◌+◌, ◌<◌, ◌≤◌, ◌^◌, Bool, true, false, if◌then◌else◌, List, []}
use Rattle.std.specs.Prelude.{◌∷◌, length, nat_lt}
use Rattle.std.specs.Prelude.{◌≡◌, ◌⊎◌, Option, Some, None, Contains, slice_get, slice_index_or, set}
use Rattle.std.specs.Global.{Global}
use Rattle.std.specs.Prelude.{Vec, map}
use Rattle.std.specs.Option.{option_map}
use Rattle.lalrpop_lr1_least_trees.specs.declared.least_counts.counts.LeastTree.{LeastTree}
use Rattle.lalrpop_lr1_least_trees.specs.declared.least_counts.waiting.Worklist.{Worklist}
use Rattle.lalrpop_lr1_least_trees.specs.LeastTrees.{IsBuilt, capped_count}
use Rattle.lalrpop_lr1_least_trees.specs.NumberedTrees.{NumberRule}

-- a symbol's count: a name's by the table; a terminal's is one, where leaves are let
abbrev pub entry_count : Option LeastTree → Option ℕ
entry_count None = None
entry_count (Some tree) = Some tree.count

abbrev pub count_of : Bool → List (Option LeastTree) → ℕ → Option ℕ
count_of leaves table s =
    if nat_lt s (length table) then entry_count (slice_index_or table s None) else (if leaves then Some 1 else None)

-- counts together, where each is there
abbrev pub add_counts : Option ℕ → Option ℕ → Option ℕ
add_counts None other = None
add_counts (Some a) None = None
add_counts (Some a) (Some b) = Some (a + b)

abbrev pub sum_of : (ℕ → Option ℕ) → List ℕ → Option ℕ
sum_of f [] = Some 0
sum_of f (s ∷ ss) = add_counts (f s) (sum_of f ss)

-- what a node over these symbols counts
abbrev pub node_count : (ℕ → Option ℕ) → List ℕ → Option ℕ
node_count f ss = option_map (λ n. capped_count (suc n)) (sum_of f ss)

-- the entry is none, or counts more
abbrev pub IsMore : Option LeastTree → ℕ → Type 0
IsMore None count = Unit {0}
IsMore (Some tree) count = count < tree.count

-- a rule gives no less than its name has
pub record IsMetBy (f : ℕ → Option ℕ) (s n : ℕ) : Type 0 where
  pub count : ℕ
  pub is : f s ≡ Some count
  pub within : count ≤ n

abbrev pub IsMet : (ℕ → Option ℕ) → NumberRule → Type 0
IsMet f rule = (n : ℕ) → node_count f rule.right ≡ Some n → IsMetBy f rule.left n

-- The rule gave its name a smaller count.
pub record IsFall (leaves : Bool) (rule : NumberRule) (r : ℕ) (old new : List (Option LeastTree)) : Type 0 where
  pub count : ℕ
  pub is : node_count (count_of leaves old) rule.right ≡ Some count
  pub more : IsMore (slice_index_or old rule.left None) count
  pub set_to : new ≡ set old rule.left (Some (record { count = count; rule = r }))

-- a rule was looked at: its name's count fell, or it gives no less
pub record IsTry (leaves : Bool) (rule : NumberRule) (r : ℕ) (old new : List (Option LeastTree)) (fell : Bool) : Type 0 where
  pub falls : fell ≡ true → IsFall leaves rule r old new
  pub same : fell ≡ false → new ≡ old
  pub met : fell ≡ false → IsMet (count_of leaves old) rule

-- Of so many rules some wait, each that is flagged among them.
pub record IsQueue (count : ℕ) (waiting : Worklist) : Type 0 where
  pub long : length waiting.waits.items ≡ count
  pub within : (r : ℕ) → Contains waiting.rules.items r → r < count
  pub flagged : (r : ℕ) → slice_index_or waiting.waits.items r false ≡ true → Contains waiting.rules.items r

-- a rule was added, and the others still wait
pub record IsPushed (r : ℕ) (old new : Worklist) : Type 0 where
  pub queue : IsQueue (length old.waits.items) new
  pub kept : (q : ℕ) → Contains old.rules.items q → Contains new.rules.items q
  pub added : Contains new.rules.items r
  pub count : length new.rules.items ≤ suc (length old.rules.items)

-- a rule was taken, and all others still wait; none where none did
pub record IsRuleTaken (r : ℕ) (old new : Worklist) : Type 0 where
  pub within : r < length old.waits.items
  pub queue : IsQueue (length old.waits.items) new
  pub kept : (q : ℕ) → Contains old.rules.items q → (q ≡ r) ⊎ Contains new.rules.items q
  pub fewer : suc (length new.rules.items) ≡ length old.rules.items

abbrev pub IsPopped : Option ℕ → Worklist → Worklist → Type 0
IsPopped None old new = old.rules.items ≡ []
IsPopped (Some r) old new = IsRuleTaken r old new

-- at each name stand the rules on whose right sides it is, and nothing past the rules
pub record AreUses (rules : List NumberRule) (names : ℕ) (uses : List (List ℕ)) : Type 0 where
  pub count : length uses ≡ names
  pub all : (r s : ℕ) (rule : NumberRule) → slice_get rules r ≡ Some rule → Contains rule.right s → s < names →
      Contains (slice_index_or uses s []) r
  pub within : (r s : ℕ) → Contains (slice_index_or uses s []) r → r < length rules

-- the lists of numbers
abbrev pub number_lists : List (Vec ℕ Global) → List (List ℕ)
number_lists lists = map (λ list. list.items) lists

-- a rule was added at the names on its right side, and nowhere else
pub record AddsUses (rule : ℕ) (right : List ℕ) (old new : List (List ℕ)) : Type 0 where
  pub count : length new ≡ length old
  pub kept : (s r : ℕ) → Contains (slice_index_or old s []) r → Contains (slice_index_or new s []) r
  pub added : (s : ℕ) → Contains right s → s < length old → Contains (slice_index_or new s []) rule
  pub only : (s r : ℕ) → Contains (slice_index_or new s []) r → (r ≡ rule) ⊎ Contains (slice_index_or old s []) r

-- the rules to be looked at again, where a name's count fell
abbrev pub rules_again : List (List ℕ) → ℕ → Bool → List ℕ
rules_again uses s fell = if fell then slice_index_or uses s [] else []

-- how much the table may still fall
abbrev pub weight : List (Option LeastTree) → ℕ
weight [] = 0
weight (None ∷ table) = 2 ^ 64 + weight table
weight (Some tree ∷ table) = tree.count + weight table

-- The search: each entry is some tree's, and a rule that doesn't wait gives no less than its name has.
pub record IsTreeSearch (rules : List NumberRule) (names : ℕ) (leaves : Bool) (table : List (Option LeastTree)) (waiting : Worklist) :
    Type 0 where
  pub count : length table ≡ names
  pub built : (s : ℕ) (tree : LeastTree) → slice_get table s ≡ Some (Some tree) → IsBuilt rules names leaves s tree
  pub queue : IsQueue (length rules) waiting
  pub met : (r : ℕ) (rule : NumberRule) → slice_get rules r ≡ Some rule →
      Contains waiting.rules.items r ⊎ IsMet (count_of leaves table) rule
