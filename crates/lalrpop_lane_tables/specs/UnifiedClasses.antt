-- Classes of states that are kept apart, each with the tokens of its columns: what a table of them shows, and what comes of joining two.
use Rattle.std.specs.Prelude.{ℕ, ◌==◌, ◌||◌, List, [], ◌∷◌, ◌++◌, map, length, unwrap_or, if◌then◌else◌, ◌≡◌, ◌⊎◌, Some, Contains, slice_get}
use Rattle.lalrpop_lane_theory.specs.Columns.{GathersColumns, InColumn}
use Rattle.lalrpop_lane_tables.specs.ColumnAnswers.{ColumnsMeetComing, HasToken}

-- the class of a key, by a number, with the columns of the class
abbrev pub ClassEntry : Type 0
ClassEntry = ℕ × List (List ℕ)

-- a table shows the class of each of its keys
abbrev pub class_entry : List (List (List ℕ)) → ℕ → ClassEntry
class_entry columns c = (c, unwrap_or (slice_get columns c) [])

abbrev pub class_entries : List ℕ → List (List (List ℕ)) → List ClassEntry
class_entries classes columns = map (class_entry columns) classes

-- these are the columns of the key's class
abbrev pub AreColumnsOfKey : List ClassEntry → ℕ → List (List ℕ) → Type 0
AreColumnsOfKey entries k columns = (c : ℕ) × (slice_get entries k ≡ Some (c, columns))

-- a key comes, behind those that there are, with a class of its own
pub record AddsClass (old : List ClassEntry) (columns : List (List ℕ)) (k : ℕ) (new : List ClassEntry) : Type 0 where
  pub class : ℕ
  pub key : k ≡ length old
  pub added : new ≡ old ++ (class, columns) ∷ []
  pub own : (e : ClassEntry) → Contains old e → e.0 ≡ class → ⊥

-- their classes have as many columns
abbrev pub HaveSameCount : List ClassEntry → ℕ → ℕ → Type 0
HaveSameCount entries a b =
    (one other : List (List ℕ)) → AreColumnsOfKey entries a one → AreColumnsOfKey entries b other → length one ≡ length other

-- two keys are of one class
pub record AreOfOneClass (entries : List ClassEntry) (a b : ℕ) : Type 0 where
  pub one : ClassEntry
  pub other : ClassEntry
  pub at_one : slice_get entries a ≡ Some one
  pub at_other : slice_get entries b ≡ Some other
  pub class : one.0 ≡ other.0

-- two keys have classes apart, and a column of the second has a token in common with another column of what would come of both
pub record ClassesOverlap (entries : List ClassEntry) (a b : ℕ) : Type 0 where
  pub one : ClassEntry
  pub other : ClassEntry
  pub at_one : slice_get entries a ≡ Some one
  pub at_other : slice_get entries b ≡ Some other
  pub apart : one.0 ≡ other.0 → ⊥
  pub meet : ColumnsMeetComing one.1 (InColumn HasToken other.1)

-- a key of one of two classes comes to be of the first, with new columns
abbrev pub joined_entry : ℕ → ℕ → List (List ℕ) → ClassEntry → ClassEntry
joined_entry c d columns e = if (e.0 == c || e.0 == d) then (c, columns) else e

-- the keys of two classes come to be of one, whose columns hold just what both held
pub record JoinsClasses (old : List ClassEntry) (a b : ℕ) (new : List ClassEntry) : Type 0 where
  pub one : ClassEntry
  pub other : ClassEntry
  pub at_one : slice_get old a ≡ Some one
  pub at_other : slice_get old b ≡ Some other
  pub columns : List (List ℕ)
  pub gathers : GathersColumns HasToken (InColumn HasToken other.1) one.1 columns
  pub joined : new ≡ map (joined_entry one.0 other.0 columns) old

-- nothing changes where they were so before
abbrev pub UnifiesClasses : List ClassEntry → ℕ → ℕ → List ClassEntry → Type 0
UnifiesClasses old a b new = (AreOfOneClass old a b × (new ≡ old)) ⊎ JoinsClasses old a b new
