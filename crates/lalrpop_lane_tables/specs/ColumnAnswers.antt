-- What comes of sets of tokens that are put into columns, one after the other.
use Rattle.std.specs.Prelude.{ℕ, List, length, true, ◌≡◌, ◌⊎◌, ◌↔◌, ⊤, Contains, Result, Ok, Err}
use Rattle.lalrpop_sets.specs.AscendingLists.{has}
use Rattle.lalrpop_lane_theory.specs.Columns.{GathersColumns, HaveMeeting, InColumn, NeverMeet}
use Rattle.lalrpop_lane_tables.specs.declared.context_sets.ContextFault.{ContextFault}
use Rattle.lalrpop_lane_tables.specs.declared.context_sets.ContextFault.TheVariants.{Overlap, Memory}

-- the set has the token with this number
abbrev pub HasToken : List ℕ → ℕ → Type 0
HasToken set x = has set x ≡ true

-- some token would stand in two columns
abbrev pub IsOverlap : {A : Type 0} → Result A ContextFault → Type 0
IsOverlap (Ok a) = ⊥
IsOverlap (Err (Overlap overlap)) = ⊤
IsOverlap (Err Memory) = ⊥

-- the set's tokens come to the column
abbrev pub IsColumnOfSet : ℕ → List ℕ → ℕ → ℕ → Type 0
IsColumnOfSet c set d x = (c ≡ d) × HasToken set x

-- the set has a token that the column lacks
abbrev pub NewTokens : List (List ℕ) → ℕ → List ℕ → Type 0
NewTokens columns c set = (x : ℕ) × HasToken set x × (InColumn HasToken columns c x → ⊥)

-- a token that comes to a column stands in another one, or comes there
pub record ColumnsMeetComing (columns : List (List ℕ)) (Comes : ℕ → ℕ → Type 0) : Type 0 where
  pub one : ℕ
  pub other : ℕ
  pub token : ℕ
  pub apart : one ≡ other → ⊥
  pub comes : Comes one token
  pub there : InColumn HasToken columns other token ⊎ Comes other token

-- the columns hold what comes, and none that comes meets another column
pub record GathersApart (Comes : ℕ → ℕ → Type 0) (old new : List (List ℕ)) : Type 0 where
  pub gathers : GathersColumns HasToken Comes old new
  pub free : ColumnsMeetComing old Comes → ⊥

abbrev pub GatherAnswer : {A : Type 0} → (ℕ → ℕ → Type 0) → List (List ℕ) → List (List ℕ) → Result A ContextFault → Type 0
GatherAnswer Comes old new (Ok a) = GathersApart Comes old new
GatherAnswer Comes old new (Err (Overlap overlap)) = ColumnsMeetComing old Comes
GatherAnswer Comes old new (Err Memory) = ⊤

-- some element of the list says so
abbrev pub SomeSays : {E : Type 0} → (E → ℕ → ℕ → Type 0) → List E → ℕ → ℕ → Type 0
SomeSays {E} Says es c x = (e : E) × Contains es e × Says e c x

-- columns with what some of a list say, where the rest of the list is to come
pub record AreGathered {E : Type 0} (Says : E → ℕ → ℕ → Type 0) (all : List E) (old now : List (List ℕ)) (left : List E) : Type 0 where
  pub count : length now ≡ length old
  pub of_all : (e : E) → Contains left e → Contains all e
  pub holds : (c x : ℕ) → (InColumn HasToken now c x ⊎ SomeSays Says left c x) ↔ (InColumn HasToken old c x ⊎ SomeSays Says all c x)
  pub meets : ColumnsMeetComing old (SomeSays Says all) → ColumnsMeetComing now (SomeSays Says left)
  pub apart : NeverMeet (InColumn HasToken old) → NeverMeet (InColumn HasToken now)

-- so many columns hold just what is said, and don't meet; refused where two would
pub record AreColumns (count : ℕ) (Holds : ℕ → ℕ → Type 0) (columns : List (List ℕ)) : Type 0 where
  pub long : length columns ≡ count
  pub holds : (c x : ℕ) → InColumn HasToken columns c x ↔ Holds c x
  pub apart : NeverMeet Holds

abbrev pub ColumnsAnswer : ℕ → (ℕ → ℕ → Type 0) → Result (List (List ℕ)) ContextFault → Type 0
ColumnsAnswer count Holds (Ok columns) = AreColumns count Holds columns
ColumnsAnswer count Holds (Err (Overlap overlap)) = HaveMeeting Holds
ColumnsAnswer count Holds (Err Memory) = ⊤
