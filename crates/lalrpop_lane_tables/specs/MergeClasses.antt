-- Classes of states while a merge goes on: which fit, what comes of joining them, and the class of a copy.
use Rattle.std.specs.Prelude.{ℕ, ◌<◌, ◌≡◌, ◌⊎◌, List, length, Bool, true, false, Option, Some, None, Result, Ok, Err, slice_get}
use Rattle.std.specs.BTreeMap.{insert_entry, is_at}
use Rattle.std.specs.Map.{lookup}
use Rattle.lalrpop_lr1_core.specs.declared.state_index.StateIndex.{StateIndex}
use Rattle.lalrpop_lane_theory.specs.Columns.{HaveMeeting, InColumn, TableHolds}
use Rattle.lalrpop_lane_tables.specs.ColumnAnswers.{AreColumns, ColumnsMeetComing, HasToken}
use Rattle.lalrpop_lane_tables.specs.MergeViews.{AreClasses}
use Rattle.lalrpop_lane_tables.specs.ReachedStates.{index_cmp}
use Rattle.lalrpop_lane_tables.specs.TableViews.{TableView}
use Rattle.lalrpop_lane_tables.specs.UnifiedClasses.{AddsClass, AreColumnsOfKey, ClassEntry, ClassesOverlap, UnifiesClasses}
use Rattle.lalrpop_lane_tables.specs.declared.merge_classes.MergeFault.{MergeFault}
use Rattle.lalrpop_lane_tables.specs.declared.merge_classes.MergeFault.TheVariants.{Memory}
use Rattle.lalrpop_lane_tables.specs.declared.unify_tables.StateSet.{StateSet}

-- the key of the state's class, if it has one
abbrev pub class_key_of : List (StateIndex × StateSet) → StateIndex → Option StateSet
class_key_of sets n = lookup (is_at (index_cmp n)) sets

-- there is a number of columns that all classes have, and keys are of the table
abbrev pub AreClassesOfSome : List (StateIndex × StateSet) → List ClassEntry → Type 0
AreClassesOfSome sets entries = (count : ℕ) × AreClasses count sets entries

-- two keys come to be of one class where they fit, and nothing changes where they don't
abbrev pub KeysAnswer : List ClassEntry → StateSet → StateSet → List ClassEntry → Result Bool MergeFault → Type 0
KeysAnswer old a b new (Ok true) = UnifiesClasses old a.index b.index new
KeysAnswer old a b new (Ok false) = ClassesOverlap old a.index b.index × (new ≡ old)
KeysAnswer old a b new (Err fault) = (fault ≡ Memory) × (new ≡ old)

-- two states have classes, and these come to be one
pub record JoinsStates (sets : List (StateIndex × StateSet)) (old : List ClassEntry) (n m : StateIndex) (new : List ClassEntry) :
    Type 0 where
  pub one : StateSet
  pub other : StateSet
  pub at_one : class_key_of sets n ≡ Some one
  pub at_other : class_key_of sets m ≡ Some other
  pub joins : UnifiesClasses old one.index other.index new

-- one of two states has no class, or their classes overlap
abbrev pub DontFit : List (StateIndex × StateSet) → List ClassEntry → StateIndex → StateIndex → Type 0
DontFit sets entries n m =
    (one other : StateSet) → class_key_of sets n ≡ Some one → class_key_of sets m ≡ Some other → ClassesOverlap entries one.index other.index

abbrev pub JoinAnswer : List (StateIndex × StateSet) → List ClassEntry → StateIndex → StateIndex → List ClassEntry → Result Bool MergeFault →
    Type 0
JoinAnswer sets old n m new (Ok true) = JoinsStates sets old n m new
JoinAnswer sets old n m new (Ok false) = DontFit sets old n m × (new ≡ old)
JoinAnswer sets old n m new (Err fault) = (fault ≡ Memory) × (new ≡ old)

-- none of the copies of the original that stand before the place fits
abbrev pub NoneFitsBefore : List (StateIndex × StateSet) → List ClassEntry → StateIndex → StateIndex → List (StateIndex × StateIndex) → ℕ →
    Type 0
NoneFitsBefore sets entries n original copies place =
    (k : ℕ) (copy : StateIndex) → k < place → slice_get copies k ≡ Some (copy, original) → DontFit sets entries n copy

-- the state's class and that of the copy at the place come to be one, and none before it fits
pub record JoinsFirstFitting (sets : List (StateIndex × StateSet)) (old : List ClassEntry) (n original : StateIndex)
    (copies : List (StateIndex × StateIndex)) (place : ℕ) (new : List ClassEntry) : Type 0 where
  pub copy : StateIndex
  pub at : slice_get copies place ≡ Some (copy, original)
  pub before : NoneFitsBefore sets old n original copies place
  pub joins : JoinsStates sets old n copy new

abbrev pub FittingAnswer : List (StateIndex × StateSet) → List ClassEntry → StateIndex → StateIndex → List (StateIndex × StateIndex) →
    List ClassEntry → Result (Option ℕ) MergeFault → Type 0
FittingAnswer sets old n original copies new (Ok (Some place)) = JoinsFirstFitting sets old n original copies place new
FittingAnswer sets old n original copies new (Ok None) = NoneFitsBefore sets old n original copies (length copies) × (new ≡ old)
FittingAnswer sets old n original copies new (Err fault) = (fault ≡ Memory) × (new ≡ old)

-- the columns of the state's row, where no two of them meet
abbrev pub RowAnswer : TableView → StateIndex → Result (Option (List (List ℕ))) MergeFault → Type 0
RowAnswer table n (Ok (Some columns)) = AreColumns table.conflicts (TableHolds HasToken table.rows n.0) columns
RowAnswer table n (Ok None) = HaveMeeting (TableHolds HasToken table.rows n.0)
RowAnswer table n (Err fault) = fault ≡ Memory

-- the state has a class, and no token of the row would meet another column of it
pub record RowFits (sets : List (StateIndex × StateSet)) (entries : List ClassEntry) (n : StateIndex) (row : List (List ℕ)) : Type 0 where
  pub key : StateSet
  pub columns : List (List ℕ)
  pub at : class_key_of sets n ≡ Some key
  pub are : AreColumnsOfKey entries key.index columns
  pub fits : ColumnsMeetComing columns (InColumn HasToken row) → ⊥

-- the columns of the state's row fit beside the class of another; none where two of them meet, or they don't fit
abbrev pub FittingRowAnswer : List (StateIndex × StateSet) → List ClassEntry → StateIndex → TableView → StateIndex →
    Result (Option (List (List ℕ))) MergeFault → Type 0
FittingRowAnswer sets entries n table m (Ok (Some columns)) =
    AreColumns table.conflicts (TableHolds HasToken table.rows m.0) columns × RowFits sets entries n columns
FittingRowAnswer sets entries n table m (Ok None) =
    HaveMeeting (TableHolds HasToken table.rows m.0)
    ⊎ ((columns : List (List ℕ)) × AreColumns table.conflicts (TableHolds HasToken table.rows m.0) columns
    × (RowFits sets entries n columns → ⊥))
FittingRowAnswer sets entries n table m (Err fault) = fault ≡ Memory

-- the state gets a new class with these columns
pub record GivesClass (sets : List (StateIndex × StateSet)) (entries : List ClassEntry) (n : StateIndex) (columns : List (List ℕ))
    (new_sets : List (StateIndex × StateSet)) (new_entries : List ClassEntry) : Type 0 where
  pub key : StateSet
  pub adds : AddsClass entries columns key.index new_entries
  pub put : new_sets ≡ insert_entry index_cmp sets n key
