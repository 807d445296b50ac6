-- What reading tells of a value that spells nothing is the first of its faults.
use Rattle.std.specs.Prelude.{◌≡◌, ◌⊎◌, ℕ, List, Result, Ok, Err, Some}
use Rattle.serde_json.specs.Data.{Data}
use Rattle.serde_json.specs.Read.{read}
use Rattle.lalrpop_grammar.specs.declared.grammar.Grammar.{Grammar}
use Rattle.lalrpop_grammar.specs.declared.tree.WrittenTree.{WrittenTree}
use Rattle.lalrpop_json_values.specs.declared.fault.Fault.{Fault}
use Rattle.lalrpop_json_grammar.specs.Grammars.{grammar_at}
use Rattle.lalrpop_json_grammar.specs.ReadTrees.{tree_at}
use Rattle.lalrpop_json_grammar.specs.Faults.{IsFaultOfValue}
use Rattle.lalrpop_json_grammar.specs.Order.{FaultComesBefore, HasKeysInOrder}
use Rattle.lalrpop_json_grammar.specs.Wanted.{Component, Wanted}

-- the fault is one of a value that should be a grammar; a tree
abbrev pub IsGrammarFault : Data → Fault → Type 0
IsGrammarFault d f = IsFaultOfValue (Wanted.component Component.grammar) d f

abbrev pub IsTreeFault : Data → Fault → Type 0
IsTreeFault d f = IsFaultOfValue (Wanted.component Component.tree) d f

-- of these faults this one is the first
abbrev pub IsFirstFault : (Fault → Type 0) → Fault → Type 0
IsFirstFault F f = F f × ((g : Fault) → F g → (g ≡ f) ⊎ FaultComesBefore f g)

-- What reading tells is a fault of the value, and the first one where each object of the value has each key once, in byte order.
abbrev pub Told : (Fault → Type 0) → Data → Fault → Type 0
Told F d f = F f × (HasKeysInOrder d → IsFirstFault F f)

-- a reader of what a place asks for tells the first fault of each value, and what it reads has none
abbrev pub TellsFirstFaults : {A : Type 0} → Wanted → (Data → Result A Fault) → Type 0
TellsFirstFaults {A = A} w reading =
    ((d : Data) (f : Fault) → reading d ≡ Err f → Told (λ g. IsFaultOfValue w d g) d f)
    × ((d : Data) (x : A) → reading d ≡ Ok x → (f : Fault) → IsFaultOfValue w d f → ⊥)

abbrev pub GrammarFaultsAreTold : Type 0
GrammarFaultsAreTold = (d : Data) (f : Fault) → grammar_at d ≡ Err f → Told (IsGrammarFault d) d f

abbrev pub ReadGrammarsHaveNoFault : Type 0
ReadGrammarsHaveNoFault = (d : Data) (g : Grammar) → grammar_at d ≡ Ok g → (f : Fault) → IsGrammarFault d f → ⊥

abbrev pub TreeFaultsAreTold : Type 0
TreeFaultsAreTold = (d : Data) (f : Fault) → tree_at d ≡ Err f → Told (IsTreeFault d) d f

abbrev pub ReadTreesHaveNoFault : Type 0
ReadTreesHaveNoFault = (d : Data) (t : WrittenTree) → tree_at d ≡ Ok t → (f : Fault) → IsTreeFault d f → ⊥

-- what is read of a JSON text is in order
abbrev pub ReadValuesAreInOrder : Type 0
ReadValuesAreInOrder = (text : List ℕ) (d : Data) → read text ≡ Some d → HasKeysInOrder d

-- so what reading tells of the value of a JSON text is its first fault
abbrev pub GrammarFaultsOfTextsAreFirst : Type 0
GrammarFaultsOfTextsAreFirst =
    (text : List ℕ) (d : Data) (f : Fault) → read text ≡ Some d → grammar_at d ≡ Err f → IsFirstFault (IsGrammarFault d) f

abbrev pub TreeFaultsOfTextsAreFirst : Type 0
TreeFaultsOfTextsAreFirst =
    (text : List ℕ) (d : Data) (f : Fault) → read text ≡ Some d → tree_at d ≡ Err f → IsFirstFault (IsTreeFault d) f

-- reading order is an order
abbrev pub NoneComesBeforeAnEarlier : Type 0
NoneComesBeforeAnEarlier = (f g : Fault) → FaultComesBefore f g → FaultComesBefore g f → ⊥

abbrev pub EarlierComesBeforeLater : Type 0
EarlierComesBeforeLater = (f g h : Fault) → FaultComesBefore f g → FaultComesBefore g h → FaultComesBefore f h
