-- Items by their places, in order, and what closes a kernel of such items: for the construction of states.
use Rattle.std.specs.Prelude.{◌↔◌, ℕ, Bool, List, Some, None, Contains, map}
use Rattle.lalrpop_lr1_theory.specs.Productions as theory
use Rattle.lalrpop_lr1_core.specs.Views.{next_of_number}
use Rattle.lalrpop_sets.specs.AscendingLists.{Ascends}
use Rattle.lalrpop_lr1_first.specs.ClosureTables.{AreItems, HoldTokens, TableMarks}
use Rattle.lalrpop_lr1_first.specs.FirstNumbers.{table_end}
use Rattle.lalrpop_lr1_first.specs.ItemTables.{ListsItem, ListsNext}
use Rattle.lalrpop_lr1_first.specs.NumberedGrammars.{HasItemAt}
use Rattle.lalrpop_lr1_first.specs.declared.numbered.Numbered.{Numbered}

-- the first of each pair: the places of items, the symbols of edges
abbrev pub places_of : {L : Type 0} → List (ℕ × L) → List ℕ
places_of items = map (λ item. item.0) items

-- each lookahead is in order
abbrev pub HaveOrderedLookaheads : {L : Type 0} → (L → Type 0) → List (ℕ × L) → Type 0
HaveOrderedLookaheads {L} in_order items = (i : ℕ) (l : L) → Contains items (i, l) → in_order l

-- items of the table in order, each once, whose lookaheads are in order, and hold terminals and the end alone
pub record AreKernelItems {L : Type 0} (marks : L → List ℕ) (in_order : L → Type 0) (table : Numbered)
    (items : List (ℕ × L)) : Type 0 where
  pub placed : AreItems table items
  pub ascending : Ascends (places_of items)
  pub tokens : HoldTokens marks (table_end table) items
  pub ordered : HaveOrderedLookaheads in_order items

-- such items are exactly what is marked from a kernel: that they are there, and what may follow them
pub record IsClosureOf {L : Type 0} (marks : L → List ℕ) (firsts : Bool) (in_order : L → Type 0) (table : Numbered)
    (kernel items : List (ℕ × L)) : Type 0 where
  pub are_items : AreKernelItems marks in_order table items
  pub closure : (p : theory.Production) (d : ℕ) → ListsItem items (HasItemAt table) p d
      ↔ TableMarks marks firsts table kernel p d None
  pub nexts : (p : theory.Production) (d : ℕ) (x : theory.Next) →
      ListsNext marks items (next_of_number table.terminals.now) (table_end table) (HasItemAt table) p d x
      ↔ TableMarks marks firsts table kernel p d (Some x)
