-- Slots by their keys, with what is propagated to each: for what is propagated to nonterminals in states.
use Rattle.std.specs.Prelude.{ℕ, List, Option, map}
use Rattle.lalrpop_grammar_symbols.specs.Symbols.{Text}
use Rattle.lalrpop_lr1_check_lookaheads.specs.KeyedSets.{GainsKeyedMarks, HasMarkAt, HaveSets, KeyedSets}
use Rattle.lalrpop_lr1_check_lookaheads.specs.declared.lookaheads.slots.Slot.{Slot}
use Rattle.lalrpop_lr1_check_lookaheads.specs.declared.lookaheads.slots.Slots.{Slots}

-- a nonterminal in a state
pub record SlotKey : Type 0 where
  pub state : ℕ
  pub name : Text

abbrev pub slot_key : Slot → SlotKey
slot_key s = record { state = s.state; name = s.name.now.0 }

abbrev pub slot_keys : Slots → List SlotKey
slot_keys slots = map slot_key slots.keys.keys

abbrev pub slot_sets : Slots → List (List ℕ)
slot_sets slots = slots.sets.items

abbrev pub slot_table : Slots → KeyedSets SlotKey
slot_table slots = record { keys = slot_keys slots; sets = slot_sets slots }

-- each slot has a set
abbrev pub AreSlots : Slots → Type 0
AreSlots slots = HaveSets (slot_table slots)

-- a slot with this key has the mark
abbrev pub HasSlotMark : Slots → SlotKey → Option ℕ → Type 0
HasSlotMark slots = HasMarkAt (slot_table slots)

-- slots keep their numbers, each new one has a set, and the marks are those that were there and these
abbrev pub GainsSlotMarks : Slots → Slots → (SlotKey → Option ℕ → Type 0) → Type 0
GainsSlotMarks old new = GainsKeyedMarks (slot_table old) (slot_table new)
