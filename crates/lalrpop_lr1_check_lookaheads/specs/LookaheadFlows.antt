-- With what slots begin, and what flows from slot to slot: for the test of what is propagated.
use Rattle.std.specs.Prelude.{ℕ, ◌≡◌, ◌↔◌, ◌⊎◌, ◌<◌, List, [], ◌∷◌, Contains, Option}
use Rattle.std.specs.Prelude.{None, Some, length, slice_get, true}
use Rattle.lalrpop_grammar_symbols.specs.Symbols.{Text}
use Rattle.lalrpop_grammar_repr.specs.declared.grammar.Grammar.{Grammar}
use Rattle.lalrpop_grammar_repr.specs.declared.production.Production.{Production}
use Rattle.lalrpop_grammar_repr.specs.declared.production.Symbol.{Symbol}
use Rattle.lalrpop_grammar_repr.specs.declared.terminal_set.TerminalSet.{TerminalSet}
use Rattle.lalrpop_lr1_core.specs.declared.item.Item.{Item}
use Rattle.lalrpop_lr1_core.specs.declared.state.State.{State}
use Rattle.lalrpop_sets.specs.AscendingLists.{has}
use Rattle.lalrpop_sets.specs.Tokens.{eof_number}
use Rattle.lalrpop_lr1_first.specs.Numbers.{set_of_number}
use Rattle.lalrpop_lr1_first.specs.Tables.{HasNumberedTerminal}
use Rattle.lalrpop_lr1_first.specs.declared.flowing.Edge.{Edge}
use Rattle.lalrpop_lr1_check_lookaheads.specs.Brought.{IsBegunMark, ItemBrings}
use Rattle.lalrpop_lr1_check_lookaheads.specs.KeyedSets.{IsMarkIn, OfSome, OfSomePlace}
use Rattle.lalrpop_lr1_check_lookaheads.specs.LookaheadSlots.{AreSlots, HasSlotMark, SlotKey, slot_sets}
use Rattle.lalrpop_lr1_check_lookaheads.specs.declared.lookaheads.slots.Slots.{Slots}

-- the terminals in the items of the states are numbered
abbrev pub HaveKnownItems : TerminalSet → List (State (List ℕ)) → Type 0
HaveKnownItems ts states = (n : ℕ) (state : State (List ℕ)) (item : Item (List ℕ)) (x : Symbol) →
    slice_get states n ≡ Some state →
    Contains state.items.vec item → Contains item.production.now.symbols x → HasNumberedTerminal ts x

-- what the items of the states bring
abbrev pub ItemsBring : Grammar → List (State (List ℕ)) → SlotKey → Option ℕ → Type 0
ItemsBring g states = OfSomePlace (λ n state. OfSome (ItemBrings g n) state.items.vec) states

-- the slots have what items and the productions that they bring hand to them, and the start's in state 0 has the end
pub record AreSeeds (g : Grammar) (productions : List Production) (s : Text) (states : List (State (List ℕ))) (slots : Slots) :
    Type 0 where
  pub are : AreSlots slots
  pub marks : (key : SlotKey) (mark : Option ℕ) → HasSlotMark slots key mark
      ↔ (IsBegunMark g productions (ItemsBring g states) key mark
      ⊎ ((key ≡ record { state = 0; name = s }) × IsMarkIn (eof_number g.terminals ∷ []) mark))

-- the edge is between these slots
pub record IsSlotEdge (slots : Slots) (e : Edge) : Type 0 where
  pub from : e.from < length (slot_sets slots)
  pub to : e.to < length (slot_sets slots)
  pub rest : e.rest ≡ 0

-- what flows along the edges from the sets
pub data FlowsAlong (edges : List Edge) (sets : List (List ℕ)) : ℕ → ℕ → Type 0 where
  stands : (j k : ℕ) → has (set_of_number sets j) k ≡ true → FlowsAlong edges sets j k
  flows : (e : Edge) (k : ℕ) → Contains edges e → FlowsAlong edges sets e.from k → FlowsAlong edges sets e.to k

-- the tokens that are there
abbrev pub option_set : Option (List ℕ) → List ℕ
option_set None = []
option_set (Some set) = set

-- the sets have just what flows
pub record AreFlown (slots : Slots) (edges : List Edge) (sets : List (Option (List ℕ))) : Type 0 where
  pub count : length sets ≡ length (slot_sets slots)
  pub flown : (j k : ℕ) (tokens : Option (List ℕ)) → slice_get sets j ≡ Some tokens →
      (has (option_set tokens) k ≡ true) ↔ FlowsAlong edges (slot_sets slots) j k
