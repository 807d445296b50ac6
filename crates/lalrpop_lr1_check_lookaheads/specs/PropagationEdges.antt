-- Along which edges slots propagate what is propagated to them: over symbols to a nonterminal behind which nothing has to stand.
use Rattle.std.specs.Prelude.{ℕ, ◌≡◌, ◌⊎◌, ◌<◌, ◌∷◌, List, Contains, Option, None, Some, drop, map, slice_get, take}
use Rattle.lalrpop_grammar_repr.specs.declared.grammar.Grammar.{Grammar}
use Rattle.lalrpop_grammar_repr.specs.declared.production.Production.{Production}
use Rattle.lalrpop_grammar_repr.specs.declared.production.Symbol.{Symbol}
use Rattle.lalrpop_lr1_theory.specs.Productions as theory
use Rattle.lalrpop_lr1_theory.specs.FirstSets.{First0}
use Rattle.lalrpop_lr1_theory.specs.States.{HasEdge, LookaheadSet}
use Rattle.lalrpop_lr1_core.specs.Views.{lr_state_view, production_symbol_view}
use Rattle.lalrpop_lr1_core.specs.declared.state.State.{State}
use Rattle.lalrpop_lr1_first.specs.FirstSetsOf.{IsProductionOf}
use Rattle.lalrpop_lr1_first.specs.declared.flowing.Edge.{Edge}
use Rattle.lalrpop_lr1_theory.specs.PropagatedNexts.{LeadAlong}
use Rattle.lalrpop_lr1_check_lookaheads.specs.LookaheadSlots.{AreSlots, HasSlotMark, SlotKey, slot_keys}
use Rattle.lalrpop_lr1_check_lookaheads.specs.declared.lookaheads.slots.Slots.{Slots}

-- the edge leads from the slot with this number to one with such a key
pub record LeadsToSlot (from : ℕ) (slots : Slots) (To : SlotKey → Type 0) (e : Edge) : Type 0 where
  pub key : SlotKey
  pub from_is : e.from ≡ from
  pub rest_is : e.rest ≡ 0
  pub at : slice_get (slot_keys slots) e.to ≡ Some key
  pub to : To key

-- slots keep their numbers and marks, new ones have no token, and new edges lead from the slot with this number to all such slots
pub record GainsEdges (from : ℕ) (old : Slots) (old_edges : List Edge) (new : Slots) (new_edges : List Edge)
    (To : SlotKey → Type 0) : Type 0 where
  pub are : AreSlots new
  pub kept : (j : ℕ) (key : SlotKey) → slice_get (slot_keys old) j ≡ Some key → slice_get (slot_keys new) j ≡ Some key
  pub has : (key : SlotKey) (mark : Option ℕ) → HasSlotMark old key mark → HasSlotMark new key mark
  pub tokens : (key : SlotKey) (k : ℕ) → HasSlotMark new key (Some k) → HasSlotMark old key (Some k)
  pub edges : (e : Edge) → Contains old_edges e → Contains new_edges e
  pub sound : (e : Edge) → Contains new_edges e → Contains old_edges e ⊎ LeadsToSlot from new To e
  pub all : (key : SlotKey) → To key → (e : Edge) × Contains new_edges e × (e.from ≡ from)
      × (slice_get (slot_keys new) e.to ≡ Some key)

module _ (g : Grammar) (look : List ℕ → LookaheadSet) (states : List (State (List ℕ))) where
  -- the nonterminal stands behind the dot, nothing has to stand behind it, and the symbols before it lead to its state
  pub record PropagatesAtDot (state : ℕ) (symbols : List Symbol) (dot : ℕ) (key : SlotKey) : Type 0 where
    pub rest : List theory.Symbol
    pub before : drop dot (map production_symbol_view symbols) ≡ theory.nonterminal key.name ∷ rest
    pub nothing : First0 (IsProductionOf g) rest None
    pub led : LeadAlong (HasEdge (map (lr_state_view look) states)) (take dot (map production_symbol_view symbols)) state key.state

  abbrev pub PropagatesBelow : ℕ → List Symbol → ℕ → SlotKey → Type 0
  PropagatesBelow state symbols n key = (dot : ℕ) × (dot < n) × PropagatesAtDot state symbols dot key

  -- a production of the slot's name propagates to the other slot
  abbrev pub PropagatesBy : SlotKey → Production → SlotKey → Type 0
  PropagatesBy from p key = (p.nonterminal.0 ≡ from.name) × (dot : ℕ) × PropagatesAtDot from.state p.symbols dot key

  abbrev pub PropagatesBySome : SlotKey → List Production → SlotKey → Type 0
  PropagatesBySome from productions key = (p : Production) × Contains productions p × PropagatesBy from p key

  -- the edges of the first slots
  pub record ArePropagationEdges (productions : List Production) (old new : Slots) (edges : List Edge) (count : ℕ) : Type 0 where
    pub are : AreSlots new
    pub has : (key : SlotKey) (mark : Option ℕ) → HasSlotMark old key mark → HasSlotMark new key mark
    pub tokens : (key : SlotKey) (k : ℕ) → HasSlotMark new key (Some k) → HasSlotMark old key (Some k)
    pub sound : (e : Edge) → Contains edges e → (j : ℕ) × (from : SlotKey) × (j < count)
        × (slice_get (slot_keys new) j ≡ Some from)
        × LeadsToSlot j new (λ key. PropagatesBySome from productions key) e
    pub all : (j : ℕ) (from key : SlotKey) → j < count → slice_get (slot_keys new) j ≡ Some from →
        PropagatesBySome from productions key →
        (e : Edge) × Contains edges e × (e.from ≡ j) × (slice_get (slot_keys new) e.to ≡ Some key)
