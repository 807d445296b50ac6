-- What a nonterminal behind a dot brings to its slot: that it is there, and what can come first behind it.
use Rattle.std.specs.Prelude.{ℕ, ◌≡◌, ◌↔◌, ◌<◌, List, ◌∷◌, Option, None, Some, drop, map, slice_get}
use Rattle.std.specs.Borrow.{Bor}
use Rattle.lalrpop_grammar_symbols.specs.Symbols.{Text}
use Rattle.lalrpop_grammar_symbols.specs.declared.names.NonterminalString.{NonterminalString}
use Rattle.lalrpop_grammar_repr.specs.declared.grammar.Grammar.{Grammar}
use Rattle.lalrpop_grammar_repr.specs.declared.production.Production.{Production}
use Rattle.lalrpop_grammar_repr.specs.declared.production.Symbol.{Symbol}
use Rattle.lalrpop_lr1_theory.specs.Productions as theory
use Rattle.lalrpop_lr1_theory.specs.FirstSets.{First0}
use Rattle.lalrpop_lr1_core.specs.Views.{next_of_number, production_symbol_view}
use Rattle.lalrpop_lr1_core.specs.declared.item.Item.{Item}
use Rattle.lalrpop_sets.specs.Tokens.{eof_number}
use Rattle.lalrpop_lr1_first.specs.FirstSetsOf.{IsProductionOf}
use Rattle.lalrpop_lr1_check_lookaheads.specs.KeyedSets.{OfSome}
use Rattle.lalrpop_lr1_check_lookaheads.specs.LookaheadSlots.{AreSlots, HasSlotMark, SlotKey, slot_keys}
use Rattle.lalrpop_lr1_check_lookaheads.specs.declared.lookaheads.slots.Slots.{Slots}

-- the nonterminal behind the dot with what stands behind it, or none where none stands there
abbrev pub IsNameAtDot : List Symbol → ℕ → Option (Bor NonterminalString × Bor (List Symbol)) → Type 0
IsNameAtDot xs dot None =
    (A : Text) (b : List theory.Symbol) → drop dot (map production_symbol_view xs) ≡ theory.nonterminal A ∷ b → ⊥
IsNameAtDot xs dot (Some f) =
    drop dot (map production_symbol_view xs) ≡ theory.nonterminal f.0.now.0 ∷ map production_symbol_view f.1.now

-- the mark is that the slot is there, or a terminal that can come first in the rest
abbrev pub IsFirstMark : Grammar → List theory.Symbol → Option ℕ → Type 0
IsFirstMark g b None = Unit {0}
IsFirstMark g b (Some k) = (k < eof_number g.terminals) × First0 (IsProductionOf g) b (next_of_number g.terminals k)

-- the nonterminal with which the symbols begin brings the mark to its slot in the state
pub record BringsMark (g : Grammar) (n : ℕ) (symbols : List theory.Symbol) (key : SlotKey) (mark : Option ℕ) : Type 0 where
  pub rest : List theory.Symbol
  pub state : key.state ≡ n
  pub before : symbols ≡ theory.nonterminal key.name ∷ rest
  pub mark_is : IsFirstMark g rest mark

-- what an item of the state brings
abbrev pub ItemBrings : {L : Type 0} → Grammar → ℕ → Item L → SlotKey → Option ℕ → Type 0
ItemBrings g n item = BringsMark g n (drop item.index (map production_symbol_view item.production.now.symbols))

-- what a production of the slot's name brings with its dot in front
abbrev pub BeginBrings : Grammar → SlotKey → Production → SlotKey → Option ℕ → Type 0
BeginBrings g from p key mark = (p.nonterminal.0 ≡ from.name) × BringsMark g from.state (map production_symbol_view p.symbols) key mark

-- the least set of marks that has these, and, where a slot is there, what the productions of its name bring
pub data IsBegunMark (g : Grammar) (productions : List Production) (Seed : SlotKey → Option ℕ → Type 0) :
    SlotKey → Option ℕ → Type 0 where
  seeded : (key : SlotKey) (mark : Option ℕ) → Seed key mark → IsBegunMark g productions Seed key mark
  begun : (from key : SlotKey) (mark : Option ℕ) → IsBegunMark g productions Seed from None →
      OfSome (BeginBrings g from) productions key mark → IsBegunMark g productions Seed key mark

-- the slots have just the least set of marks
pub record ClosesMarks (g : Grammar) (productions : List Production) (old new : Slots) : Type 0 where
  pub are : AreSlots new
  pub marks : (key : SlotKey) (mark : Option ℕ) →
      HasSlotMark new key mark ↔ IsBegunMark g productions (HasSlotMark old) key mark

-- what is propagated so far, where the first slots were closed
pub record AreClosingMarks (g : Grammar) (productions : List Production) (old now : Slots) (count : ℕ) : Type 0 where
  pub are : AreSlots now
  pub has : (key : SlotKey) (mark : Option ℕ) → HasSlotMark old key mark → HasSlotMark now key mark
  pub sound : (key : SlotKey) (mark : Option ℕ) → HasSlotMark now key mark → IsBegunMark g productions (HasSlotMark old) key mark
  pub closed : (j : ℕ) (from : SlotKey) → j < count → slice_get (slot_keys now) j ≡ Some from →
      (key : SlotKey) (mark : Option ℕ) → OfSome (BeginBrings g from) productions key mark → HasSlotMark now key mark
