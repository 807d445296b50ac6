-- Productions in states where their symbols end, with sets of tokens: what slots bring to them, and what reductions do.
use Rattle.std.specs.Prelude.{ℕ, ◌≡◌, ◌↔◌, List, Option, map, slice_get, Some}
use Rattle.std.specs.Borrow.{Bor}
use Rattle.lalrpop_grammar_repr.specs.declared.production.Production.{Production}
use Rattle.lalrpop_lr1_theory.specs.PropagatedNexts.{LeadAlong}
use Rattle.lalrpop_lr1_theory.specs.States.{HasEdge, LookaheadSet}
use Rattle.lalrpop_lr1_core.specs.Views.{lr_state_view, production_symbol_view}
use Rattle.lalrpop_lr1_core.specs.declared.state.State.{State}
use Rattle.lalrpop_lr1_check_lookaheads.specs.KeyedSets.{GainsKeyedMarks, HasMarkAt, HaveSets, IsMarkIn, KeyedSets, OfSome, OfSomePlace}
use Rattle.lalrpop_lr1_check_lookaheads.specs.LookaheadSlots.{SlotKey}
use Rattle.lalrpop_lr1_check_lookaheads.specs.declared.lookaheads.ends.End.{End}
use Rattle.lalrpop_lr1_check_lookaheads.specs.declared.lookaheads.ends.Ends.{Ends}

-- a production in a state where its symbols end
pub record EndKey : Type 0 where
  pub state : ℕ
  pub production : Production

abbrev pub end_key_at : ℕ → Production → EndKey
end_key_at n p = record { state = n; production = p }

abbrev pub end_key : End → EndKey
end_key e = end_key_at e.state e.production.now

abbrev pub end_table : Ends → KeyedSets EndKey
end_table ends = record { keys = map end_key ends.keys.keys; sets = ends.sets.items }

-- each end has a set
abbrev pub AreEnds : Ends → Type 0
AreEnds ends = HaveSets (end_table ends)

-- the end is there, or its set has the token
abbrev pub HasEndMark : Ends → EndKey → Option ℕ → Type 0
HasEndMark ends = HasMarkAt (end_table ends)

abbrev pub GainsEndMarks : Ends → Ends → (EndKey → Option ℕ → Type 0) → Type 0
GainsEndMarks old new = GainsKeyedMarks (end_table old) (end_table new)

-- the ends have just these marks
pub record HaveJustMarks (ends : Ends) (Of : EndKey → Option ℕ → Type 0) : Type 0 where
  pub are : AreEnds ends
  pub marks : (end : EndKey) (mark : Option ℕ) → HasEndMark ends end mark ↔ Of end mark

-- the end of its production in its state is there with its tokens, for one reduction and for those of all states
abbrev pub ReductionBrings : ℕ → List ℕ × Bor Production → EndKey → Option ℕ → Type 0
ReductionBrings n r end mark = (end ≡ end_key_at n r.1.now) × IsMarkIn r.0 mark

abbrev pub ReductionsBring : List (State (List ℕ)) → EndKey → Option ℕ → Type 0
ReductionsBring states = OfSomePlace (λ n state. OfSome (ReductionBrings n) state.reductions) states

module _ (look : List ℕ → LookaheadSet) (states : List (State (List ℕ))) where
  -- the production is of the slot's name, and leads from the slot's state to the end, which is there with the slot's tokens
  pub record BringsToEnd (from : SlotKey) (tokens : List ℕ) (p : Production) (end : EndKey) (mark : Option ℕ) : Type 0 where
    pub name : p.nonterminal.0 ≡ from.name
    pub production : end.production ≡ p
    pub leads : LeadAlong (HasEdge (map (lr_state_view look) states)) (map production_symbol_view p.symbols) from.state end.state
    pub mark_is : IsMarkIn tokens mark

  -- some production does, from the slot with this number, where tokens flow to it, and from some slot
  abbrev pub SlotBringsToEnd : List Production → List SlotKey → ℕ → Option (List ℕ) → EndKey → Option ℕ → Type 0
  SlotBringsToEnd productions keys j tokens end mark = (set : List ℕ) × (key : SlotKey) × (tokens ≡ Some set)
      × (slice_get keys j ≡ Some key) × OfSome (BringsToEnd key set) productions end mark

  abbrev pub SlotsBringToEnd : List Production → List SlotKey → List (Option (List ℕ)) → EndKey → Option ℕ → Type 0
  SlotsBringToEnd productions keys = OfSomePlace (SlotBringsToEnd productions keys)
