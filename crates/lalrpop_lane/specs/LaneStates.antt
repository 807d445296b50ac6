-- States by lanes: spread over those without lookaheads, and reducing before just what is carried. For the builders of states.
use Rattle.std.specs.Prelude.{ℕ, ◌+◌, ◌≤◌, ◌≡◌, ◌↔◌, Contains, List, Option, None, Some, length, map, slice_get}
use Rattle.std.specs.Borrow.{Bor}
use Rattle.std.specs.Global.{Global}
use Rattle.std.specs.Prelude.{Vec}
use Rattle.lalrpop_grammar_symbols.specs.Symbols.{Text}
use Rattle.lalrpop_grammar_repr.specs.declared.grammar.Grammar.{Grammar}
use Rattle.lalrpop_grammar_repr.specs.declared.production.Production.{Production}
use Rattle.lalrpop_lr1_theory.specs.CanonicalStates.{AreLr0States}
use Rattle.lalrpop_lr1_theory.specs.Laws.{HaveNoConflict}
use Rattle.lalrpop_lr1_theory.specs.Productions as theory
use Rattle.lalrpop_lr1_theory.specs.SameStates.{HasReductionBy}
use Rattle.lalrpop_lr1_theory.specs.States as states
use Rattle.lalrpop_lr1_theory.specs.States.{HasItem}
use Rattle.lalrpop_lane_theory.specs.CarriedConflicts.{AreCarriedReductions, HaveNoCarriedConflict, ReduceByEachOnce}
use Rattle.lalrpop_lane_theory.specs.Lalr1Grammars.{IsLalr1}
use Rattle.lalrpop_lane_theory.specs.SpreadStates.{AreSpreadStates}
use Rattle.lalrpop_lr1_core.specs.TheoryGrammars.{theory_grammar}
use Rattle.lalrpop_lr1_core.specs.declared.item.Item.{Item}
use Rattle.lalrpop_lr1_core.specs.declared.state.State.{State}
use Rattle.lalrpop_sets.specs.declared.nil.Nil.{Nil}
use Rattle.lalrpop_lr1_build.specs.CollapseAnswers.{states_over}
use Rattle.lalrpop_lr1_check_lookaheads.specs.CarriedSets.{AreCarriedSets}
use Rattle.lalrpop_lr1_check_lookaheads.specs.Reductions.{OverTokens}

-- an item, a reduction and a state without lookaheads, with this one in their place
abbrev pub item_before : List ℕ → Item Nil → Item (List ℕ)
item_before set item = record { production = item.production; index = item.index; lookahead = set }

abbrev pub reduction_before : List ℕ → Nil × Bor Production → List ℕ × Bor Production
reduction_before set r = (set, r.1)

abbrev pub state_before : List ℕ → State Nil → State (List ℕ)
state_before set state = record {
  index = state.index;
  items = record { vec = map (item_before set) state.items.vec };
  shifts = state.shifts;
  reductions = map (reduction_before set) state.reductions;
  gotos = state.gotos;
}

-- one set for each of the reductions of each state
pub record HaveSetEach (states : List (State (List ℕ))) (sets : List (List (List ℕ))) : Type 0 where
  pub count : length sets ≡ length states
  pub each : (n : ℕ) (state : State (List ℕ)) (own : List (List ℕ)) → slice_get states n ≡ Some state →
      slice_get sets n ≡ Some own → length own ≡ length state.reductions

-- the new reductions are by the productions of the old ones, in order, each before the set at its place
pub record AreBeforeSets (sets : List (List ℕ)) (old new : List (List ℕ × Bor Production)) : Type 0 where
  pub count : length new ≡ length old
  pub each : (k : ℕ) (r q : List ℕ × Bor Production) (set : List ℕ) → slice_get old k ≡ Some r → slice_get new k ≡ Some q →
      slice_get sets k ≡ Some set → q ≡ (set, r.1)

-- the new state is the old one, but that its reductions are before these sets
pub record IsBeforeSets (sets : List (List ℕ)) (old new : State (List ℕ)) : Type 0 where
  pub reductions : AreBeforeSets sets old.reductions new.reductions
  pub rest : new ≡ record old { reductions = new.reductions }

-- each of the new states is the old one, but that its reductions are before the sets at its place
pub record AreStatesBeforeSets (sets : List (List (List ℕ))) (old new : List (State (List ℕ))) : Type 0 where
  pub count : length new ≡ length old
  pub each : (n : ℕ) (state other : State (List ℕ)) (own : List (List ℕ)) → slice_get old n ≡ Some state →
      slice_get new n ≡ Some other → slice_get sets n ≡ Some own → IsBeforeSets own state other

-- the new states are the old ones, but that each reduction is before just what is carried over these to its item
pub record ReduceBeforeCarried (g : Grammar) (s : Text) (old new : List (State (List ℕ))) : Type 0 where
  pub sets : List (List (List ℕ))
  pub carried : AreCarriedSets g s old sets
  pub states_are : AreStatesBeforeSets sets old new

-- The states are spread over those of the grammar without lookaheads, at most so many more than these, and reduce by the items that they
-- have finished, by each production once.
pub record AreSpreadOverLr0 (g : Grammar) (s : Text) (copies : ℕ) (all : List (State (List ℕ))) : Type 0 where
  pub originals : List states.State
  pub origin : ℕ → ℕ
  pub lr0 : AreLr0States (theory_grammar g) s originals
  pub spread : AreSpreadStates originals (states_over g.terminals all) origin
  pub finished : (n : ℕ) (p : theory.Production) → HasReductionBy (states_over g.terminals all) n p
      ↔ HasItem (states_over g.terminals all) n p (length p.right)
  pub once : ReduceByEachOnce (states_over g.terminals all)
  pub least : length originals ≤ length all
  pub most : length all ≤ length originals + copies

-- They also reduce before just what is carried; and where what is carried over the states without lookaheads leaves no conflict, there are
-- no more of them.
pub record AreReducedStates (g : Grammar) (s : Text) (copies : ℕ) (all : List (State (List ℕ))) : Type 0 where
  pub states_are : AreSpreadOverLr0 g s copies all
  pub carried : AreCarriedReductions (theory_grammar g) s (states_over g.terminals all)
  pub tokens : OverTokens g.terminals all
  pub needed : HaveNoCarriedConflict (theory_grammar g) s states_are.originals → length all ≡ length states_are.originals

-- and they have no conflict
pub record AreLaneStates (g : Grammar) (s : Text) (copies : ℕ) (all : List (State (List ℕ))) : Type 0 where
  pub reduced : AreReducedStates g s copies all
  pub no_conflict : HaveNoConflict (states_over g.terminals all)

-- what is answered by lanes: such states, or, only where the grammar isn't LALR(1), none
abbrev pub LaneAnswer : Grammar → Text → ℕ → Option (Vec (State (List ℕ)) Global) → Type 0
LaneAnswer g s copies (Some found) = AreLaneStates g s copies found.items
LaneAnswer g s copies None = IsLalr1 (Contains (theory_grammar g)) s → ⊥
