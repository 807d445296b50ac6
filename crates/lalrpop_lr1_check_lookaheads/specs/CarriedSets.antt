-- What is carried to the finished items by which states reduce, as a set for each reduction: for lookaheads that are read off.
use Rattle.std.specs.Prelude.{ℕ, ◌≡◌, ◌↔◌, ◌≤◌, List, Some, length, map, slice_get, true}
use Rattle.std.specs.Borrow.{Bor}
use Rattle.lalrpop_grammar_symbols.specs.Symbols.{Text}
use Rattle.lalrpop_grammar_repr.specs.declared.grammar.Grammar.{Grammar}
use Rattle.lalrpop_grammar_repr.specs.declared.production.Production.{Production}
use Rattle.lalrpop_lr1_theory.specs.Automata.{Carries}
use Rattle.lalrpop_lr1_theory.specs.Productions as theory
use Rattle.lalrpop_lr1_theory.specs.States as states
use Rattle.lalrpop_lr1_core.specs.Views.{lr_state_view, next_of_number, production_view, token_lookahead}
use Rattle.lalrpop_lr1_core.specs.declared.state.State.{State}
use Rattle.lalrpop_sets.specs.AscendingLists.{has}
use Rattle.lalrpop_sets.specs.Tokens.{eof_number}
use Rattle.lalrpop_lr1_first.specs.FirstSetsOf.{IsProductionOf}
use Rattle.lalrpop_lr1_check_lookaheads.specs.Ends.{AreEnds, EndKey, HasEndMark, end_key_at}
use Rattle.lalrpop_lr1_check_lookaheads.specs.declared.lookaheads.ends.Ends.{Ends}

-- one set for each reduction, in order, of each of which with the production this holds
pub record AreSetsOfReductions (Fits : Production → List ℕ → Type 0) (reductions : List (List ℕ × Bor Production))
    (sets : List (List ℕ)) : Type 0 where
  pub count : length sets ≡ length reductions
  pub each : (i : ℕ) (r : List ℕ × Bor Production) (set : List ℕ) → slice_get reductions i ≡ Some r →
      slice_get sets i ≡ Some set → Fits r.1.now set

-- for each state, in order, one set for each of its reductions
pub record AreSetsOfStates (Fits : ℕ → Production → List ℕ → Type 0) (states : List (State (List ℕ)))
    (sets : List (List (List ℕ))) : Type 0 where
  pub count : length sets ≡ length states
  pub each : (n : ℕ) (state : State (List ℕ)) (own : List (List ℕ)) → slice_get states n ≡ Some state →
      slice_get sets n ≡ Some own → AreSetsOfReductions (Fits n) state.reductions own

-- the set has just the tokens of the end
abbrev pub IsSetOfEnd : Ends → ℕ → Production → List ℕ → Type 0
IsSetOfEnd ends n p set = (k : ℕ) → (has set k ≡ true) ↔ HasEndMark ends (end_key_at n p) (Some k)

module _ (g : Grammar) (s : Text) (all : List (State (List ℕ))) where
  -- the states as the theory sees them
  abbrev pub seen_by_tokens : List states.State
  seen_by_tokens = map (lr_state_view (token_lookahead g.terminals)) all

  -- what is carried to the item of the production with the dot at its end, in the state with this number
  abbrev pub CarriesToEnd : ℕ → theory.Production → theory.Next → Type 0
  CarriesToEnd n p x =
      Carries (IsProductionOf g) s (states.HasItem seen_by_tokens) (states.HasEdge seen_by_tokens) n p (length p.right) x

  -- the same, of a token by its number
  abbrev pub CarriesTokenToEnd : ℕ → Production → ℕ → Type 0
  CarriesTokenToEnd n p k = (k ≤ eof_number g.terminals) × CarriesToEnd n (production_view p) (next_of_number g.terminals k)

  -- the set holds just what is carried to that item: each number is of a token that is carried, and all that is carried has one
  pub record IsCarriedSet (n : ℕ) (p : Production) (set : List ℕ) : Type 0 where
    pub sound : (k : ℕ) → has set k ≡ true → CarriesTokenToEnd n p k
    pub complete : (x : theory.Next) → CarriesToEnd n (production_view p) x →
        (k : ℕ) × (next_of_number g.terminals k ≡ x) × (has set k ≡ true)

  -- for each reduction of each state, in order, just what is carried to the item that it is by
  abbrev pub AreCarriedSets : List (List (List ℕ)) → Type 0
  AreCarriedSets = AreSetsOfStates IsCarriedSet all

  -- the production as the grammar has it stands among the ends, with the token's number
  pub record HasEndBefore (ends : Ends) (n : ℕ) (p : theory.Production) (x : theory.Next) : Type 0 where
    pub production : Production
    pub number : ℕ
    pub production_is : production_view production ≡ p
    pub next_is : next_of_number g.terminals number ≡ x
    pub mark : HasEndMark ends (end_key_at n production) (Some number)

  -- the ends have just what is carried to them, and none to which something is carried is missing
  pub record AreCarriedEnds (ends : Ends) : Type 0 where
    pub are : AreEnds ends
    pub sound : (end : EndKey) (k : ℕ) → HasEndMark ends end (Some k) → CarriesTokenToEnd end.state end.production k
    pub complete : (n : ℕ) (p : theory.Production) (x : theory.Next) → CarriesToEnd n p x → HasEndBefore ends n p x
