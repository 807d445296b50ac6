-- A state without lookaheads before a set, reductions before the sets at their places, and answers that are refused.
use Rattle.std.proofs.Common.{◌≡◌, ℕ, zero, suc, true, false, List, [], ◌∷◌, Some, slice_get, refl, ap, arith}
use Rattle.std.specs.Borrow.{Bor}
use Rattle.lalrpop_grammar_repr.specs.declared.production.Production.{Production}
use Rattle.lalrpop_sets.specs.AscendingLists.{has}
use Rattle.lalrpop_sets.specs.declared.nil.Nil.{Nil}
use Rattle.lalrpop_lr1_theory.proofs.ListLemmas.{none_some}
use Rattle.lalrpop_lr1_theory.proofs.StepLemmas.{some_same}
use Rattle.lalrpop_lr1_core.specs.declared.state.State.{State}
use Rattle.lalrpop_lane.specs.LaneStates.{AreBeforeSets, HaveSetEach, IsBeforeSets, state_before}

abbrev empty_production : ℕ → Production
empty_production n =
    record { nonterminal = record { 0 = 65 ∷ [] }; symbols = []; action = record { 0 = n }; span = record { 0 = 0; 1 = 0 } }

abbrev lent : ℕ → Bor Production
lent n = record { ref_ptr = (n, 0); now = empty_production n }

-- a state with one item and a shift
abbrev bare : Nil → State Nil
bare none = record {
  index = record { 0 = 3 };
  items = record { vec = record { production = lent 0; index = 0; lookahead = none } ∷ [] };
  shifts = [];
  reductions = (none, lent 0) ∷ [];
  gotos = (record { 0 = 66 ∷ [] }, record { 0 = 4 }) ∷ [];
}

abbrev before_two : List ℕ → State (List ℕ)
before_two set = record {
  index = record { 0 = 3 };
  items = record { vec = record { production = lent 0; index = 0; lookahead = 2 ∷ [] } ∷ [] };
  shifts = [];
  reductions = (set, lent 0) ∷ [];
  gotos = (record { 0 = 66 ∷ [] }, record { 0 = 4 }) ∷ [];
}

bare_before : (none : Nil) → state_before (2 ∷ []) (bare none) ≡ before_two (2 ∷ [])
bare_before none = refl

-- the reduction gets another set, and all else stays
set_put : IsBeforeSets ((5 ∷ []) ∷ []) (before_two (2 ∷ [])) (before_two (5 ∷ []))
set_put = record {
  reductions = record { count = refl; each = one };
  rest = refl;
}
  where
    one : (k : ℕ) (r q : List ℕ × Bor Production) (set : List ℕ) → slice_get ((2 ∷ [], lent 0) ∷ []) k ≡ Some r →
        slice_get ((5 ∷ [], lent 0) ∷ []) k ≡ Some q → slice_get {X = List ℕ} ((5 ∷ []) ∷ []) k ≡ Some set → q ≡ (set, r.1)
    one zero r q set e f h =
        let a : (2 ∷ [], lent 0) ≡ r = some_same (2 ∷ [], lent 0) r e in
        let b : (5 ∷ [], lent 0) ≡ q = some_same (5 ∷ [], lent 0) q f in
        let d : 5 ∷ [] ≡ set = some_same (5 ∷ []) set h in cc
    one (suc k) r q set e f h = absurd (none_some r e)

-- the sets of two reductions, changed for each other
swapped_refused : AreBeforeSets ((5 ∷ []) ∷ (6 ∷ []) ∷ []) (([], lent 0) ∷ ([], lent 1) ∷ [])
    ((6 ∷ [], lent 0) ∷ (5 ∷ [], lent 1) ∷ []) → ⊥
swapped_refused are =
    let e = are.each 0 ([], lent 0) (6 ∷ [], lent 0) (5 ∷ []) refl refl refl in
    let z : false ≡ true = ap (λ (r : List ℕ × Bor Production). has r.0 5) e in
    let w : ⊥ = cc in w

-- a reduction is forgotten
forgotten_refused : AreBeforeSets ((5 ∷ []) ∷ (6 ∷ []) ∷ []) (([], lent 0) ∷ ([], lent 1) ∷ []) ((5 ∷ [], lent 0) ∷ []) → ⊥
forgotten_refused are = let c = are.count in omega (arith, c)

-- no states, no sets; and a state without reductions has none, too
no_sets : HaveSetEach [] []
no_sets = record { count = refl; each = λ n state own e f. absurd (none_some state e) }
