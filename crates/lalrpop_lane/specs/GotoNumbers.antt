-- The numbers by which state 0 comes first, then the other states with gotos, then the rest: for putting states in that order.
use Rattle.std.specs.Prelude.{ℕ, suc, Bool, true, false, ◌||◌, List, [], ◌∷◌, ◌++◌, map}
use Rattle.lalrpop_lr1_core.specs.declared.state.State.{State}
use Rattle.lalrpop_lr1_build.specs.Renumbering.{renumber}

-- whether there is something in the list
abbrev pub has_some : {X : Type 0} → List X → Bool
has_some [] = false
has_some (x ∷ xs) = true

-- which states stay in front: the first of all, and those with gotos
abbrev pub fronts_of : {L : Type 0} → Bool → List (State L) → List Bool
fronts_of first [] = []
fronts_of first (state ∷ states) = (first || has_some state.gotos) ∷ fronts_of false states

-- how many are marked
abbrev pub count_marked : List Bool → ℕ
count_marked [] = 0
count_marked (true ∷ marks) = suc (count_marked marks)
count_marked (false ∷ marks) = count_marked marks

-- numbers for those that are marked from one on, for the others from another
abbrev pub numbers_from : List Bool → ℕ → ℕ → List ℕ
numbers_from [] front rest = []
numbers_from (true ∷ marks) front rest = front ∷ numbers_from marks (suc front) rest
numbers_from (false ∷ marks) front rest = rest ∷ numbers_from marks front (suc rest)

abbrev pub goto_numbers : List Bool → List ℕ
goto_numbers marks = numbers_from marks 0 (count_marked marks)

-- the state with this number, its edges by the numbers
abbrev pub state_by_numbers : {L : Type 0} → List ℕ → ℕ → State L → State L
state_by_numbers numbers number state = record {
  index = record { 0 = number };
  items = state.items;
  shifts = map (renumber numbers) state.shifts;
  reductions = state.reductions;
  gotos = map (renumber numbers) state.gotos;
}

-- each of the states with its own number
abbrev pub states_by_numbers : {L : Type 0} → List ℕ → List ℕ → List (State L) → List (State L)
states_by_numbers numbers [] states = []
states_by_numbers numbers (own ∷ owns) [] = []
states_by_numbers numbers (own ∷ owns) (state ∷ states) =
    state_by_numbers numbers own state ∷ states_by_numbers numbers owns states

-- those that have the mark
abbrev pub with_mark : {X : Type 0} → Bool → List Bool → List X → List X
with_mark mark [] xs = []
with_mark mark (own ∷ marks) [] = []
with_mark true (true ∷ marks) (x ∷ xs) = x ∷ with_mark true marks xs
with_mark true (false ∷ marks) (x ∷ xs) = with_mark true marks xs
with_mark false (true ∷ marks) (x ∷ xs) = with_mark false marks xs
with_mark false (false ∷ marks) (x ∷ xs) = x ∷ with_mark false marks xs

-- the states in this order, by their new numbers
abbrev pub in_goto_order : {L : Type 0} → List (State L) → List (State L)
in_goto_order states =
    with_mark true (fronts_of true states)
    (states_by_numbers (goto_numbers (fronts_of true states)) (goto_numbers (fronts_of true states)) states)
    ++ with_mark false (fronts_of true states)
    (states_by_numbers (goto_numbers (fronts_of true states)) (goto_numbers (fronts_of true states)) states)
