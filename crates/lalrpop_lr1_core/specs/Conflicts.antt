-- Which conflicts a state has, in order: where nothing is said of what follows, and where sets of tokens say it.
use Rattle.std.specs.Prelude.{ℕ, suc, max, ◌&&◌, List, [], ◌∷◌, ◌++◌, map, filter, flat_map, Option, if◌then◌else◌}
use Rattle.std.specs.List.{range_with_len}
use Rattle.std.specs.Borrow.{Bor}
use Rattle.lalrpop_grammar_symbols.specs.declared.terminal.TerminalString.{TerminalString}
use Rattle.lalrpop_grammar_repr.specs.Maps.{at_terminal}
use Rattle.lalrpop_grammar_repr.specs.declared.production.Production.{Production}
use Rattle.lalrpop_grammar_repr.specs.declared.terminal_set.TerminalSet.{TerminalSet}
use Rattle.lalrpop_sets.specs.AscendingLists.{has}
use Rattle.lalrpop_sets.specs.Tokens.{has_number, number_alone}
use Rattle.lalrpop_sets.specs.declared.nil.Nil.{Nil}
use Rattle.lalrpop_lr1_core.specs.declared.conflict.Action.TheVariants as actions
use Rattle.lalrpop_lr1_core.specs.declared.conflict.Conflict.{Conflict}
use Rattle.lalrpop_lr1_core.specs.declared.state.State.{State}
use Rattle.lalrpop_lr1_core.specs.declared.state_index.StateIndex.{StateIndex}

-- each of the list with each behind it
abbrev pub later_pairs : {X : Type 0} → List X → List (X × X)
later_pairs [] = []
later_pairs (x ∷ xs) = map (λ y. (x, y)) xs ++ later_pairs xs

-- one more than the greatest of the numbers
abbrev pub number_past : List ℕ → ℕ
number_past [] = 0
number_past (k ∷ ks) = max (suc k) (number_past ks)

-- the numbers that both have, ascending
unfoldable pub in_both : List ℕ → List ℕ → List ℕ
in_both a b = filter (λ k. has a k && has b k) (range_with_len 0 (number_past a))

-- a shift, and a reduction of a state with lookaheads
abbrev pub ShiftEntry : Type 0
ShiftEntry = TerminalString × StateIndex

abbrev pub ReductionEntry : Type 0
ReductionEntry = List ℕ × Bor Production

-- the conflict of the shift, whose terminal has this number, with a reduction by the production
abbrev pub shift_record : StateIndex → ShiftEntry → Option ℕ → Bor Production → Conflict (List ℕ)
shift_record state shift n p =
    record { state = state; lookahead = number_alone n; production = p; action = actions.Shift shift.0 shift.1 }

-- that with this reduction, where it is before the terminal
abbrev pub shift_conflict : StateIndex → ShiftEntry → Option ℕ → ReductionEntry → List (Conflict (List ℕ))
shift_conflict state shift n r = if has_number r.0 n then shift_record state shift n r.1 ∷ [] else []

-- those of the shift with the reductions
abbrev pub shift_conflicts : TerminalSet → StateIndex → List ReductionEntry → ShiftEntry → List (Conflict (List ℕ))
shift_conflicts ts state reductions shift =
    flat_map (shift_conflict state shift (at_terminal shift.0 ts.bits)) reductions

-- the conflict of two reductions that share these tokens
abbrev pub sharing_conflict : StateIndex → ReductionEntry × ReductionEntry → List ℕ → List (Conflict (List ℕ))
sharing_conflict state pair [] = []
sharing_conflict state pair (k ∷ ks) =
    record { state = state; lookahead = k ∷ ks; production = pair.0.1; action = actions.Reduce pair.1.1 } ∷ []

-- that of two reductions, where they share a token
abbrev pub pair_conflict : StateIndex → ReductionEntry × ReductionEntry → List (Conflict (List ℕ))
pair_conflict state pair = sharing_conflict state pair (in_both pair.0.0 pair.1.0)

-- those of each reduction with each behind it
abbrev pub pairs_conflicts : StateIndex → List ReductionEntry → List (Conflict (List ℕ))
pairs_conflicts state reductions = flat_map (pair_conflict state) (later_pairs reductions)

-- the conflicts of a state with lookaheads
abbrev pub token_conflicts : TerminalSet → State (List ℕ) → List (Conflict (List ℕ))
token_conflicts ts state =
    flat_map (shift_conflicts ts state.index state.reductions) state.shifts ++ pairs_conflicts state.index state.reductions

-- without lookaheads: the conflict of the shift with a reduction
abbrev pub shift_with_any : StateIndex → ShiftEntry → Nil × Bor Production → Conflict Nil
shift_with_any state shift r =
    record { state = state; lookahead = r.0; production = r.1; action = actions.Shift shift.0 shift.1 }

abbrev pub shifts_with_any : StateIndex → List (Nil × Bor Production) → ShiftEntry → List (Conflict Nil)
shifts_with_any state reductions shift = map (shift_with_any state shift) reductions

-- that of a later reduction with the first
abbrev pub later_with_first : StateIndex → Bor Production → Nil × Bor Production → Conflict Nil
later_with_first state p r = record { state = state; lookahead = r.0; production = r.1; action = actions.Reduce p }

abbrev pub first_with_later : StateIndex → List (Nil × Bor Production) → List (Conflict Nil)
first_with_later state [] = []
first_with_later state (r ∷ rs) = map (later_with_first state r.1) rs

-- the conflicts of a state without lookaheads: each shift with each reduction, each later reduction with the first
abbrev pub nil_conflicts : State Nil → List (Conflict Nil)
nil_conflicts state =
    flat_map (shifts_with_any state.index state.reductions) state.shifts ++ first_with_later state.index state.reductions
