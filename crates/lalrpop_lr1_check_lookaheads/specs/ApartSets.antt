-- Reductions that share no token, and shifts of which none reduces: for the test that a state has no conflict.
use Rattle.std.specs.Prelude.{ℕ, ◌≡◌, ◌&&◌, ◌||◌, not, Bool, false, List, [], ◌∷◌, take}
use Rattle.std.specs.List.{list_all}
use Rattle.lalrpop_grammar_symbols.specs.declared.terminal.TerminalString.{TerminalString}
use Rattle.lalrpop_grammar_repr.specs.Maps.{at_terminal}
use Rattle.lalrpop_grammar_repr.specs.declared.terminal_set.TerminalSet.{TerminalSet}
use Rattle.lalrpop_sets.specs.AscendingLists.{has}
use Rattle.lalrpop_sets.specs.Tokens.{has_number}
use Rattle.lalrpop_lr1_core.specs.Conflicts.{ReductionEntry, ShiftEntry}
use Rattle.lalrpop_lr1_check_lookaheads.specs.ListTests.{HoldsAtEach}

-- whether some reduction's set has the number
abbrev pub has_any : List ReductionEntry → ℕ → Bool
has_any [] k = false
has_any (r ∷ rs) k = has r.0 k || has_any rs k

-- the set has none of these numbers
abbrev pub ShareNone : (ℕ → Bool) → List ℕ → Type 0
ShareNone before set = (k : ℕ) → (before k && has set k) ≡ false

-- each reduction's set has no number of those before it
abbrev pub IsApart : List ReductionEntry → ℕ → ReductionEntry → Type 0
IsApart reductions j r = ShareNone (has_any (take j reductions)) r.0

abbrev pub AreReductionsApart : List ReductionEntry → Type 0
AreReductionsApart reductions = HoldsAtEach (IsApart reductions) reductions

-- whether the set lacks the terminal, and each terminal that is shifted
abbrev pub is_free : TerminalSet → List ℕ → TerminalString → Bool
is_free ts set t = not (has_number set (at_terminal t ts.bits))

abbrev pub are_free : TerminalSet → List ℕ → List ShiftEntry → Bool
are_free ts set shifts = list_all (λ e. is_free ts set e.0) shifts
