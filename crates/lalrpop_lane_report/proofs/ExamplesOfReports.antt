-- Computed examples of reports: two states of `S = "a"`, conflicts and a summary, beside answers that are refused.
use Rattle.std.proofs.Common.{◌≡◌, [], ◌∷◌, refl}
use Rattle.std.specs.Prelude.{codes}
use Rattle.std.specs.Fmt.{char_count, digits}
use Rattle.lalrpop_lane_report.specs.Reports.{filled_to, lines_of_conflict, lookahead_line, reductions_part, state_lines, states_of_conflicts}
use Rattle.lalrpop_lane_report.specs.Reports.{summary_of_conflicts}
use Rattle.lalrpop_lane_report.specs.ShownStates.{ShownAction, ShownConflictOf, ShownProduction, ShownState}

-- the state in which nothing was read
abbrev first_state : ShownState
first_state = record {
  index = 0;
  items = record { left = codes "S"; before = []; behind = codes "\"a\"" ∷ []; lookahead = codes "Eof" ∷ [] }
      ∷ record { left = codes "__S"; before = []; behind = codes "S" ∷ []; lookahead = codes "Eof" ∷ [] } ∷ [];
  reductions = [];
  shifts = record { symbol = codes "\"a\""; to = 2 } ∷ [];
  gotos = record { symbol = codes "S"; to = 1 } ∷ [];
}

first_state_is : state_lines [] first_state
    ≡ codes "\nState 0 {\n\n    S   -> . \"a\"\n        lookahead Eof\n\n    __S -> . S\n        lookahead Eof\n\n    \"a\" shift and goto 2\n\n    S   goto 1\n}\n"
unfolding char_count digits
first_state_is = refl

abbrev whole : ShownProduction
whole = record { left = codes "__S"; right = codes "S" ∷ [] }

-- the state in which the start was read
abbrev second_state : ShownState
second_state = record {
  index = 1;
  items = record { left = codes "__S"; before = codes "S" ∷ []; behind = []; lookahead = codes "Eof" ∷ [] } ∷ [];
  reductions = record { production = whole; lookahead = codes "Eof" ∷ [] } ∷ [];
  shifts = [];
  gotos = [];
}

second_state_is : state_lines [] second_state
    ≡ codes "\nState 1 {\n\n    __S -> S .\n        lookahead Eof\n\n\n    reduction __S -> S\n        lookahead Eof\n\n\n}\n"
unfolding char_count digits
second_state_is = refl

-- conflicts of state 3, of a longer nonterminal and of a longer terminal
abbrev with_shift : ShownConflictOf
with_shift = record {
  state = 3;
  production = record { left = codes "Name"; right = codes "\"i\"" ∷ codes "Name" ∷ [] };
  action = ShownAction.shifts (record { symbol = codes "\"e\""; to = 5 });
  lookahead = codes "\"e\"" ∷ [];
}

with_shift_is : lines_of_conflict with_shift
    ≡ codes "\n    shift/reduce conflict\n        reduction Name -> \"i\" Name\n        shift     \"e\"     shift and goto 5\n        lookahead \"e\"\n"
unfolding char_count digits
with_shift_is = refl

abbrev with_reduction : ShownConflictOf
with_reduction = record {
  state = 3;
  production = record { left = codes "A"; right = codes "\"x\"" ∷ [] };
  action = ShownAction.reduces (record { left = codes "B"; right = [] });
  lookahead = codes "\"e\"" ∷ codes "Eof" ∷ [];
}

with_reduction_is : lines_of_conflict with_reduction
    ≡ codes "\n    reduce/reduce conflict\n        reduction A -> \"x\"\n        reduction B ->\n        lookahead \"e\" Eof\n"
unfolding char_count digits
with_reduction_is = refl

-- states of conflicts ascend, each once
states_are : states_of_conflicts (5 ∷ 3 ∷ 5 ∷ 0 ∷ []) ≡ 0 ∷ 3 ∷ 5 ∷ []
states_are = refl

-- no line for a count of none, and two blanks before the first state
summary_is : summary_of_conflicts 9 2 2 (0 ∷ 3 ∷ [])
    ≡ codes "Failure\nConstructed 9 states\nHas 2 conflicts\n    shift/reduce:  2\nStates with conflicts:  0 3\n"
unfolding digits
summary_is = refl

-- no tokens, no line; no reductions, no blank line; a text that is too long isn't cut
no_line : lookahead_line [] ≡ []
no_line = refl

no_reductions : reductions_part [] ≡ []
no_reductions = refl

long_name : filled_to 2 (codes "__S") ≡ codes "__S"
unfolding char_count
long_name = refl

-- characters are counted, and not bytes
two_bytes : filled_to 2 (195 ∷ 169 ∷ []) ≡ 195 ∷ 169 ∷ 32 ∷ []
unfolding char_count
two_bytes = refl

-- wrong answers: a line without tokens, states in the order of the conflicts, a name that is filled by its bytes
line_without_tokens_refused : lookahead_line [] ≡ codes "        lookahead\n" → ⊥
line_without_tokens_refused e = cc

states_as_told_refused : states_of_conflicts (5 ∷ 3 ∷ []) ≡ 5 ∷ 3 ∷ [] → ⊥
states_as_told_refused e = cc

filled_by_bytes_refused : filled_to 2 (195 ∷ 169 ∷ []) ≡ 195 ∷ 169 ∷ [] → ⊥
unfolding char_count
filled_by_bytes_refused e = cc
