-- The report of states and of their conflicts, as a text over what is shown of them.
use Rattle.std.specs.Prelude.{ℕ, zero, suc, ◌-◌, max, min, Bool, true, false, List, [], ◌∷◌, ◌++◌}
use Rattle.std.specs.Prelude.{codes, decimal, filter, flat_map, length, map, nat_eq, replicate}
use Rattle.std.specs.Ordering.{nat_cmp}
use Rattle.std.specs.BTreeSet.{insert_key}
use Rattle.std.specs.Fmt.{char_count}
use Rattle.lalrpop_grammar_symbols.specs.Symbols.{Text}
use Rattle.lalrpop_lane_report.specs.ShownStates.{ShownAction, ShownConflictOf, ShownEdge, ShownItem, ShownProduction, ShownReduction, ShownState}

abbrev pub text_line : Text → Text
text_line t = t ++ codes "\n"

-- each behind a blank
abbrev pub behind_blanks : List Text → Text
behind_blanks = flat_map (λ t. codes " " ++ t)

-- filled up with blanks to so many characters
abbrev pub filled_to : ℕ → Text → Text
filled_to width t = t ++ replicate (width - char_count t) 32

-- how many bytes a text has, as far as a number of the machine tells it
abbrev pub printed_length : Text → ℕ
printed_length t = min (length t) 18446744073709551615

abbrev pub widest : List Text → ℕ
widest [] = 0
widest (t ∷ ts) = max (printed_length t) (widest ts)

-- nothing where there are no tokens
abbrev pub lookahead_line : List Text → Text
lookahead_line [] = []
lookahead_line (t ∷ ts) = text_line (codes "        lookahead" ++ behind_blanks (t ∷ ts))

abbrev pub production_line : ShownProduction → Text
production_line p = p.left ++ codes " ->" ++ behind_blanks p.right

-- an item, its nonterminal as wide as the widest of its state
abbrev pub item_lines : ℕ → ShownItem → Text
item_lines width i =
    codes "\n    " ++ filled_to width i.left ++ codes " ->" ++ behind_blanks i.before ++ codes " ." ++ behind_blanks i.behind ++ codes "\n"
    ++ lookahead_line i.lookahead

abbrev pub reduction_lines : ShownReduction → Text
reduction_lines r = codes "\n    reduction " ++ production_line r.production ++ codes "\n" ++ lookahead_line r.lookahead

-- the reductions of a state, behind a blank line; nothing where there are none
abbrev pub reductions_part : List ShownReduction → Text
reductions_part [] = []
reductions_part (r ∷ rs) = codes "\n" ++ flat_map reduction_lines (r ∷ rs)

abbrev pub shift_line : ℕ → ShownEdge → Text
shift_line width e = codes "    " ++ filled_to width e.symbol ++ codes " shift and goto " ++ decimal e.to ++ codes "\n"

abbrev pub goto_line : ℕ → ShownEdge → Text
goto_line width e = codes "    " ++ filled_to width e.symbol ++ codes " goto " ++ decimal e.to ++ codes "\n"

abbrev pub action_name : ShownAction → Text
action_name (ShownAction.shifts e) = codes "shift/reduce conflict"
action_name (ShownAction.reduces q) = codes "reduce/reduce conflict"

-- the other action: a shift, its terminal as wide as the reduction's nonterminal, or a reduction
abbrev pub action_line : ShownProduction → ShownAction → Text
action_line p (ShownAction.shifts e) =
    codes "        shift     " ++ filled_to (max (printed_length e.symbol) (printed_length p.left)) e.symbol
    ++ codes "    shift and goto " ++ decimal e.to ++ codes "\n"
action_line p (ShownAction.reduces q) = codes "        reduction " ++ production_line q ++ codes "\n"

abbrev pub lines_of_conflict : ShownConflictOf → Text
lines_of_conflict c =
    codes "\n    " ++ action_name c.action ++ codes "\n        reduction " ++ production_line c.production ++ codes "\n"
    ++ action_line c.production c.action ++ lookahead_line c.lookahead

abbrev pub edge_width : ShownState → ℕ
edge_width s = max (widest (map (λ e. e.symbol) s.shifts)) (widest (map (λ e. e.symbol) s.gotos))

abbrev pub state_lines : List ShownConflictOf → ShownState → Text
state_lines conflicts s =
    codes "\nState " ++ decimal s.index ++ codes " {\n"
    ++ flat_map (item_lines (widest (map (λ i. i.left) s.items))) s.items
    ++ reductions_part s.reductions
    ++ codes "\n" ++ flat_map (shift_line (edge_width s)) s.shifts
    ++ codes "\n" ++ flat_map (goto_line (edge_width s)) s.gotos
    ++ flat_map lines_of_conflict (filter (λ c. nat_eq c.state s.index) conflicts)
    ++ codes "}\n"

abbrev pub section_lines : Text → Text
section_lines title = codes "\n" ++ title ++ codes "\n" ++ replicate 40 45 ++ codes "\n"

abbrev pub table_lines : List ShownConflictOf → List ShownState → Text
table_lines conflicts states = section_lines (codes "State Table") ++ flat_map (state_lines conflicts) states

abbrev pub head_lines : Text
head_lines = codes "Lalrpop Report File\n" ++ replicate 40 61 ++ codes "\n" ++ section_lines (codes "Summary") ++ codes "\n"

abbrev pub constructed_line : ℕ → Text
constructed_line n = codes "Constructed " ++ decimal n ++ codes " states\n"

-- the numbers with others put in one after the other, each once
abbrev pub numbers_with : List ℕ → List ℕ → List ℕ
numbers_with ns [] = ns
numbers_with ns (m ∷ ms) = numbers_with (insert_key nat_cmp ns m) ms

-- the states of conflicts, ascending, each once
abbrev pub states_of_conflicts : List ℕ → List ℕ
states_of_conflicts = numbers_with []

abbrev pub is_with_shift : ShownAction → Bool
is_with_shift (ShownAction.shifts e) = true
is_with_shift (ShownAction.reduces q) = false

-- nothing for 0
abbrev pub count_line : Text → ℕ → Text
count_line title zero = []
count_line title (suc n) = codes "    " ++ title ++ decimal (suc n) ++ codes "\n"

-- the report of states without conflicts
abbrev pub report_of_states : List ShownState → Text
report_of_states states = head_lines ++ constructed_line (length states) ++ table_lines [] states

-- what stands before so many states, where there are so many conflicts, so many of them with shifts, in these states
abbrev pub summary_of_conflicts : ℕ → ℕ → ℕ → List ℕ → Text
summary_of_conflicts count conflicts shifts states =
    codes "Failure\n" ++ constructed_line count
    ++ codes "Has " ++ decimal conflicts ++ codes " conflicts\n"
    ++ count_line (codes "shift/reduce:  ") shifts ++ count_line (codes "reduce/reduce: ") (conflicts - shifts)
    ++ codes "States with conflicts: " ++ behind_blanks (map decimal states) ++ codes "\n"

-- the report of states with conflicts
abbrev pub report_of_conflicts : List ShownState → List ShownConflictOf → Text
report_of_conflicts states conflicts =
    head_lines
    ++ summary_of_conflicts (length states) (length conflicts) (length (filter (λ c. is_with_shift c.action) conflicts))
    (states_of_conflicts (map (λ c. c.state) conflicts))
    ++ table_lines conflicts states
