-- What is shown of a list, by what it is shown of.
use Rattle.std.proofs.Common.{◌≡◌, ◌++◌, ◌∙◌, ◌∷◌, [], ◌+◌, ◌<◌, ◌≤◌, add-one, ap, append-nil, drop, drop-cons, get_or, refl, subst, sym, List, map, length, Bool, true, false, ℕ}
use Rattle.std.proofs.Math.ListN.{drop_of_length-le}
use Rattle.std.proofs.lemmas.List.{length-map}
use Rattle.std.specs.Prelude.{codes, cond, filter, flat_map, max}
use Rattle.std.specs.Borrow.{Bor}
use Rattle.lalrpop_grammar_symbols.specs.Symbols.{Text}
use Rattle.lalrpop_grammar_symbols.specs.Texts.{terminal_text}
use Rattle.lalrpop_grammar_symbols.specs.Views.{terminal_view}
use Rattle.lalrpop_grammar_symbols.specs.declared.names.NonterminalString.{NonterminalString}
use Rattle.lalrpop_grammar_symbols.specs.declared.terminal.TerminalString.{TerminalString}
use Rattle.lalrpop_grammar_repr.specs.declared.production.Production.{Production}
use Rattle.lalrpop_lr1_core.specs.declared.conflict.Conflict.{Conflict}
use Rattle.lalrpop_lr1_core.specs.declared.item.Item.{Item}
use Rattle.lalrpop_lr1_core.specs.declared.state_index.StateIndex.{StateIndex}
use Rattle.lalrpop_lane_report.specs.Reports.{goto_line, is_with_shift, item_lines, lines_of_conflict, reduction_lines, reductions_part}
use Rattle.lalrpop_lane_report.specs.Reports.{shift_line, states_of_conflicts, summary_of_conflicts, widest}
use Rattle.lalrpop_lane_report.specs.ShownStates.{ShownConflictOf, shown_action, shown_conflict_of, shown_goto, shown_item, shown_reduction, shown_shift}

pub map_twice : {A B C : Type 0} (g : B → C) (f : A → B) (xs : List A) → map g (map f xs) ≡ map (λ x. g (f x)) xs
map_twice g f [] = refl
map_twice g f (x ∷ xs) = ap (λ l. g (f x) ∷ l) (map_twice g f xs)

pub flat_map_shown : {A B C : Type 0} (g : B → List C) (f : A → B) (xs : List A) → flat_map g (map f xs) ≡ flat_map (λ x. g (f x)) xs
flat_map_shown g f [] = refl
flat_map_shown g f (x ∷ xs) = ap (λ l. g (f x) ++ l) (flat_map_shown g f xs)

pub filter_shown : {A B : Type 0} (p : B → Bool) (f : A → B) (xs : List A) → filter p (map f xs) ≡ map f (filter (λ x. p (f x)) xs)
filter_shown p f [] = refl
filter_shown p f (x ∷ xs) = go (p (f x)) (filter_shown p f xs)
  where
    go : (b : Bool) → filter p (map f xs) ≡ map f (filter (λ y. p (f y)) xs)
        → cond b (f x ∷ filter p (map f xs)) (filter p (map f xs)) ≡ map f (cond b (x ∷ filter (λ y. p (f y)) xs) (filter (λ y. p (f y)) xs))
    go true e = ap (λ l. f x ∷ l) e
    go false e = e

-- the part of the reductions, where there are some
pub reductions_shown : {L : Type 0} (tokens : L → List Text) (rs : List (L × Bor Production)) → (rs ≡ [] → ⊥)
    → reductions_part (map (shown_reduction tokens) rs) ≡ codes "\n" ++ flat_map (λ r. reduction_lines (shown_reduction tokens r)) rs
reductions_shown tokens [] some = absurd (some refl)
reductions_shown tokens (r ∷ rs) some = ap (λ l. codes "\n" ++ l) (flat_map_shown reduction_lines (shown_reduction tokens) (r ∷ rs))

-- the lines of those that are chosen, one after the other
pub lines_of_chosen : {A : Type 0} (p : ShownConflictOf → Bool) (f : A → ShownConflictOf) (xs : List A)
    → flat_map lines_of_conflict (filter p (map f xs)) ≡ flat_map (λ x. cond (p (f x)) (lines_of_conflict (f x)) []) xs
lines_of_chosen p f [] = refl
lines_of_chosen p f (x ∷ xs) = go (p (f x)) (lines_of_chosen p f xs)
  where
    go : (b : Bool) → flat_map lines_of_conflict (filter p (map f xs)) ≡ flat_map (λ y. cond (p (f y)) (lines_of_conflict (f y)) []) xs
        → flat_map lines_of_conflict (cond b (f x ∷ filter p (map f xs)) (filter p (map f xs)))
        ≡ cond b (lines_of_conflict (f x)) [] ++ flat_map (λ y. cond (p (f y)) (lines_of_conflict (f y)) []) xs
    go true e = ap (λ l. lines_of_conflict (f x) ++ l) e
    go false e = e

-- what is left at a place is what stands there, and what is left behind it
pub drop_next : {A : Type 0} (xs : List A) (i : ℕ) (x : A) → i < length xs → x ≡ get_or xs i x → drop i xs ≡ x ∷ drop (i + 1) xs
drop_next xs i x s e = subst (λ y. drop i xs ≡ y ∷ drop (i + 1) xs) (sym e) (rw (add-one, drop-cons xs i x s))

-- the lines of items, as wide as the widest of what is shown of them
pub items_shown : {L : Type 0} (tokens : L → List Text) (is : List (Item L))
    → flat_map (λ i. item_lines (widest (map (λ j. j.production.now.nonterminal.0) is)) (shown_item tokens i)) is
    ≡ flat_map (item_lines (widest (map (λ i. i.left) (map (shown_item tokens) is)))) (map (shown_item tokens) is)
items_shown tokens is =
    ap (λ w. flat_map (λ i. item_lines w (shown_item tokens i)) is) (ap widest (sym (map_twice (λ i. i.left) (shown_item tokens) is)))
    ∙ sym (flat_map_shown (item_lines (widest (map (λ i. i.left) (map (shown_item tokens) is)))) (shown_item tokens) is)

module _ (shifts : List (TerminalString × StateIndex)) (gotos : List (NonterminalString × StateIndex)) where
  abbrev width : ℕ
  width = max (widest (map (λ e. terminal_text (terminal_view e.0)) shifts)) (widest (map (λ e. e.0.0) gotos))

  abbrev shown_width : ℕ
  shown_width = max (widest (map (λ e. e.symbol) (map shown_shift shifts))) (widest (map (λ e. e.symbol) (map shown_goto gotos)))

  same_width : width ≡ shown_width
  same_width =
      ap (λ w. max w (widest (map (λ e. e.0.0) gotos))) (ap widest (sym (map_twice (λ e. e.symbol) shown_shift shifts)))
      ∙ ap (λ w. max (widest (map (λ e. e.symbol) (map shown_shift shifts))) w) (ap widest (sym (map_twice (λ e. e.symbol) shown_goto gotos)))

  -- the lines of the edges, as wide as the widest of what is shown of them
  pub shifts_shown : flat_map (λ e. shift_line width (shown_shift e)) shifts ≡ flat_map (shift_line shown_width) (map shown_shift shifts)
  shifts_shown =
      ap (λ w. flat_map (λ e. shift_line w (shown_shift e)) shifts) same_width ∙ sym (flat_map_shown (shift_line shown_width) shown_shift shifts)

  pub gotos_shown : flat_map (λ e. goto_line width (shown_goto e)) gotos ≡ flat_map (goto_line shown_width) (map shown_goto gotos)
  gotos_shown =
      ap (λ w. flat_map (λ e. goto_line w (shown_goto e)) gotos) same_width ∙ sym (flat_map_shown (goto_line shown_width) shown_goto gotos)

-- a loop has appended all pieces
pub at_end : {A : Type 0} (s t : Text) (f : A → Text) (xs : List A) (i : ℕ) → length xs ≤ i → s ++ flat_map f (drop i xs) ≡ t → s ≡ t
at_end s t f xs i past e = sym (append-nil s) ∙ ap (λ l. s ++ flat_map f l) (sym (drop_of_length-le xs past)) ∙ e

-- the summary counts what is shown
pub summary_shown : {L : Type 0} (tokens : L → List Text) (count : ℕ) (cs : List (Conflict L))
    → summary_of_conflicts count (length cs) (length (filter (λ c. is_with_shift (shown_action c.action)) cs))
    (states_of_conflicts (map (λ c. c.state.0) cs))
    ≡ summary_of_conflicts count (length (map (shown_conflict_of tokens) cs))
    (length (filter (λ c. is_with_shift c.action) (map (shown_conflict_of tokens) cs)))
    (states_of_conflicts (map (λ c. c.state) (map (shown_conflict_of tokens) cs)))
summary_shown tokens count cs =
    let shown = shown_conflict_of tokens in
    let shifts = length (filter (λ c. is_with_shift (shown_action c.action)) cs) in
    let states = states_of_conflicts (map (λ c. c.state.0) cs) in
    ap (λ n. summary_of_conflicts count n shifts states) (sym (length-map cs shown))
    ∙ ap (λ n. summary_of_conflicts count (length (map shown cs)) n states) (sym (ap length (filter_shown (λ c. is_with_shift c.action) shown cs)
    ∙ length-map (filter (λ c. is_with_shift (shown_action c.action)) cs) shown))
    ∙ ap (λ ns. summary_of_conflicts count (length (map shown cs)) (length (filter (λ c. is_with_shift c.action) (map shown cs))) (states_of_conflicts ns))
    (sym (map_twice (λ c. c.state) shown cs))
