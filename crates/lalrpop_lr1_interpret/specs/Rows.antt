-- What states do, entry by entry and in order, and how the entries stand in a table's lists: for making a table of states.
use Rattle.std.specs.Prelude.{ℕ, ◌+◌, ◌<◌, ◌≡◌, List, [], ◌∷◌, ◌++◌, length, map, filter, flat_map, take}
use Rattle.std.specs.Prelude.{slice_get, Some}
use Rattle.std.specs.Borrow.{Bor}
use Rattle.lalrpop_grammar_symbols.specs.declared.names.NonterminalString.{NonterminalString}
use Rattle.lalrpop_grammar_symbols.specs.declared.terminal.TerminalString.{TerminalString}
use Rattle.lalrpop_grammar_repr.specs.declared.production.Production.{Production}
use Rattle.lalrpop_grammar_repr.specs.declared.terminal_set.TerminalSet.{TerminalSet}
use Rattle.lalrpop_sets.specs.AscendingLists.{has}
use Rattle.lalrpop_sets.specs.Tokens.{eof_number}
use Rattle.lalrpop_sets.specs.TokensLeft.{tokens_of}
use Rattle.lalrpop_sets.specs.declared.token.Token.{Token}
use Rattle.lalrpop_sets.specs.declared.token.Token.TheVariants as tokens
use Rattle.lalrpop_lr1_core.specs.declared.state.State.{State}
use Rattle.lalrpop_lr1_core.specs.declared.state_index.StateIndex.{StateIndex}
use Rattle.lalrpop_lr1_interpret.specs.Tables.{IsNumberedProduction}
use Rattle.lalrpop_lr1_interpret.specs.declared.parse.entries.Act.{Act}
use Rattle.lalrpop_lr1_interpret.specs.declared.parse.entries.Act.TheVariants as acts
use Rattle.lalrpop_lr1_interpret.specs.declared.parse.entries.Entries.{Entries}
use Rattle.lalrpop_lr1_interpret.specs.declared.parse.entries.GotoEntry.{GotoEntry}
use Rattle.lalrpop_lr1_interpret.specs.declared.parse.entries.TerminalEntry.{TerminalEntry}
use Rattle.lalrpop_lr1_interpret.specs.declared.parse.table_row.NumberedProduction.{NumberedProduction}
use Rattle.lalrpop_lr1_interpret.specs.declared.parse.table_row.PlaceRange.{PlaceRange}
use Rattle.lalrpop_lr1_interpret.specs.declared.parse.table_row.TableAction.{TableAction}
use Rattle.lalrpop_lr1_interpret.specs.declared.parse.table_row.TableAction.TheVariants as actions
use Rattle.lalrpop_lr1_interpret.specs.declared.parse.table_row.TableRow.{TableRow}

-- an entry of a state, and those of a list
abbrev pub entry_view : TerminalEntry → TerminalString × Act
entry_view e = (e.terminal.now, e.act)

abbrev pub goto_entry_view : GotoEntry → NonterminalString × ℕ
goto_entry_view e = (e.nonterminal.now, e.target)

-- a shift
abbrev pub shift_entry : TerminalString × StateIndex → TerminalString × Act
shift_entry e = (e.0, acts.Shift e.1.0)

-- what is done before a token, where that is a terminal
abbrev pub token_entry : Act → Token → List (TerminalString × Act)
token_entry a tokens.Eof = []
token_entry a tokens.Error = []
token_entry a (tokens.Terminal t) = (t, a) ∷ []

-- a reduction before each terminal of its set
abbrev pub reduction_entries : TerminalSet → List ℕ × Bor Production → List (TerminalString × Act)
reduction_entries ts r = flat_map (token_entry (acts.Reduce r.1)) (tokens_of ts r.0)

-- what a state does before terminals
abbrev pub terminal_entries : TerminalSet → State (List ℕ) → List (TerminalString × Act)
terminal_entries ts state = map shift_entry state.shifts ++ flat_map (reduction_entries ts) state.reductions

-- by what it reduces before the end
abbrev pub end_productions : TerminalSet → State (List ℕ) → List (Bor Production)
end_productions ts state = map (λ r. r.1) (filter (λ r. has r.0 (eof_number ts)) state.reductions)

-- where its nonterminals lead
abbrev pub goto_entry : NonterminalString × StateIndex → NonterminalString × ℕ
goto_entry e = (e.0, e.1.0)

abbrev pub goto_entries : State (List ℕ) → List (NonterminalString × ℕ)
goto_entries state = map goto_entry state.gotos

-- which part of all that comes of a list comes of the element at a place
abbrev pub part_at : {X Y : Type 0} → (X → List Y) → List X → ℕ → PlaceRange
part_at f xs n = record { first = length (flat_map f (take n xs)); past = length (flat_map f (take (n + 1) xs)) }

-- the row of a state, from how many entries stood before it and how many stand behind it
abbrev pub row_between : Entries → Entries → TableRow
row_between old new = record {
  actions = record { first = length old.terminals.items; past = length new.terminals.items };
  ends = record { first = length old.ends.items; past = length new.ends.items };
  gotos = record { first = length old.gotos.items; past = length new.gotos.items };
}

-- the row of the state at a place
abbrev pub row_at : TerminalSet → List (State (List ℕ)) → ℕ → TableRow
row_at ts states n = record {
  actions = part_at (terminal_entries ts) states n;
  ends = part_at (end_productions ts) states n;
  gotos = part_at goto_entries states n;
}

-- the rows of the first states
abbrev pub AreRowsOf : TerminalSet → List (State (List ℕ)) → List TableRow → Type 0
AreRowsOf ts states rows = (n : ℕ) → n < length rows → slice_get rows n ≡ Some (row_at ts states n)

-- an action by numbers is one by names
abbrev pub IsActionOf : List NonterminalString → Act → TableAction → Type 0
IsActionOf names (acts.Shift m) (actions.Shift k) = k ≡ m
IsActionOf names (acts.Shift m) (actions.Reduce r) = ⊥
IsActionOf names (acts.Reduce p) (actions.Shift k) = ⊥
IsActionOf names (acts.Reduce p) (actions.Reduce r) = (r.production ≡ p) × IsNumberedProduction names r

-- the numbers stand for the names, place by place
abbrev pub AreNumbersOf : {X : Type 0} → List X → List X → List ℕ → Type 0
AreNumbersOf names [] [] = Unit {0}
AreNumbersOf names [] (k ∷ ks) = ⊥
AreNumbersOf names (x ∷ xs) [] = ⊥
AreNumbersOf names (x ∷ xs) (k ∷ ks) = (slice_get names k ≡ Some x) × AreNumbersOf names xs ks

-- actions by numbers are those by names, place by place
abbrev pub AreActionsOf : List NonterminalString → List Act → List TableAction → Type 0
AreActionsOf names [] [] = Unit {0}
AreActionsOf names [] (b ∷ bs) = ⊥
AreActionsOf names (a ∷ as_) [] = ⊥
AreActionsOf names (a ∷ as_) (b ∷ bs) = IsActionOf names a b × AreActionsOf names as_ bs

-- productions with numbers are these productions, place by place
abbrev pub AreNumberedProductions : List NonterminalString → List (Bor Production) → List NumberedProduction → Type 0
AreNumberedProductions names [] [] = Unit {0}
AreNumberedProductions names [] (r ∷ rs) = ⊥
AreNumberedProductions names (p ∷ ps) [] = ⊥
AreNumberedProductions names (p ∷ ps) (r ∷ rs) =
    (r.production ≡ p) × IsNumberedProduction names r × AreNumberedProductions names ps rs
