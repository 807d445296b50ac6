-- States as their readers see them, made from states by numbers: which items, edges and reductions they have.
use Rattle.std.specs.Prelude.{◌≡◌, ◌↔◌, ◌+◌, ◌<◌, ℕ, eqb, cond, List, [], ◌∷◌, drop, length}
use Rattle.std.specs.Prelude.{Some, slice_get, Contains}
use Rattle.std.specs.Borrow.{Bor}
use Rattle.std.specs.List.{AllZip}
use Rattle.std.specs.Str.{bytes_eq}
use Rattle.lalrpop_grammar_symbols.specs.declared.names.NonterminalString.{NonterminalString}
use Rattle.lalrpop_grammar_symbols.specs.declared.terminal.TerminalString.{TerminalString}
use Rattle.lalrpop_grammar_repr.specs.declared.production.Production.{Production}
use Rattle.lalrpop_lr1_core.specs.Views.{production_view}
use Rattle.lalrpop_lr1_core.specs.declared.item.Item.{Item}
use Rattle.lalrpop_lr1_core.specs.declared.state.State.{State}
use Rattle.lalrpop_lr1_core.specs.declared.state_index.StateIndex.{StateIndex}
use Rattle.lalrpop_sets.specs.AscendingLists.{Ascends}
use Rattle.lalrpop_lr1_first.specs.ClosureTables.{AreItems}
use Rattle.lalrpop_lr1_first.specs.FirstNumbers.{name_count, symbol_count}
use Rattle.lalrpop_lr1_first.specs.NumberedGrammars.{HasItemAt, table_names}
use Rattle.lalrpop_lr1_first.specs.Tables.{end_until}
use Rattle.lalrpop_lr1_first.specs.declared.numbered.Numbered.{Numbered}
use Rattle.lalrpop_lr1_first.specs.declared.place.NumberedRule.{NumberedRule}
use Rattle.lalrpop_lr1_first.specs.declared.place.Place.{Place}
use Rattle.lalrpop_lr1_first.specs.declared.place.Place.TheVariants as places
use Rattle.lalrpop_lr1_build.specs.Kernels.{places_of}
use Rattle.lalrpop_lr1_build.specs.declared.states.numbered_states.NumberedState.{NumberedState}

-- the number of the production that ends at a place, or else another
abbrev pub ending_number : Place → ℕ → ℕ
ending_number (places.End own) r = own
ending_number (places.Symbol s) r = r

-- the numbers are those of the productions that end behind the places
abbrev pub TellsRules : List Place → List ℕ → Type 0
TellsRules all numbers = (i r : ℕ) → end_until (drop i all) ≡ Some r → slice_get numbers i ≡ Some r

-- the item stands at the place, and has the lookahead
abbrev pub IsPublicItem : {L : Type 0} → Numbered → ℕ × L → Item L → Type 0
IsPublicItem table item public =
    HasItemAt table item.0 (production_view public.production.now) public.index × (public.lookahead ≡ item.1)

-- the finished items, as reductions
abbrev pub finished_entries : {L : Type 0} → List (Item L) → List (L × Bor Production)
finished_entries [] = []
finished_entries (item ∷ items) = cond (eqb item.index (length item.production.now.symbols))
    ((item.lookahead, item.production) ∷ finished_entries items) (finished_entries items)

-- the names lead where the edges do whose numbers are theirs
abbrev pub AreGotos : List NonterminalString → List (ℕ × ℕ) → List (NonterminalString × StateIndex) → Type 0
AreGotos names edges gotos = (n : NonterminalString) (m : StateIndex) →
    Contains gotos (n, m) ↔ ((s : ℕ) × Contains edges (s, m.0) × (slice_get names s ≡ Some n))

-- the terminals lead where the edges do whose numbers are theirs, behind those of the names
abbrev pub AreShifts : ℕ → List TerminalString → List (ℕ × ℕ) → List (TerminalString × StateIndex) → Type 0
AreShifts names all edges shifts = (t : TerminalString) (m : StateIndex) →
    Contains shifts (t, m) ↔ ((j : ℕ) × Contains edges (names + j, m.0) × (slice_get all j ≡ Some t))

-- its items are the table's, and its edges are by the table's symbols, in order
pub record IsWellNumbered {L : Type 0} (table : Numbered) (state : NumberedState L) : Type 0 where
  pub placed : AreItems table state.items
  pub ascending : Ascends (places_of state.edges)
  pub known : (s m : ℕ) → Contains state.edges (s, m) → s < symbol_count table

-- the state is made from the state by numbers
pub record IsPublicState {L : Type 0} (table : Numbered) (n : ℕ) (state : NumberedState L) (public : State L) : Type 0 where
  pub index : public.index.0 ≡ n
  pub vec : AllZip (IsPublicItem table) state.items public.items.vec
  pub shifts : AreShifts (name_count table) table.terminals.now.all state.edges public.shifts
  pub gotos : AreGotos (table_names table) state.edges public.gotos
  pub reductions : public.reductions ≡ finished_entries public.items.vec

-- the states are made from the states by numbers, in order
pub record ArePublicStates {L : Type 0} (table : Numbered) (states : List (NumberedState L)) (public : List (State L)) : Type 0 where
  pub count : length public ≡ length states
  pub at : (n : ℕ) (state : NumberedState L) (seen : State L) → slice_get states n ≡ Some state → slice_get public n
      ≡ Some seen →
      IsPublicState table n state seen

-- the places of the start's items with the dot in front, each with the lookahead
abbrev pub start_items : {L : Type 0} → NonterminalString → L → List Production → List NumberedRule → List (ℕ × L)
start_items start l [] rules = []
start_items start l (p ∷ ps) [] = []
start_items start l (p ∷ ps) (r ∷ rules) =
    cond (bytes_eq p.nonterminal.0 start.0) ((r.start, l) ∷ start_items start l ps rules) (start_items start l ps rules)
