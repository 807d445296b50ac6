-- What closures of a grammar's items need: its table, the first set at each place, and the edges between nonterminals.
use Rattle.std.specs.Prelude.{◌≡◌, ◌↔◌, ◌⊎◌, ◌+◌, ◌≤◌, ℕ, Bool, true, length, List, [], ◌∷◌, ◌++◌}
use Rattle.std.specs.Prelude.{Option, Some, None, if◌then◌else◌, nat_lt, option_map, filter_map, flat_map, slice_index_or}
use Rattle.std.specs.List.{All}
use Rattle.lalrpop_grammar_repr.specs.declared.grammar.Grammar.{Grammar}
use Rattle.lalrpop_lr1_theory.specs.Productions as theory
use Rattle.lalrpop_lr1_theory.specs.Automata.{Marked}
use Rattle.lalrpop_lr1_core.specs.Views.{next_of_number}
use Rattle.lalrpop_sets.specs.AscendingLists.{has}
use Rattle.lalrpop_lr1_first.specs.FirstNumbers.{AreSymbolFirsts, ArePlaceFirsts, name_count, table_end}
use Rattle.lalrpop_lr1_first.specs.Flows.{MarksAreWithin, all_marks}
use Rattle.lalrpop_lr1_first.specs.ItemTables.{AreSeeded, HasMark, HasPlace, ListsItem, ListsNext, SeedBrings}
use Rattle.lalrpop_lr1_first.specs.Listings.{HoldSame}
use Rattle.lalrpop_lr1_core.specs.TheoryGrammars.{productions_of_grammar}
use Rattle.lalrpop_lr1_first.specs.NumberedGrammars.{HasItemAt, IsSeenIn, IsNumberTable, table_productions}
use Rattle.lalrpop_lr1_first.specs.Numbers.{set_of_number}
use Rattle.lalrpop_lr1_first.specs.Tables.{rest_of}
use Rattle.lalrpop_lr1_first.specs.declared.closure.Closures.{Closures}
use Rattle.lalrpop_lr1_first.specs.declared.flowing.Edge.{Edge}
use Rattle.lalrpop_lr1_first.specs.declared.numbered.Numbered.{Numbered}
use Rattle.lalrpop_lr1_first.specs.declared.place.NumberedRule.{NumberedRule}

-- the number of the nonterminal with which symbols begin
abbrev pub name_first : ℕ → List ℕ → Option ℕ
name_first names [] = None
name_first names (s ∷ more) = if nat_lt s names then Some s else None

abbrev pub name_behind : Numbered → ℕ → Option ℕ
name_behind table place = name_first (name_count table) (rest_of table.places.items place)

-- behind the dot of none of the items a nonterminal stands
abbrev pub HasEmptyClosure : {L : Type 0} → Numbered → List (ℕ × L) → Type 0
HasEmptyClosure table seed = All (λ item. name_behind table item.0 ≡ None) seed

-- the edge of a rule, where its right side begins with a nonterminal
abbrev pub rule_edge_to : NumberedRule → ℕ → Edge
rule_edge_to rule s = record { from = rule.left; to = s; rest = rule.start + 1 }

abbrev pub edge_of_rule : Numbered → NumberedRule → Option Edge
edge_of_rule table rule = option_map (rule_edge_to rule) (name_behind table rule.start)

-- what the first sets of places stand on
pub record HavePlaceFirsts (table : Numbered) (rests : List (List ℕ)) : Type 0 where
  pub sets : List (List ℕ)
  pub symbol_firsts : AreSymbolFirsts table sets
  pub place_firsts : ArePlaceFirsts table sets rests

pub record IsClosureTable (closures : Closures) : Type 0 where
  pub numbers : IsNumberTable closures.numbered
  pub firsts_are : HavePlaceFirsts closures.numbered closures.firsts.items
  pub edges_are : closures.edges.items ≡ filter_map (edge_of_rule closures.numbered) closures.numbered.rules.items

-- the grammar's own
pub record IsClosureTableOf (g : Grammar) (closures : Closures) : Type 0 where
  pub closure : IsClosureTable closures
  pub terminals : closures.numbered.terminals.now ≡ g.terminals
  pub productions : HoldSame (table_productions closures.numbered) (productions_of_grammar g)

-- each place is an item's
abbrev pub AreItems : {L : Type 0} → Numbered → List (ℕ × L) → Type 0
AreItems {L} table items = (i : ℕ) → HasPlace items i → (p : theory.Production) × (d : ℕ) × HasItemAt table i p d

-- the lookaheads hold numbers of tokens alone
abbrev pub LookaheadsAreWithin : {L : Type 0} → (L → List ℕ) → ℕ → List (ℕ × L) → Type 0
LookaheadsAreWithin marks end items = (i k : ℕ) → HasMark marks items i k → k ≤ end + 1

-- the lookaheads hold terminals and the end alone
abbrev pub HoldTokens : {L : Type 0} → (L → List ℕ) → ℕ → List (ℕ × L) → Type 0
HoldTokens marks end items = (i k : ℕ) → HasMark marks items i k → k ≤ end

-- the items with the dot in front of a rule, where its left side's slot has something
abbrev pub started_with : {L : Type 0} → ℕ → Option L → List (ℕ × L)
started_with start None = []
started_with start (Some l) = (start, l) ∷ []

abbrev pub started_items : {L : Type 0} → List (Option L) → List NumberedRule → List (ℕ × L)
started_items slots rules = flat_map (λ r. started_with r.start (slice_index_or slots r.left None)) rules

-- what one item more brings to the slots
pub record SeedsOne {L : Type 0} (marks : L → List ℕ) (firsts : Bool) (table : Numbered) (rests : List (List ℕ)) (item : ℕ × L)
    (old new : List (Option L)) : Type 0 where
  pub within : MarksAreWithin marks (table_end table) new
  pub brought : (s k : ℕ) → (has (set_of_number (all_marks marks (table_end table + 2) new) s) k ≡ true)
      ↔ ((has (set_of_number (all_marks marks (table_end table + 2) old) s) k ≡ true)
      ⊎ SeedBrings marks firsts (table_end table) (name_count table) (rest_of table.places.items) (set_of_number rests)
      (item ∷ []) s k)

-- the slots have what the items bring
pub record SeedsAll {L : Type 0} (marks : L → List ℕ) (firsts : Bool) (table : Numbered) (rests : List (List ℕ)) (items : List (ℕ
    × L))
    (slots : List (Option L)) : Type 0 where
  pub count : length slots ≡ name_count table
  pub within : MarksAreWithin marks (table_end table) slots
  pub brought : AreSeeded marks firsts (table_end table) (name_count table) (rest_of table.places.items) (set_of_number rests) items
      (all_marks marks (table_end table + 2) slots)

-- The items of a seed with those that were brought are exactly what is marked from the seed: that they are there, and what may
-- follow them.
abbrev pub TableMarks : {L : Type 0} → (L → List ℕ) → Bool → Numbered → List (ℕ × L) → theory.Production → ℕ →
    Option theory.Next → Type 0
TableMarks marks firsts table seed = Marked firsts (IsSeenIn (table_productions table)) (ListsItem seed (HasItemAt table))
    (ListsNext marks seed (next_of_number table.terminals.now) (table_end table) (HasItemAt table))

pub record ClosesSeed {L : Type 0} (marks : L → List ℕ) (firsts : Bool) (table : Numbered) (seed brought : List (ℕ
    × L)) : Type 0 where
  pub items : (p : theory.Production) (d : ℕ) → ListsItem (seed ++ brought) (HasItemAt table) p d
      ↔ TableMarks marks firsts table seed p d None
  pub nexts : (p : theory.Production) (d : ℕ) (x : theory.Next) →
      ListsNext marks (seed ++ brought) (next_of_number table.terminals.now) (table_end table) (HasItemAt table) p d x
      ↔ TableMarks marks firsts table seed p d (Some x)
