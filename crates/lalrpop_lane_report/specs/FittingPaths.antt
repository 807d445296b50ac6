-- What an enumerator shows that keeps the paths which fit a lookahead; and what a call gives of them.
use Rattle.std.specs.Prelude.{ℕ, ◌≤◌, ◌<◌, true, List, [], ◌∷◌, ◌++◌, map, length, Option, Some, None, Result, Ok, Err, ◌≡◌, Contains}
use Rattle.std.specs.declared.alloc.AllocError.{AllocError}
use Rattle.lalrpop_grammar_symbols.specs.declared.names.NonterminalString.{NonterminalString}
use Rattle.lalrpop_grammar_repr.specs.declared.grammar.Grammar.{Grammar}
use Rattle.lalrpop_grammar_repr.specs.declared.terminal_set.TerminalSet.{TerminalSet}
use Rattle.lalrpop_lr1_theory.specs.FirstSets.{First0}
use Rattle.lalrpop_lr1_core.specs.Views.{next_of_number, production_symbol_view}
use Rattle.lalrpop_lr1_first.specs.FirstSetsOf.{AreFirstSetsOf, IsProductionOf}
use Rattle.lalrpop_sets.specs.AscendingLists.{has}
use Rattle.lalrpop_sets.specs.Tokens.{eof_number}
use Rattle.lalrpop_lane_report.specs.declared.traces.example.Example.{Example}
use Rattle.lalrpop_lane_report.specs.Enumerators.{EnumeratorView, TracePath}
use Rattle.lalrpop_lane_report.specs.Examples.{IsExample, labels_of, next_symbols}

-- one that keeps the paths which fit a lookahead, by these first sets
pub record FilterView : Type 0 where
  pub paths : EnumeratorView
  pub firsts : List (NonterminalString × List ℕ)
  pub terminals : TerminalSet
  pub lookahead : List ℕ

-- one of the tokens can come next on the path, the end where nothing need come
abbrev pub FitsPath : Grammar → List ℕ → TracePath → Type 0
FitsPath g lookahead p =
    (k : ℕ) × (k ≤ eof_number g.terminals) × (has lookahead k ≡ true)
    × First0 (IsProductionOf g) (map production_symbol_view (next_symbols (labels_of p))) (next_of_number g.terminals k)

-- none of these paths fits
abbrev pub NoneFits : Grammar → List ℕ → List TracePath → Type 0
NoneFits g lookahead ps = (p : TracePath) → Contains ps p → FitsPath g lookahead p → ⊥

-- of the paths that are left the first ones were passed over, none of which fits
pub record SkipsUnfit (g : Grammar) (lookahead : List ℕ) (old new : List TracePath) : Type 0 where
  pub passed : List TracePath
  pub is : old ≡ passed ++ new
  pub none_fits : NoneFits g lookahead passed

-- the first of these paths fits, if there is one
abbrev pub HasFitInFront : Grammar → List ℕ → List TracePath → Type 0
HasFitInFront g lookahead ps = (p : TracePath) (others : List TracePath) → ps ≡ p ∷ others → FitsPath g lookahead p

-- the first path of a list that fits, with those before it, none of which does
pub record IsFirstToFit (g : Grammar) (lookahead : List ℕ) (ps : List TracePath) (p : TracePath) (rest : List TracePath) : Type 0 where
  pub passed : List TracePath
  pub is : ps ≡ passed ++ p ∷ rest
  pub none_fits : NoneFits g lookahead passed
  pub fits : FitsPath g lookahead p

-- a call gives the example of the first path that is left and fits, and leaves those behind it
abbrev pub GivesFitting : FilterView → Option (Result Example AllocError) → FilterView → Type 0
GivesFitting old None new =
    (new.paths.left ≡ []) × ((g : Grammar) → AreFirstSetsOf g old.firsts → old.terminals ≡ g.terminals →
    NoneFits g old.lookahead old.paths.left) × (new ≡ record old { paths = new.paths }) × (new.paths.graph ≡ old.paths.graph)
GivesFitting old (Some (Ok example)) new =
    (p : TracePath) × IsExample old.paths.graph.nodes p example
    × ((g : Grammar) → AreFirstSetsOf g old.firsts → old.terminals ≡ g.terminals →
    IsFirstToFit g old.lookahead old.paths.left p new.paths.left)
    × (length new.paths.left < length old.paths.left) × (new ≡ record old { paths = new.paths }) × (new.paths.graph ≡ old.paths.graph)
GivesFitting old (Some (Err fault)) new =
    (0 < length old.paths.left) × (new.paths.left ≡ []) × (new ≡ record old { paths = new.paths }) × (new.paths.graph ≡ old.paths.graph)
