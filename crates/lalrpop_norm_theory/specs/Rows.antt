-- The productions of an expansion in a row, numbered as they stand.
use Rattle.std.specs.Prelude.{ℕ, ◌+◌, ◌≡◌, ◌<◌, List, [], ◌∷◌, Some, map, slice_get}
use Rattle.lalrpop_grammar_symbols.specs.Symbols.{Text}
use Rattle.lalrpop_grammar.specs.WrittenGrammar.{Origin}
use Rattle.lalrpop_grammar_language.specs.Among.{Among}
use Rattle.lalrpop_grammar_language.specs.Enabled.{EnabledGrammar}
use Rattle.lalrpop_grammar_language.specs.Expansion.{Nonterminal, RightSide, InExpansion, WrittenLabel, IsWrittenProduction}
use Rattle.lalrpop_norm_theory.specs.Same.{rename_side}
use Rattle.lalrpop_norm_theory.specs.Productions.{NamedProduction, IsOriginBefore}

-- a labelled production of an expansion
abbrev pub Row : Type 0
Row = WrittenLabel × RightSide

-- the production of a row, with a number
abbrev pub production_of_row : (Nonterminal → Text) → ℕ → Row → NamedProduction
production_of_row name_of k row = record { nonterminal = name_of row.0.head; symbols = rename_side name_of row.1; action = k }

-- the productions of rows, with numbers from k on
abbrev pub productions_from : (Nonterminal → Text) → ℕ → List Row → List NamedProduction
productions_from name_of k [] = []
productions_from name_of k (row ∷ rows) = production_of_row name_of k row ∷ productions_from name_of (k + 1) rows

abbrev pub origins_of : List Row → List Origin
origins_of = map (λ row. row.0.choice)

-- The rows are the expansion's labelled productions, each nonterminal's in order.
pub record AreExpansionRows (g : EnabledGrammar) (name_of : Nonterminal → Text) (rows : List Row) : Type 0 where
  pub every : (label : WrittenLabel) (side : RightSide) → InExpansion g label.head → IsWrittenProduction g label side →
      Among rows (label, side)
  pub no_other : (row : Row) → Among rows row → InExpansion g row.0.head × IsWrittenProduction g row.0 row.1
  pub in_order : (i j : ℕ) (row later : Row) → i < j → slice_get rows i ≡ Some row → slice_get rows j ≡ Some later →
      name_of row.0.head ≡ name_of later.0.head → IsOriginBefore row.0.choice later.0.choice
