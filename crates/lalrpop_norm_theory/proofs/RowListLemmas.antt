-- The labelled productions of an expansion as rows, computed from its nonterminals; for the examples.
use Rattle.std.proofs.Common.{◌≡◌, ℕ, List, subst, Bool, true}
use Rattle.std.specs.Prelude.{map, flat_map}
use Rattle.std.specs.List.{list_all}
use Rattle.lalrpop_grammar_symbols.specs.Symbols.{Text}
use Rattle.lalrpop_grammar.specs.WrittenGrammar.{Origin}
use Rattle.lalrpop_grammar_language.specs.Among.{Among}
use Rattle.lalrpop_grammar_language.specs.Enabled.{EnabledGrammar}
use Rattle.lalrpop_grammar_language.specs.Expansion.{Nonterminal, RightSide, InExpansion, WrittenLabel, IsWrittenProduction}
use Rattle.lalrpop_grammar_language.proofs.PlaceLemmas.{among_map}
use Rattle.lalrpop_norm_theory.specs.Productions.{AreProductions}
use Rattle.lalrpop_grammar_language.proofs.AmongLemmas.{flat_map_among}
use Rattle.lalrpop_grammar_language.proofs.AmongLemmas.{map_among}
use Rattle.lalrpop_grammar_language.proofs.AmongLemmas.{among_flat_map}
use Rattle.lalrpop_norm_theory.proofs.ClosedComparisonLemmas.{all-each, has_nonterminal, has_nonterminal-among}
use Rattle.lalrpop_norm_theory.proofs.ProductionListLemmas.{productions_of, listed, is_production}
use Rattle.lalrpop_norm_theory.proofs.ExpansionListLemmas.{reached_in, reached-in, is_all, all-of}
use Rattle.lalrpop_norm_theory.specs.Rows.{Row, productions_from, origins_of}
use Rattle.lalrpop_norm_theory.proofs.NumberingLemmas.{are_in_order}
use Rattle.lalrpop_norm_theory.proofs.NumberingLemmas.{rows-in-order, numbered_productions}

abbrev row_of : Nonterminal → Origin × RightSide → Row
row_of x p = (record { head = x; choice = p.0 }, p.1)

abbrev rows_at : EnabledGrammar → Nonterminal → List Row
rows_at g x = map (row_of x) (productions_of g x)

-- the productions of these nonterminals
abbrev pub rows_of : EnabledGrammar → List Nonterminal → List Row
rows_of g xs = flat_map (rows_at g) xs

-- whether so many steps lead to each of the nonterminals
abbrev pub are_reached : EnabledGrammar → ℕ → List Nonterminal → Bool
are_reached g n xs = list_all (has_nonterminal (reached_in g n)) xs

-- then each is in the expansion
pub reached-each : (g : EnabledGrammar) (n : ℕ) (xs : List Nonterminal) → are_reached g n xs ≡ true → (x : Nonterminal) →
    Among xs x →
    InExpansion g x
reached-each g n xs h x i =
    reached-in g n x (has_nonterminal-among (reached_in g n) x (all-each (has_nonterminal (reached_in g n)) xs h x i))

-- the productions of all nonterminals of the expansion, where they stand in order, are its productions
pub expansion_productions : (g : EnabledGrammar) (n : ℕ) (xs : List Nonterminal) (name_of : Nonterminal → Text) →
    is_all g xs ≡ true →
    are_reached g n xs ≡ true → are_in_order name_of (rows_of g xs) ≡ true →
    AreProductions g name_of (productions_from name_of 0 (rows_of g xs)) (origins_of (rows_of g xs))
expansion_productions g n xs name_of all reached ordered = numbered_productions g name_of (rows_of g xs) (record {
  every = every;
  no_other = no_other;
  in_order = rows-in-order name_of (rows_of g xs) ordered;
})
  where
    every : (label : WrittenLabel) (side : RightSide) → InExpansion g label.head → IsWrittenProduction g label side →
        Among (rows_of g xs) (label, side)
    every label side i m =
        flat_map_among (rows_at g) xs label.head (label, side) (all-of g xs all label.head i)
        (map_among (row_of label.head) (productions_of g label.head) (label.choice, side) (listed g label.head label.choice side m))

    no_other : (row : Row) → Among (rows_of g xs) row → InExpansion g row.0.head × IsWrittenProduction g row.0 row.1
    no_other row h =
        let x = among_flat_map (rows_at g) xs row h in
        let p = among_map (row_of x.0) (productions_of g x.0) row x.2 in
        subst (λ (r : Row). InExpansion g r.0.head × IsWrittenProduction g r.0 r.1) p.2
        (reached-each g n xs reached x.0 x.1, is_production g x.0 p.0.0 p.0.1 p.1)
