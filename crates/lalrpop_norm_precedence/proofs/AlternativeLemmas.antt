-- Symbols renamed by the number of occurrences; for the alternatives of a level.
use Rattle.std.proofs.Common.{◌≡◌, ℕ, List, subst, map}
use Rattle.std.specs.Prelude.{Result, IfOk}
use Rattle.lalrpop_grammar_symbols.specs.Symbols.{WrittenSymbol}
use Rattle.lalrpop_grammar_symbols.specs.Views.{symbol_view}
use Rattle.lalrpop_grammar_symbols.specs.declared.symbol.Symbol.{Symbol}
use Rattle.lalrpop_grammar_language.specs.Levels.{Assoc}
use Rattle.lalrpop_norm_theory.specs.LevelRules.{rename_listed_occurrences}
use Rattle.lalrpop_norm_precedence.specs.Occurrences.{name_by_side, scope_by_number}
use Rattle.lalrpop_norm_precedence.specs.NamedAlternatives.{OccurrenceNaming}

-- symbols renamed by a count are renamed by another that equals it
pub renamed_by_count : {E : Type 0} (r : Result (List Symbol) E) (w : OccurrenceNaming) (side : Assoc) (xs : List WrittenSymbol)
    (count all : ℕ) → count ≡ all
    → IfOk r (λ made. map symbol_view made
    ≡ rename_listed_occurrences (λ n k. name_by_side side count w.reached w.others k) (scope_by_number w.binding w.owner) 0 xs)
    → IfOk r (λ made. map symbol_view made
    ≡ rename_listed_occurrences (λ n k. name_by_side side all w.reached w.others k) (scope_by_number w.binding w.owner) 0 xs)
renamed_by_count {E} r w side xs count all same h =
    subst (λ (m : ℕ). IfOk r (λ made. map symbol_view made
    ≡ rename_listed_occurrences (λ n k. name_by_side side m w.reached w.others k) (scope_by_number w.binding w.owner) 0 xs)) same h
