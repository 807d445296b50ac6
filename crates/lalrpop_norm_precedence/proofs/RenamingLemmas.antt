-- Lists of renamed symbols; for the renaming of an alternative's symbols.
use Rattle.std.proofs.Common.{◌≡◌, ℕ, ◌+◌, ◌≤◌, List, length, [], ◌∷◌, ◌++◌, ap, sym, ◌∙◌, refl}
use Rattle.std.proofs.Common.{map, drop}
use Rattle.std.proofs.lemmas.List.{append-nil, append_assoc, drop_all, map-append}
use Rattle.lalrpop_grammar_symbols.specs.Symbols.{Text, Syms, syms, WrittenSymbol}
use Rattle.lalrpop_grammar_symbols.specs.Views.{symbol_view}
use Rattle.lalrpop_grammar_symbols.specs.declared.symbol.Symbol.{Symbol}
use Rattle.lalrpop_grammar_language.specs.Closing.{Scope, occurrences}
use Rattle.lalrpop_norm_theory.specs.LevelRules.{rename_occurrences, rename_all_occurrences, rename_listed_occurrences}

-- a list of symbols is renamed symbol by symbol
pub listed_is_all : (f : Text → ℕ → Text) (s : Scope) (k : ℕ) (xs : List WrittenSymbol)
    → syms (rename_listed_occurrences f s k xs) ≡ rename_all_occurrences f s k (syms xs)
listed_is_all f s k [] = refl
listed_is_all f s k (x ∷ xs) =
    ap (Syms.more (rename_occurrences f s k x)) (listed_is_all f s (k + occurrences s.binding s.owner x) xs)

-- one symbol further
pub renamed_on : (f : Text → ℕ → Text) (s : Scope) (ss : List Symbol) (i : ℕ) (x : Symbol) → drop i ss ≡ x ∷ drop (i + 1) ss
    → (count next : ℕ) (old new : List Symbol) (y : Symbol) → symbol_view y ≡ rename_occurrences f s count (symbol_view x)
    → next ≡ count + occurrences s.binding s.owner (symbol_view x) → new ≡ old ++ y ∷ [] → (whole : List WrittenSymbol)
    → map symbol_view old ++ rename_listed_occurrences f s count (map symbol_view (drop i ss)) ≡ whole
    → map symbol_view new ++ rename_listed_occurrences f s next (map symbol_view (drop (i + 1) ss)) ≡ whole
renamed_on f s ss i x here count next old new y is at pushed whole before =
    ap (λ l. map symbol_view l ++ rest next) pushed
    ∙ ap (λ l. l ++ rest next) (map-append symbol_view old (y ∷ []))
    ∙ append_assoc (map symbol_view old) (symbol_view y ∷ []) (rest next)
    ∙ ap (λ z. map symbol_view old ++ z ∷ rest next) is
    ∙ ap (λ k. map symbol_view old ++ rename_occurrences f s count (symbol_view x) ∷ rest k) at
    ∙ ap (λ l. map symbol_view old ++ rename_listed_occurrences f s count (map symbol_view l)) (sym here)
    ∙ before
  where
    rest : ℕ → List WrittenSymbol
    rest k = rename_listed_occurrences f s k (map symbol_view (drop (i + 1) ss))

-- behind the last symbol all are renamed
pub renamed_all : (f : Text → ℕ → Text) (s : Scope) (ss : List Symbol) (i : ℕ) → length ss ≤ i → (count : ℕ)
    (made : List Symbol) (whole : List WrittenSymbol)
    → map symbol_view made ++ rename_listed_occurrences f s count (map symbol_view (drop i ss)) ≡ whole
    → map symbol_view made ≡ whole
renamed_all f s ss i past count made whole before =
    sym (append-nil (map symbol_view made))
    ∙ ap (λ l. map symbol_view made ++ rename_listed_occurrences f s count (map symbol_view l)) (sym (drop_all i ss past))
    ∙ before
