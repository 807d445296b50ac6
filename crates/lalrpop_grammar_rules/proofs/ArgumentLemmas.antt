-- Closed symbols as the arguments of a tree: for their comparison and for the walk over trees.
use Rattle.std.proofs.Common.{◌≡◌, ℕ, List, [], ◌∷◌, Option, refl, ap, sym, ◌∙◌, map, length}
use Rattle.lalrpop_grammar_symbols.specs.Symbols.{Text, syms, list_of, Closed, Closeds, closed_list, Syms, Sym}
use Rattle.lalrpop_grammar_symbols.specs.Views.{symbol_view, without_marks}
use Rattle.lalrpop_grammar_symbols.specs.declared.symbol.Symbol.{Symbol}
use Rattle.lalrpop_grammar.specs.Trees.{as_argument, as_arguments}
use Rattle.lalrpop_grammar_language.specs.Admitting.{argument_list}
use Rattle.lalrpop_grammar_rules.specs.declared.closed.closed_symbol.ClosedSymbol.{ClosedSymbol}
use Rattle.lalrpop_grammar_rules.specs.Views.{closed_view, closeds, as_is, list_without_marks}

-- closed symbols that are put into a list of their own and taken out are the same
pub closed_list-closeds : (xs : List Closed) → closed_list (closeds xs) ≡ xs
closed_list-closeds [] = refl
closed_list-closeds (x ∷ xs) = ap (λ l. x ∷ l) (closed_list-closeds xs)

-- a call with arguments shows as one of a macro
pub call_with_some : (n : Text) (xs : List ClosedSymbol) (l : Option ℕ) → (length xs ≡ 0 → ⊥)
    → as_argument as_is (Closed.call n (closeds (map closed_view xs)) l)
    ≡ Sym.macro tt n (as_arguments as_is (closeds (map closed_view xs)))
call_with_some n [] l e = absurd (e refl)
call_with_some n (x ∷ xs) l e = refl

list_of-as_arguments : (f : Text → Text) (xs : Closeds) → list_of (as_arguments f xs) ≡ argument_list f xs
list_of-as_arguments f Closeds.none = refl
list_of-as_arguments f (Closeds.more x xs) = ap (λ l. as_argument f x ∷ l) (list_of-as_arguments f xs)

list_of-unmarked : (ss : List Symbol) → list_of (list_without_marks (map symbol_view ss)) ≡ map (λ s. without_marks (symbol_view s)) ss
list_of-unmarked [] = refl
list_of-unmarked (s ∷ ss) = ap (λ l. without_marks (symbol_view s) ∷ l) (list_of-unmarked ss)

syms-unmarked : (ss : List Symbol) → syms (map (λ s. without_marks (symbol_view s)) ss) ≡ list_without_marks (map symbol_view ss)
syms-unmarked [] = refl
syms-unmarked (s ∷ ss) = ap (λ l. Syms.more (without_marks (symbol_view s)) l) (syms-unmarked ss)

syms-argument_list : (f : Text → Text) (xs : Closeds) → syms (argument_list f xs) ≡ as_arguments f xs
syms-argument_list f Closeds.none = refl
syms-argument_list f (Closeds.more x xs) = ap (λ l. Syms.more (as_argument f x) l) (syms-argument_list f xs)

module _ (xs : Closeds) (ss : List Symbol) where
  -- symbols that show as the arguments are the arguments that a tree has
  pub args_to : as_arguments as_is xs ≡ list_without_marks (map symbol_view ss)
      → map (λ s. without_marks (symbol_view s)) ss ≡ argument_list as_is xs
  args_to e = sym (list_of-unmarked ss) ∙ ap list_of (sym e) ∙ list_of-as_arguments as_is xs

  -- the arguments that a tree has are what the symbols show as
  pub args_from : map (λ s. without_marks (symbol_view s)) ss ≡ argument_list as_is xs
      → as_arguments as_is xs ≡ list_without_marks (map symbol_view ss)
  args_from e = sym (syms-argument_list as_is xs) ∙ ap syms (sym e) ∙ syms-unmarked ss
