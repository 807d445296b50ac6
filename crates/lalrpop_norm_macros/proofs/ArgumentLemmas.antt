-- Symbols as arguments, one after another and inside others; for the functions that write arguments.
use Rattle.std.proofs.Common.{◌≡◌, ◌∙◌, List, [], ◌∷◌, refl, ap, sym, map}
use Rattle.std.specs.Prelude.{ℕ, Option}
use Rattle.lalrpop_grammar_symbols.specs.Symbols.{Text, TextSpan, Closed, Closeds, Sym, Syms, WrittenSymbol, syms}
use Rattle.lalrpop_grammar_symbols.specs.Views.{all_without_marks, symbol_view, without_marks}
use Rattle.lalrpop_grammar_symbols.specs.declared.symbol.Symbol.{Symbol}
use Rattle.lalrpop_grammar.specs.Trees.{as_argument, as_arguments}
use Rattle.lalrpop_grammar_language.specs.Admitting.{argument_list}
use Rattle.lalrpop_grammar_rules.specs.Views.{closed_step, closed_view, closeds}
use Rattle.lalrpop_grammar_rules.specs.declared.closed.closed_symbol.ClosedSymbol.{ClosedSymbol, fold-roll-ClosedSymbol}
use Rattle.lalrpop_grammar_rules.specs.declared.closed.closed_symbol.ClosedSymbol.TheOpen as layer
use Rattle.lalrpop_grammar_rules.specs.declared.closed.closed_symbol.ClosedSymbol.TheVariants as variant
use Rattle.lalrpop_norm_macros.specs.WrittenRules.{arguments_view, call_as_argument}

unmarked_list : (vs : List Symbol) → all_without_marks (syms (map symbol_view vs)) ≡ syms (arguments_view vs)
unmarked_list [] = refl
unmarked_list (v ∷ vs) = ap (λ l. Syms.more (without_marks (symbol_view v)) l) (unmarked_list vs)

as_listed : (f : Text → Text) (xs : Closeds) → as_arguments f xs ≡ syms (argument_list f xs)
as_listed f Closeds.none = refl
as_listed f (Closeds.more x xs) = ap (λ l. Syms.more (as_argument f x) l) (as_listed f xs)

-- the same inside a group or a call
pub arguments_inside : (f : Text → Text) (xs : Closeds) (vs : List Symbol) → arguments_view vs ≡ argument_list f xs
    → all_without_marks (syms (map symbol_view vs)) ≡ as_arguments f xs
arguments_inside f xs vs e = unmarked_list vs ∙ ap syms e ∙ sym (as_listed f xs)

-- a call by its name as it was written
pub call_argument : (f : Text → Text) (n : Text) (xs : Closeds) (level : Option ℕ)
    → call_as_argument (f n) (as_arguments f xs) ≡ as_argument f (Closed.call n xs level)
call_argument f n Closeds.none level = refl
call_argument f n (Closeds.more x xs) level = refl

-- a call with arguments
pub call_shown : (n : Text) (args : List Symbol) (v : WrittenSymbol) (p : TextSpan) → (args ≡ [] → ⊥)
    → v ≡ Sym.macro p n (syms (map symbol_view args))
    → without_marks v ≡ call_as_argument n (all_without_marks (syms (map symbol_view args)))
call_shown n [] v p some e = absurd (some refl)
call_shown n (x ∷ xs) v p some e = ap without_marks e

-- a call of a key
pub key_argument :
    (f : Text → Text) (x : Closed) (n spelled : Text) (args : List ClosedSymbol) (level : Option ℕ) (vs : List Symbol)
    (v : WrittenSymbol)
    → x ≡ Closed.call n (closeds (map closed_view args)) level → spelled ≡ f n
    → arguments_view vs ≡ argument_list f (closeds (map closed_view args))
    → without_marks v ≡ call_as_argument spelled (all_without_marks (syms (map symbol_view vs))) → without_marks v ≡ as_argument f x
key_argument f x n spelled args level vs v is same inside e =
    e ∙ ap (λ t. call_as_argument t (all_without_marks (syms (map symbol_view vs)))) same
    ∙ ap (call_as_argument (f n)) (arguments_inside f (closeds (map closed_view args)) vs inside)
    ∙ call_argument f n (closeds (map closed_view args)) level ∙ ap (as_argument f) (sym is)

-- a group of keys
pub group_argument : (f : Text → Text) (x : Closed) (ys : List ClosedSymbol) (vs : List Symbol) (v : WrittenSymbol) (p : TextSpan)
    → x ≡ Closed.group (closeds (map closed_view ys)) → v ≡ Sym.expr p (syms (map symbol_view vs))
    → arguments_view vs ≡ argument_list f (closeds (map closed_view ys)) → without_marks v ≡ as_argument f x
group_argument f x ys vs v p is e inside =
    ap without_marks e ∙ ap (Sym.expr tt) (arguments_inside f (closeds (map closed_view ys)) vs inside) ∙ ap (as_argument f) (sym is)

-- a group of the program is seen as a group of its symbols in order
pub seen-Group : (xs : List ClosedSymbol) → closed_view (variant.Group xs) ≡ Closed.group (closeds (map closed_view xs))
seen-Group xs = ap closed_view (sym (variant.rolls-Group xs)) ∙ fold-roll-ClosedSymbol Closed closed_step (layer.Group xs)
