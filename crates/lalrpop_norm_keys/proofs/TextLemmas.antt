-- The text of a call, and how much there is of a list of closed symbols; for the functions that write texts.
use Rattle.std.proofs.Common.{◌≡◌, ℕ, zero, suc, ◌<◌, List, [], ◌∷◌, refl, ap, map, length, get_or, arith}
use Rattle.std.specs.Prelude.{Option}
use Rattle.lalrpop_grammar_symbols.specs.Symbols.{Text, Closed, Closeds}
use Rattle.lalrpop_norm_theory.specs.Keys.{before_tilde, flat_key_text}
use Rattle.lalrpop_grammar_rules.specs.Views.{closed_view, closeds}
use Rattle.lalrpop_grammar_rules.specs.declared.closed.closed_symbol.ClosedSymbol.{ClosedSymbol}
use Rattle.lalrpop_grammar_rules.proofs.SizeLemmas.{size, sizes}
use Rattle.lalrpop_norm_keys.specs.KeyTexts.{call_text}

-- a call's text is that of its name and its arguments
pub text_of_call : (n : Text) (args : Closeds) (level : Option ℕ)
    → flat_key_text (Closed.call n args level) ≡ call_text (before_tilde n) args
text_of_call n Closeds.none level = refl
text_of_call n (Closeds.more x xs) level = refl

-- a symbol is smaller than a list that has it
pub size_in : (xs : List ClosedSymbol) (i : ℕ) (x : ClosedSymbol) → i < length xs → x ≡ get_or xs i x
    → size (closed_view x) < sizes (closeds (map closed_view xs))
size_in [] i x h e = absurd (omega (arith, h))
size_in (y ∷ ys) zero x h e =
    let same : size (closed_view x) ≡ size (closed_view y) = ap (λ z. size (closed_view z)) e in omega (arith, same)
size_in (y ∷ ys) (suc i) x h e =
    let within : i < length ys = omega (arith, h) in
    let below = size_in ys i x within e in omega (arith, below)
