-- Names, symbols and productions that are seen as one are one.
use Rattle.std.proofs.Common.{◌≡◌, ◌∙◌, ℕ, List, [], ◌∷◌, map, refl, ap}
use Rattle.lalrpop_grammar_symbols.specs.Views.{terminal_view}
use Rattle.lalrpop_grammar_repr.specs.declared.production.Production.{Production}
use Rattle.lalrpop_grammar_repr.specs.declared.production.Symbol.{Symbol}
use Rattle.lalrpop_grammar_repr.specs.declared.production.Symbol.TheVariants as symbols
use Rattle.lalrpop_grammar_symbols.specs.declared.names.NonterminalString.{NonterminalString}
use Rattle.lalrpop_lr1_theory.specs.Productions as theory
use Rattle.lalrpop_lr1_core.specs.Views.{production_symbol_view, production_view}
use Rattle.lalrpop_lr1_core.proofs.NoConflictLemmas.{same_terminal}

abbrev name_of : List ℕ → NonterminalString
name_of t = record { 0 = t }

pub same_symbol : (x y : Symbol) → production_symbol_view x ≡ production_symbol_view y → x ≡ y
same_symbol (symbols.Nonterminal a) (symbols.Nonterminal b) e =
    let z : a.0 ≡ b.0 = cc in ap (λ t. symbols.Nonterminal (name_of t)) z
same_symbol (symbols.Nonterminal a) (symbols.Terminal t) e = let w : ⊥ = cc in absurd w
same_symbol (symbols.Terminal t) (symbols.Nonterminal b) e = let w : ⊥ = cc in absurd w
same_symbol (symbols.Terminal t) (symbols.Terminal u) e =
    let z : terminal_view t ≡ terminal_view u = cc in ap symbols.Terminal (same_terminal t u z)

pub same_side : (xs ys : List Symbol) → map production_symbol_view xs ≡ map production_symbol_view ys → xs ≡ ys
same_side [] [] e = refl
same_side [] (y ∷ ys) e = let w : ⊥ = cc in absurd w
same_side (x ∷ xs) [] e = let w : ⊥ = cc in absurd w
same_side (x ∷ xs) (y ∷ ys) e =
    let h : production_symbol_view x ≡ production_symbol_view y = cc in
    let t : map production_symbol_view xs ≡ map production_symbol_view ys = cc in
    ap (λ z. z ∷ xs) (same_symbol x y h) ∙ ap (λ l. y ∷ l) (same_side xs ys t)

abbrev made : List ℕ → List Symbol → ℕ → ℕ → ℕ → Production
made name side action from to =
    record { nonterminal = record { 0 = name }; symbols = side; action = record { 0 = action }; span = record { 0 = from; 1 = to } }

-- productions that the theory of tables sees as one are one
pub same_production : (p q : Production) → production_view p ≡ production_view q → p ≡ q
same_production p q e =
    ap (λ x. made x p.symbols p.action.0 p.span.0 p.span.1) (ap (λ (v : theory.Production). v.left) e)
    ∙ ap (λ x. made q.nonterminal.0 x p.action.0 p.span.0 p.span.1)
    (same_side p.symbols q.symbols (ap (λ (v : theory.Production). v.right) e))
    ∙ ap (λ x. made q.nonterminal.0 q.symbols x p.span.0 p.span.1) (ap (λ (v : theory.Production). v.action) e)
    ∙ ap (λ x. made q.nonterminal.0 q.symbols q.action.0 x p.span.1) (ap (λ (v : theory.Production). v.from) e)
    ∙ ap (λ x. made q.nonterminal.0 q.symbols q.action.0 q.span.0 x) (ap (λ (v : theory.Production). v.to) e)
