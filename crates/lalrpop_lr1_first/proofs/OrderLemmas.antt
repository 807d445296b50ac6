-- Productions that compare as equal are one: for tables in which each production stands once.
use Rattle.std.proofs.Common.{◌≡◌, ◌∙◌, ℕ, List, [], ◌∷◌, refl, ap}
use Rattle.std.specs.declared.cmp.Ordering.{Ordering}
use Rattle.std.specs.declared.cmp.Ordering.TheVariants.{Less, Equal, Greater}
use Rattle.std.specs.Ordering.{ordering_then, nat_cmp}
use Rattle.std.specs.Cmp.Lexicographic.{slice_cmp}
use Rattle.std.proofs.lemmas.Map.Lookups.{CmpEqualImpliesEq, exact_bytes, exact_unsigned}
use Rattle.lalrpop_grammar_symbols.specs.contracts.names.NonterminalStringOrd.TheImpl as names
use Rattle.lalrpop_grammar_symbols.specs.contracts.terminal.TerminalStringOrd.TheImpl as terminals
use Rattle.lalrpop_grammar_symbols.specs.contracts.terminal.TerminalLiteralOrd.TheImpl as literals
use Rattle.lalrpop_grammar_symbols.specs.declared.names.NonterminalString.{NonterminalString}
use Rattle.lalrpop_grammar_symbols.specs.declared.terminal.TerminalLiteral.TheVariants as literal
use Rattle.lalrpop_grammar_symbols.specs.declared.terminal.TerminalString.TheVariants as terminal
use Rattle.lalrpop_grammar_repr.specs.contracts.production.SymbolOrd.TheImpl as symbols
use Rattle.lalrpop_grammar_repr.specs.contracts.production.ProductionOrd.TheImpl as productions
use Rattle.lalrpop_grammar_repr.specs.declared.production.Symbol.{Symbol}
use Rattle.lalrpop_grammar_repr.specs.declared.production.Symbol.TheVariants as symbol
use Rattle.lalrpop_grammar_repr.specs.declared.production.Production.{Production}

-- two comparisons one after another are equal where both are
both_equal : (a b : Ordering) → ordering_then a b ≡ Equal → (a ≡ Equal) × (b ≡ Equal)
both_equal Less b e = let w : ⊥ = cc in absurd w
both_equal Equal b e = (refl, e)
both_equal Greater b e = let w : ⊥ = cc in absurd w

exact_list : {X : Type 0} (R : X → X → Ordering) → CmpEqualImpliesEq R → CmpEqualImpliesEq (slice_cmp R)
exact_list R exact [] [] e = refl
exact_list R exact [] (y ∷ ys) e = let w : ⊥ = cc in absurd w
exact_list R exact (x ∷ xs) [] e = let w : ⊥ = cc in absurd w
exact_list R exact (x ∷ xs) (y ∷ ys) e =
    let b = both_equal (R x y) (slice_cmp R xs ys) e in
    ap (λ z. z ∷ xs) (exact x y b.0) ∙ ap (λ zs. y ∷ zs) (exact_list R exact xs ys b.1)

-- names that compare as equal are one
pub exact_name : CmpEqualImpliesEq (names.ghosts).cmp
exact_name x y e = ap (λ t. record { 0 = t }) (exact_bytes x.0 y.0 e)

exact_literal : CmpEqualImpliesEq (literals.ghosts).cmp
exact_literal (literal.Quoted s) (literal.Quoted t) e = ap literal.Quoted (exact_bytes s t e)
exact_literal (literal.Quoted s) (literal.Regex t) e = let w : ⊥ = cc in absurd w
exact_literal (literal.Regex s) (literal.Quoted t) e = let w : ⊥ = cc in absurd w
exact_literal (literal.Regex s) (literal.Regex t) e = ap literal.Regex (exact_bytes s t e)

-- terminals that compare as equal are one
pub exact_terminal : CmpEqualImpliesEq (terminals.ghosts).cmp
exact_terminal (terminal.Literal s) (terminal.Literal t) e = ap terminal.Literal (exact_literal s t e)
exact_terminal (terminal.Literal s) (terminal.Bare t) e = let w : ⊥ = cc in absurd w
exact_terminal (terminal.Literal s) terminal.Error e = let w : ⊥ = cc in absurd w
exact_terminal (terminal.Bare s) (terminal.Literal t) e = let w : ⊥ = cc in absurd w
exact_terminal (terminal.Bare s) (terminal.Bare t) e = ap terminal.Bare (exact_bytes s t e)
exact_terminal (terminal.Bare s) terminal.Error e = let w : ⊥ = cc in absurd w
exact_terminal terminal.Error (terminal.Literal t) e = let w : ⊥ = cc in absurd w
exact_terminal terminal.Error (terminal.Bare t) e = let w : ⊥ = cc in absurd w
exact_terminal terminal.Error terminal.Error e = refl

exact_symbol : CmpEqualImpliesEq (symbols.ghosts).cmp
exact_symbol (symbol.Nonterminal s) (symbol.Nonterminal t) e = ap symbol.Nonterminal (exact_name s t e)
exact_symbol (symbol.Nonterminal s) (symbol.Terminal t) e = let w : ⊥ = cc in absurd w
exact_symbol (symbol.Terminal s) (symbol.Nonterminal t) e = let w : ⊥ = cc in absurd w
exact_symbol (symbol.Terminal s) (symbol.Terminal t) e = ap symbol.Terminal (exact_terminal s t e)

abbrev made : NonterminalString → List Symbol → ℕ → ℕ → ℕ → Production
made name side action from to =
    record { nonterminal = name; symbols = side; action = record { 0 = action }; span = record { 0 = from; 1 = to } }

-- productions that compare as equal are one
pub exact_production : CmpEqualImpliesEq (productions.ghosts).cmp
exact_production p q e =
    let a = both_equal ((names.ghosts).cmp p.nonterminal q.nonterminal) _ e in
    let b = both_equal (slice_cmp (symbols.ghosts).cmp p.symbols q.symbols) _ a.1 in
    let c = both_equal (nat_cmp p.action.0 q.action.0) _ b.1 in
    let d = both_equal (nat_cmp p.span.0 q.span.0) _ c.1 in
    ap (λ x. made x p.symbols p.action.0 p.span.0 p.span.1) (exact_name p.nonterminal q.nonterminal a.0)
    ∙ ap (λ x. made q.nonterminal x p.action.0 p.span.0 p.span.1)
    (exact_list (symbols.ghosts).cmp exact_symbol p.symbols q.symbols b.0)
    ∙ ap (λ x. made q.nonterminal q.symbols x p.span.0 p.span.1) (exact_unsigned p.action.0 q.action.0 c.0)
    ∙ ap (λ x. made q.nonterminal q.symbols q.action.0 x p.span.1) (exact_unsigned p.span.0 q.span.0 d.0)
    ∙ ap (λ x. made q.nonterminal q.symbols q.action.0 q.span.0 x) (exact_unsigned p.span.1 q.span.1 d.1)
