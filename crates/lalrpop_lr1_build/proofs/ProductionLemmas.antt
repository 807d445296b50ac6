-- Productions that are seen as one are one, so an item has one place: for states whose items stand once.
use Rattle.std.proofs.Common.{◌≡◌, ◌∙◌, ℕ, zero, suc, List, [], ◌∷◌, Some, slice_get, refl, sym}
use Rattle.std.proofs.Common.{ap, subst, arith}
use Rattle.std.specs.Cmp.{nat_cmp_total}
use Rattle.std.specs.Cmp.Lexicographic.{nat_list_cmp_total, slice_cmp}
use Rattle.std.specs.List.Sorted.{IsStrictlySortedBy}
use Rattle.std.specs.Ordering.{nat_cmp, ordering_reverse, ordering_then}
use Rattle.std.specs.declared.cmp.Ordering.{Ordering}
use Rattle.std.specs.declared.cmp.Ordering.TheVariants.{Equal, Greater, Less}
use Rattle.lalrpop_grammar_symbols.specs.contracts.names.NonterminalStringOrd.TheImpl as names
use Rattle.lalrpop_grammar_symbols.specs.contracts.terminal.TerminalStringOrd.TheImpl as terminals
use Rattle.lalrpop_grammar_symbols.specs.contracts.terminal.TerminalLiteralOrd.TheImpl as literals
use Rattle.lalrpop_grammar_symbols.specs.declared.terminal.TerminalLiteral.{TerminalLiteral}
use Rattle.lalrpop_grammar_symbols.specs.declared.terminal.TerminalLiteral.TheVariants as literal
use Rattle.lalrpop_grammar_symbols.specs.declared.terminal.TerminalString.{TerminalString}
use Rattle.lalrpop_grammar_symbols.specs.declared.terminal.TerminalString.TheVariants as terminal
use Rattle.lalrpop_grammar_repr.specs.contracts.production.ProductionOrd.TheImpl as productions
use Rattle.lalrpop_grammar_repr.specs.contracts.production.SymbolOrd.TheImpl as symbols
use Rattle.lalrpop_grammar_repr.specs.declared.production.Production.{Production}
use Rattle.lalrpop_grammar_repr.specs.declared.production.Symbol.{Symbol}
use Rattle.lalrpop_grammar_repr.specs.declared.production.Symbol.TheVariants as symbol
use Rattle.lalrpop_lr1_theory.specs.Productions as theory
use Rattle.lalrpop_lr1_theory.proofs.StepLemmas.{some_same}
use Rattle.lalrpop_lr1_first.specs.NumberedGrammars.{HasItemAt, IsNumberTable, table_productions}
use Rattle.lalrpop_lr1_first.specs.declared.numbered.Numbered.{Numbered}
use Rattle.lalrpop_lr1_first.specs.declared.place.NumberedRule.{NumberedRule}
use Rattle.lalrpop_lr1_core.proofs.SortedLemmas.{all_at}
use Rattle.lalrpop_lr1_core.proofs.ProductionViewLemmas.{same_production}

itself : (o : Ordering) → o ≡ ordering_reverse o → o ≡ Equal
itself Less e = let z : ⊥ = cc in absurd z
itself Equal e = refl
itself Greater e = let z : ⊥ = cc in absurd z

both_equal : (a b : Ordering) → a ≡ Equal → b ≡ Equal → ordering_then a b ≡ Equal
both_equal Less b e f = let z : ⊥ = cc in absurd z
both_equal Equal b e f = f
both_equal Greater b e f = let z : ⊥ = cc in absurd z

text_itself : (t : List ℕ) → slice_cmp nat_cmp t t ≡ Equal
text_itself t = itself (slice_cmp nat_cmp t t) (nat_list_cmp_total.antisymm t t)

number_itself : (n : ℕ) → nat_cmp n n ≡ Equal
number_itself n = itself (nat_cmp n n) (nat_cmp_total.antisymm n n)

literal_itself : (l : TerminalLiteral) → (literals.ghosts).cmp l l ≡ Equal
literal_itself (literal.Quoted s) = text_itself s
literal_itself (literal.Regex s) = text_itself s

terminal_itself : (t : TerminalString) → (terminals.ghosts).cmp t t ≡ Equal
terminal_itself (terminal.Literal l) = literal_itself l
terminal_itself (terminal.Bare s) = text_itself s
terminal_itself terminal.Error = refl

symbol_itself : (x : Symbol) → (symbols.ghosts).cmp x x ≡ Equal
symbol_itself (symbol.Nonterminal n) = text_itself n.0
symbol_itself (symbol.Terminal t) = terminal_itself t

side_itself : (xs : List Symbol) → slice_cmp (symbols.ghosts).cmp xs xs ≡ Equal
side_itself [] = refl
side_itself (x ∷ xs) =
    both_equal ((symbols.ghosts).cmp x x) (slice_cmp (symbols.ghosts).cmp xs xs) (symbol_itself x) (side_itself xs)

production_itself : (p : Production) → (productions.ghosts).cmp p p ≡ Equal
production_itself p =
    both_equal ((names.ghosts).cmp p.nonterminal p.nonterminal) _ (text_itself p.nonterminal.0)
    (both_equal (slice_cmp (symbols.ghosts).cmp p.symbols p.symbols) _ (side_itself p.symbols)
    (both_equal (nat_cmp p.action.0 p.action.0) _ (number_itself p.action.0)
    (both_equal (nat_cmp p.span.0 p.span.0) _ (number_itself p.span.0) (number_itself p.span.1))))

not_less : (p : Production) → (productions.ghosts).cmp p p ≡ Less → ⊥
not_less p e = let z : Equal ≡ Less = sym (production_itself p) ∙ e in let w : ⊥ = cc in w

once : (ps : List Production) → IsStrictlySortedBy (productions.ghosts).cmp ps → (i j : ℕ) (p : Production) →
    slice_get ps i ≡ Some p → slice_get ps j ≡ Some p → i ≡ j
unfolding IsStrictlySortedBy
once [] s i j p e f = let w : ⊥ = cc in absurd w
once (q ∷ ps) s zero zero p e f = refl
once (q ∷ ps) s zero (suc j) p e f =
    absurd (not_less p (subst (λ z. (productions.ghosts).cmp z p ≡ Less) (some_same q p e)
    (all_at (λ z. (productions.ghosts).cmp q z ≡ Less) ps j p s.0 f)))
once (q ∷ ps) s (suc i) zero p e f =
    absurd (not_less p (subst (λ z. (productions.ghosts).cmp z p ≡ Less) (some_same q p f)
    (all_at (λ z. (productions.ghosts).cmp q z ≡ Less) ps i p s.0 e)))
once (q ∷ ps) s (suc i) (suc j) p e f = ap suc (once ps s.1 i j p e f)

-- an item has one place
pub place_once : (table : Numbered) → IsNumberTable table → (i j : ℕ) (p : theory.Production) (d : ℕ) → HasItemAt table i p d →
    HasItemAt table j p d → i ≡ j
place_once table is i j p d h g =
    let one : h.production ≡ g.production = same_production h.production g.production (sym h.seen ∙ g.seen) in
    let number : h.number ≡ g.number = once (table_productions table) is.productions h.number g.number g.production
    (h.at_production ∙ ap Some one) g.at_production in
    let rule : h.rule ≡ g.rule = some_same h.rule g.rule (sym h.at_rule ∙ ap (slice_get table.rules.items) number ∙ g.at_rule) in
    let start : h.rule.start ≡ g.rule.start = ap (λ (r : NumberedRule). r.start) rule in
    omega (arith, start, h.place_is, g.place_is)
