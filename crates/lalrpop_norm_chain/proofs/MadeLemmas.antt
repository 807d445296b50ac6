-- What is made of symbols, alternatives and lists of productions, seen one by one; for the law of lowering in the chain.
use Rattle.std.proofs.Common.{◌≡◌, List, [], ◌∷◌, refl, ap, sym, ◌∙◌, subst, true, inl, inr}
use Rattle.std.specs.Prelude.{Option, Some, None, IsSomeAnd, is_some, ◌++◌, map, option_map}
use Rattle.lalrpop_grammar_symbols.specs.Symbols.{Text, TextSpan, Terminal, WrittenSymbol, Sym}
use Rattle.lalrpop_grammar_symbols.specs.Views.{span_view}
use Rattle.lalrpop_grammar_symbols.specs.declared.names.NonterminalString.{NonterminalString}
use Rattle.lalrpop_grammar.specs.Views.{attribute_view}
use Rattle.lalrpop_grammar.specs.WrittenGrammar.{Action, Alternative, Attr, Rule}
use Rattle.lalrpop_grammar_language.specs.Among.{Among}
use Rattle.lalrpop_grammar_language.specs.Expansion.{GrammarSymbol}
use Rattle.lalrpop_grammar_repr.specs.declared.action.ActionFnDefn.{ActionFnDefn}
use Rattle.lalrpop_grammar_repr.specs.declared.production.NonterminalData.{NonterminalData}
use Rattle.lalrpop_grammar_repr.specs.declared.production.Production.{Production}
use Rattle.lalrpop_grammar.specs.declared.types.type_repr.TypeRepr.{TypeRepr}
use Rattle.lalrpop_norm_theory.specs.Productions.{NamedProduction}
use Rattle.lalrpop_grammar_language.proofs.AmongLemmas.{flat_map_among}
use Rattle.lalrpop_grammar_language.proofs.AmongLemmas.{among_flat_map}
use Rattle.lalrpop_norm_tyinfer.specs.TerminalTypes.{inner_terminals}
use Rattle.lalrpop_norm_tyinfer.specs.TerminalTypes.{terminals_of_symbols}
use Rattle.lalrpop_norm_lower.specs.Lowered.{AreLoweredAlternatives, IsLoweredAlternative}
use Rattle.lalrpop_norm_lower.specs.Definitions.{definition_of, type_or_unit}
use Rattle.lalrpop_norm_lower.specs.LoweredSymbols.{lowered_side, lowered_symbol, named_production}
use Rattle.lalrpop_norm_lower.specs.LoweredSymbols.{named_productions}
use Rattle.lalrpop_norm_lower.specs.declared.lowering.Normalized.{Normalized}
use Rattle.lalrpop_norm_chain.specs.LoweredViews.{production_spans}

-- an option that holds something with the property holds a value that has it
pub some_there : {A : Type 0} (P : A → Type 0) (o : Option A) → IsSomeAnd o P → (x : A) × (o ≡ Some x) × P x
some_there P None h = absurd h
some_there P (Some x) h = (x, refl, h)

-- an option holds one value: two that it holds are equal
pub one_value : {A : Type 0} (x y : A) (o : Option A) → o ≡ Some x → o ≡ Some y → x ≡ y
one_value x y o e f = let same : Some x ≡ Some y = sym e ∙ f in cc

-- a terminal of symbols stands on their right side

terminal_in_symbol : (x : WrittenSymbol) (t : Terminal) → Among (inner_terminals x) t
    → Among (lowered_symbol x) (GrammarSymbol.terminal t)
terminal_in_symbol (Sym.terminal p u) t (inl e) = inl (ap (λ v. GrammarSymbol.terminal v) e)
terminal_in_symbol (Sym.terminal p u) t (inr i) = absurd i
terminal_in_symbol (Sym.choose p x) t i = terminal_in_symbol x t i
terminal_in_symbol (Sym.name p m n x) t i = terminal_in_symbol x t i
terminal_in_symbol (Sym.nonterminal p n) t i = absurd i
terminal_in_symbol (Sym.ambiguous_id p n) t i = absurd i
terminal_in_symbol (Sym.macro p n args) t i = absurd i
terminal_in_symbol (Sym.expr p xs) t i = absurd i
terminal_in_symbol (Sym.repeat p op x) t i = absurd i
terminal_in_symbol (Sym.lookahead p) t i = absurd i
terminal_in_symbol (Sym.lookbehind p) t i = absurd i
terminal_in_symbol (Sym.error p) t i = absurd i

-- each terminal of the symbols stands in the lowered right side
pub terminal_in_side : (xs : List WrittenSymbol) (t : Terminal) → Among (terminals_of_symbols xs) t
    → Among (lowered_side xs) (GrammarSymbol.terminal t)
terminal_in_side xs t i =
    let u = among_flat_map inner_terminals xs t i in
    flat_map_among lowered_symbol xs u.0 (GrammarSymbol.terminal t) u.1 (terminal_in_symbol u.0 t u.2)

-- each alternative has its production
pub alternative_made : (made : Normalized) (table : List (NonterminalString × TypeRepr)) (r : Rule) (as_ : List Alternative)
    (ps : List Production) → AreLoweredAlternatives made table r as_ ps → (a : Alternative) → Among as_ a
    → (p : Production) × Among ps p × IsLoweredAlternative made table r a p
alternative_made made table r [] ps h a i = absurd i
alternative_made made table r (b ∷ as_) [] h a i = absurd h
alternative_made made table r (b ∷ as_) (p ∷ ps) h a (inl e) =
    (p, inl refl, subst (λ (c : Alternative). IsLoweredAlternative made table r c p) e h.0)
alternative_made made table r (b ∷ as_) (p ∷ ps) h a (inr i) =
    let u = alternative_made made table r as_ ps h.1 a i in (u.0, inr u.1, u.2)

-- the definition gives the type that a table has
pub typed_definition : (o : Option TypeRepr) (a : Action) (d : Option ActionFnDefn) → is_some o ≡ true
    → d ≡ Some (definition_of (type_or_unit o) a) → IsSomeAnd o (λ t. d ≡ Some (definition_of t a))
typed_definition None a d e f = absurd (let wrong : ⊥ = cc in wrong)
typed_definition (Some t) a d e f = f

-- without where they stand, these are the productions

firsts_of : (ps : List Production) (l : List (NamedProduction × TextSpan))
    → map (λ (x : NamedProduction × TextSpan). x.0) (map (λ p. (named_production p, span_view p.span)) ps ++ l)
    ≡ map named_production ps ++ map (λ (x : NamedProduction × TextSpan). x.0) l
firsts_of [] l = refl
firsts_of (p ∷ ps) l = ap (λ (k : List NamedProduction). named_production p ∷ k) (firsts_of ps l)

-- the list of productions with spans has the grammar's productions, in their order
pub spans_are_each : (es : List (NonterminalString × NonterminalData))
    → map (λ (x : NamedProduction × TextSpan). x.0) (production_spans es) ≡ named_productions es
spans_are_each [] = refl
spans_are_each (e ∷ es) =
    firsts_of e.1.productions (production_spans es)
    ∙ ap (λ (k : List NamedProduction). map named_production e.1.productions ++ k) (spans_are_each es)

-- the list of nonterminals with places has the names of the nonterminals, in their order
pub places_are_each : (es : List (NonterminalString × NonterminalData))
    → map (λ (x : Text × TextSpan). x.0) (map (λ (e : NonterminalString × NonterminalData). (e.0.0, span_view e.1.span)) es)
    ≡ map (λ (e : NonterminalString × NonterminalData). e.0.0) es
places_are_each [] = refl
places_are_each (e ∷ es) = ap (λ (k : List Text). e.0.0 ∷ k) (places_are_each es)

-- and so has that of attributes
pub attributes_are_each : (es : List (NonterminalString × NonterminalData))
    → map (λ (x : Text × List Attr). x.0)
    (map (λ (e : NonterminalString × NonterminalData). (e.0.0, map attribute_view e.1.attributes)) es)
    ≡ map (λ (e : NonterminalString × NonterminalData). e.0.0) es
attributes_are_each [] = refl
attributes_are_each (e ∷ es) = ap (λ (k : List Text). e.0.0 ∷ k) (attributes_are_each es)

-- an option that holds a production with its span holds the production when the span is dropped
pub same_first : (o : Option (NamedProduction × TextSpan)) (p : NamedProduction) (s : TextSpan) → o ≡ Some (p, s)
    → option_map (λ (x : NamedProduction × TextSpan). x.0) o ≡ Some p
same_first o p s e = ap (option_map (λ (x : NamedProduction × TextSpan). x.0)) e
