-- Computed examples of where a call is written, and near misses.
use Rattle.std.proofs.Common.{◌≡◌, ℕ, ◌+◌, [], ◌∷◌, ap, sym, ◌∙◌, subst, refl, inl, inr, ◌⊎◌, arith}
use Rattle.std.specs.Prelude.{None, codes}
use Rattle.lalrpop_grammar_symbols.specs.Symbols.{Closed, Closeds, Op, Sym, Terminal, TextSpan, WrittenSymbol, syms}
use Rattle.lalrpop_grammar_language.specs.Among.{Among}
use Rattle.lalrpop_grammar_language.specs.Closing.{Binding, Scope}
use Rattle.lalrpop_grammar_language.specs.Enabled.{EnabledGrammar, enabled_grammar}
use Rattle.lalrpop_grammar_language.proofs.WrittenTreeLemmas.{alt, finds, grammar, id, lit, macro_of}
use Rattle.lalrpop_norm_theory.specs.CallPlaces.{CountedSymbol, IsInnermost, calls_at, symbols_within, place_of_symbol}

abbrev place : ℕ → TextSpan
place n = (n, n + 1)

-- M<T> = T
abbrev rules : EnabledGrammar
rules = enabled_grammar finds [] (grammar (macro_of "M" ("T" ∷ []) (alt (id "T" ∷ []) ∷ []) ∷ []))

abbrev scope : Binding → Scope
scope b = record { grammar = rules; binding = b; owner = codes "S"; level_at = λ k. None }

-- M<"b">
abbrev the_call : Closed
the_call = Closed.call (codes "M") (Closeds.more (Closed.terminal (Terminal.quoted (codes "b"))) Closeds.none) None

-- ("a" M<"b">)*, the repeat at 1, the group at 2 and the call at 3
abbrev called : WrittenSymbol
called = Sym.macro (place 3) (codes "M") (syms (lit "b" ∷ []))

abbrev in_repeat : WrittenSymbol
in_repeat = Sym.repeat (place 1) Op.star (Sym.expr (place 2) (syms (lit "a" ∷ called ∷ [])))

-- the place is that of the call itself
call_in_group : IsInnermost (scope []) (0, in_repeat) the_call (place 3)
call_in_group = record {
  symbol = (0, called);
  stands = inr (inr (inr (inl refl)));
  has_call = inl refl;
  innermost = λ z i c. i;
  place = refl;
}

-- the group has the call, but in a symbol inside it
group_refused : IsInnermost (scope []) (0, in_repeat) the_call (place 2) → ⊥
group_refused w = go w.symbol w.stands w.innermost w.place
  where
    go : (y : CountedSymbol) → ((0, in_repeat) ≡ y) ⊎ Among (symbols_within [] (codes "S") 0 in_repeat) y
        → ((z : CountedSymbol) → Among (symbols_within [] (codes "S") y.0 y.1) z → Among (calls_at (scope []) z) the_call → ⊥)
        → place_of_symbol y.1 ≡ place 2 → ⊥
    go y (inl e) none p = let wrong : 1 ≡ 2 = ap (λ (q : TextSpan). q.0) (ap (λ (v : CountedSymbol). place_of_symbol v.1) e ∙ p) in
        omega (arith, wrong)
    go y (inr (inl e)) none p =
        subst (λ (v : CountedSymbol). (z : CountedSymbol) → Among (symbols_within [] (codes "S") v.0 v.1) z
        → Among (calls_at (scope []) z) the_call → ⊥) (sym e) none (0, called) (inr (inl refl)) (inl refl)
    go y (inr (inr (inl e))) none p =
        let wrong : 0 ≡ 2 = ap (λ (q : TextSpan). q.0) (ap (λ (v : CountedSymbol). place_of_symbol v.1) e ∙ p) in omega (arith, wrong)
    go y (inr (inr (inr (inl e)))) none p =
        let wrong : 3 ≡ 2 = ap (λ (q : TextSpan). q.0) (ap (λ (v : CountedSymbol). place_of_symbol v.1) e ∙ p) in omega (arith, wrong)
    go y (inr (inr (inr (inr i)))) none p = i

-- U*, the repeat at 1 and the name at 2, where U stands for M<"b">
abbrev given : Binding
given = (codes "U", the_call) ∷ []

abbrev named : WrittenSymbol
named = Sym.repeat (place 1) Op.star (Sym.ambiguous_id (place 2) (codes "U"))

-- the place is that of the parameter's name
call_by_parameter : IsInnermost (scope given) (0, named) the_call (place 2)
call_by_parameter = record {
  symbol = (0, Sym.ambiguous_id (place 2) (codes "U"));
  stands = inr (inl refl);
  has_call = inl refl;
  innermost = λ z i c. i;
  place = refl;
}

-- and not that of the repeat
repeat_refused : IsInnermost (scope given) (0, named) the_call (place 1) → ⊥
repeat_refused w = go w.symbol w.stands w.innermost w.place
  where
    go : (y : CountedSymbol) → ((0, named) ≡ y) ⊎ Among (symbols_within given (codes "S") 0 named) y
        → ((z : CountedSymbol) → Among (symbols_within given (codes "S") y.0 y.1) z
        → Among (calls_at (scope given) z) the_call → ⊥)
        → place_of_symbol y.1 ≡ place 1 → ⊥
    go y (inl e) none p =
        subst (λ (v : CountedSymbol). (z : CountedSymbol) → Among (symbols_within given (codes "S") v.0 v.1) z
        → Among (calls_at (scope given) z) the_call → ⊥) (sym e) none (0, Sym.ambiguous_id (place 2) (codes "U"))
        (inl refl) (inl refl)
    go y (inr (inl e)) none p =
        let wrong : 2 ≡ 1 = ap (λ (q : TextSpan). q.0) (ap (λ (v : CountedSymbol). place_of_symbol v.1) e ∙ p) in omega (arith, wrong)
    go y (inr (inr i)) none p = i
