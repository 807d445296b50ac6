-- What has a place in a call occurs there; for the law of places and for depths.
use Rattle.std.proofs.Common.{◌≡◌, ℕ, zero, suc, ◌+◌, List, [], ◌∷◌, ◌++◌, refl, ap, sym, ◌∙◌, subst, cond}
use Rattle.std.proofs.Common.{inl, inr, ◌⊎◌, true, length}
use Rattle.std.specs.Prelude.{Some, ◌≢◌, map}
use Rattle.lalrpop_grammar_symbols.specs.Symbols.{Text, TextSpan, Syms, Sym, WrittenSymbol, Terminal, Closed, Closeds, closed_list}
use Rattle.lalrpop_grammar.specs.WrittenGrammar.{Grammar}
use Rattle.lalrpop_grammar_language.specs.Among.{Among}
use Rattle.lalrpop_grammar_language.specs.Enabled.{EnabledGrammar}
use Rattle.lalrpop_grammar_language.specs.Closing.{Scope, close, close_all, close_list, is_sound, occurrences, right_side, scope_of}
use Rattle.lalrpop_grammar_language.specs.Admitting.{argument_list, bind}
use Rattle.lalrpop_grammar_language.specs.Expansion.{GrammarSymbol, Nonterminal, grammar_symbol, origin_with, symbol_of_terminal}
use Rattle.lalrpop_grammar.specs.WrittenGrammar.{Origin}
use Rattle.lalrpop_norm_theory.specs.Depth.{CallOccursIn, HasCallChain, calls_in, calls_in_all, calls_in_grammar_symbol}
use Rattle.lalrpop_grammar_language.proofs.AmongLemmas.{map_among}
use Rattle.lalrpop_grammar_language.proofs.StepLemmas.{among_right}
use Rattle.lalrpop_grammar_language.proofs.StepLemmas.{among_left}
use Rattle.lalrpop_grammar_language.proofs.OrderLemmas.{among_parts}
use Rattle.lalrpop_norm_theory.specs.CallPlaces.{CountedSymbol, IsPlaceOfCall, calls_at, counted_symbols, symbols_of_row}
use Rattle.lalrpop_norm_theory.specs.CallPlaces.{symbols_within}
use Rattle.lalrpop_norm_theory.specs.WrittenPlaces.{IsPassDownAt, IsWrittenIn, IsWrittenBelow}

-- calls in a symbol of a right side

pub calls_of_terminal : (t : Terminal) → calls_in_grammar_symbol (symbol_of_terminal t) ≡ []
calls_of_terminal (Terminal.quoted t) = refl
calls_of_terminal (Terminal.regex t) = refl
calls_of_terminal (Terminal.bare n) = refl
calls_of_terminal Terminal.error = refl

pub calls_of_symbol : (x : Closed) → calls_in_grammar_symbol (grammar_symbol x) ≡ calls_in x
calls_of_symbol (Closed.terminal t) = calls_of_terminal t
calls_of_symbol (Closed.call n args level) = refl
calls_of_symbol (Closed.repeat op x) = refl
calls_of_symbol (Closed.group xs) = refl
calls_of_symbol (Closed.choose x) = calls_of_symbol x
calls_of_symbol (Closed.name m n x) = calls_of_symbol x
calls_of_symbol Closed.lookahead = refl
calls_of_symbol Closed.lookbehind = refl
calls_of_symbol Closed.faulty = refl

-- a call of a symbol inside is one of the symbol

module _ (s : Scope) (x : Closed) where
  one_of : {A B : Type 0} (l m : List Closed) → A ⊎ B → (A → Among l x) → (B → Among m x) → Among (l ++ m) x
  one_of l m (inl a) f g = among_left l m x (f a)
  one_of l m (inr b) f g = among_right l m x (g b)

  mutual
    within_has : (k : ℕ) (w : WrittenSymbol) (z : CountedSymbol) → Among (symbols_within s.binding s.owner k w) z →
        Among (calls_at s z) x → Among (calls_in (close s k w)) x
    within_has k (Sym.expr p xs) z i c = row_has k xs z i c
    within_has k (Sym.repeat p op w) z (inl e) c = subst (λ (u : CountedSymbol). Among (calls_at s u) x) (sym e) c
    within_has k (Sym.repeat p op w) z (inr i) c = within_has k w z i c
    within_has k (Sym.choose p w) z (inl e) c = subst (λ (u : CountedSymbol). Among (calls_at s u) x) (sym e) c
    within_has k (Sym.choose p w) z (inr i) c = within_has k w z i c
    within_has k (Sym.name p m n w) z (inl e) c = subst (λ (u : CountedSymbol). Among (calls_at s u) x) (sym e) c
    within_has k (Sym.name p m n w) z (inr i) c = within_has k w z i c
    within_has k (Sym.ambiguous_id p n) z i c = absurd i
    within_has k (Sym.nonterminal p n) z i c = absurd i
    within_has k (Sym.terminal p t) z i c = absurd i
    within_has k (Sym.macro p n args) z i c = absurd i
    within_has k (Sym.lookahead p) z i c = absurd i
    within_has k (Sym.lookbehind p) z i c = absurd i
    within_has k (Sym.error p) z i c = absurd i

    row_has : (k : ℕ) (ws : Syms TextSpan) (z : CountedSymbol) → Among (symbols_of_row s.binding s.owner k ws) z →
        Among (calls_at s z) x → Among (calls_in_all (close_all s k ws)) x
    row_has k Syms.none z i c = absurd i
    row_has k (Syms.more w ws) z (inl e) c =
        among_left (calls_in (close s k w)) (calls_in_all (close_all s (k + occurrences s.binding s.owner w) ws)) x
        (subst (λ (u : CountedSymbol). Among (calls_at s u) x) (sym e) c)
    row_has k (Syms.more w ws) z (inr i) c =
        let after = k + occurrences s.binding s.owner w in
        one_of (calls_in (close s k w)) (calls_in_all (close_all s after ws))
        (among_parts (symbols_within s.binding s.owner k w) (symbols_of_row s.binding s.owner after ws) z i)
        (λ m. within_has k w z m c) (λ m. row_has after ws z m c)

-- a symbol of an alternative, no part of which is faulty, stands on the right side
top_listed : (s : Scope) (k : ℕ) (ws : List WrittenSymbol) (z : CountedSymbol) → Among (counted_symbols s.binding s.owner k ws) z →
    is_sound (close s z.0 z.1) ≡ true → Among (close_list s k ws) (close s z.0 z.1)
top_listed s k [] z i e = absurd i
top_listed s k (w ∷ ws) z (inl same) e =
    let sound : is_sound (close s k w) ≡ true = subst (λ (u : CountedSymbol). is_sound (close s u.0 u.1) ≡ true) (sym same) e in
    inl (ap (λ b. cond b (close s k w) Closed.faulty) sound ∙ ap (λ (u : CountedSymbol). close s u.0 u.1) same)
top_listed s k (w ∷ ws) z (inr i) e = inr (top_listed s (k + occurrences s.binding s.owner w) ws z i e)

-- what has a place in a call occurs in it
place_occurs : (g : EnabledGrammar) (y x : Closed) (p : TextSpan) → IsPlaceOfCall g y x p → CallOccursIn g y x
place_occurs g y x p m = subst (λ (z : Closed). CallOccursIn g z x) (sym m.call_is) (record {
  origin = origin_with (argument_list g.spelled m.args) m.choice.0.origin;
  side = map grammar_symbol side;
  produced = inl (record {
    rule = m.rule;
    choice = m.choice;
    fits = m.fits;
    level_is = m.level_is;
    origin_is = refl;
    side_is = refl;
  });
  symbol = grammar_symbol closed;
  in_side = map_among grammar_symbol side closed (top_listed s 0 m.choice.0.expr top m.place.among m.place.sound);
  call_is = subst (λ l. Among l x) (sym (calls_of_symbol closed)) (has m.place.innermost.stands);
})
  where
    s : Scope
    s = scope_of g m.rule (bind m.rule m.args) m.choice.0 m.choice.1

    side : List Closed
    side = right_side g m.rule (bind m.rule m.args) m.choice

    top : CountedSymbol
    top = m.place.top

    closed : Closed
    closed = close s top.0 top.1

    has : (top ≡ m.place.innermost.symbol) ⊎ Among (symbols_within s.binding s.owner top.0 top.1) m.place.innermost.symbol →
        Among (calls_in closed) x
    has (inl e) = subst (λ (u : CountedSymbol). Among (calls_at s u) x) (sym e) m.place.innermost.has_call
    has (inr i) = within_has s x top.0 top.1 m.place.innermost.symbol i m.place.innermost.has_call

-- and so does what a macro passes down to
pass_occurs : (g : EnabledGrammar) (d : Grammar) (y x : Closed) (p : TextSpan) → IsPassDownAt g d y x p → CallOccursIn g y x
pass_occurs g d y x p m = subst (λ (z : Closed). CallOccursIn g z x) (sym m.from_is) (record {
  origin = Origin.pass_down;
  side = GrammarSymbol.nonterminal (Nonterminal.closed target) ∷ [];
  produced = inr (record {
    rule = m.rule;
    is_rule = m.is_rule;
    arguments = m.arguments;
    from = m.from;
    to = m.to;
    from_is = refl;
    to_is = m.passes;
    origin_is = refl;
    side_is = refl;
  });
  symbol = GrammarSymbol.nonterminal (Nonterminal.closed target);
  in_side = inl refl;
  call_is = has m.args m.rule.parameters m.arguments m.is_macro m.to_is;
})
  where
    target : Closed
    target = Closed.call m.name m.args (Some m.to)

    has : (args : Closeds) (ps : List Text) → length (closed_list args) ≡ length ps → ps ≢ [] →
        x ≡ Closed.call m.name args (Some m.to) → Among (calls_in (Closed.call m.name args (Some m.to))) x
    has Closeds.none [] many macro e = absurd (macro refl)
    has Closeds.none (q ∷ ps) many macro e = cc
    has (Closeds.more a rest) ps many macro e = inl (sym e)

pub written_occurs : (g : EnabledGrammar) (d : Grammar) (y x : Closed) (p : TextSpan) → IsWrittenIn g d y x p → CallOccursIn g y x
written_occurs g d y x p (inl m) = place_occurs g y x p m
written_occurs g d y x p (inr m) = pass_occurs g d y x p m

-- so a chain of one call more leads to it
pub written_made : (g : EnabledGrammar) (d : Grammar) (depth : ℕ) (x : Closed) (p : TextSpan) → IsWrittenBelow g d depth x p →
    HasCallChain g (suc depth) x
written_made g d zero x p (y, made, place) = (y, made, written_occurs g d y x p place)
written_made g d (suc k) x p (y, made, place) = (y, made, written_occurs g d y x p place)
