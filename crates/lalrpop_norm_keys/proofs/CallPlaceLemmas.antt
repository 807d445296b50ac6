-- The place that is found by walking over a symbol and over what it closes to is the innermost one; for the search for a place.
use Rattle.std.proofs.Common.{◌≡◌, ℕ, ◌+◌, arith, length, List, [], ◌∷◌, refl, ap, cond, sym}
use Rattle.std.proofs.Common.{◌∙◌, subst, inl, inr, ◌⊎◌}
use Rattle.std.specs.Prelude.{◌↔◌, IsTrue, Bool, true, false, Option, Some, None, map}
use Rattle.lalrpop_grammar_symbols.specs.Symbols.{Text, TextSpan, Closed, Sym, WrittenSymbol, syms}
use Rattle.lalrpop_grammar_symbols.specs.Views.{symbol_view}
use Rattle.lalrpop_grammar_symbols.specs.declared.symbol.ExprSymbol.{ExprSymbol}
use Rattle.lalrpop_grammar_symbols.specs.declared.symbol.MacroSymbol.{MacroSymbol}
use Rattle.lalrpop_grammar_symbols.specs.declared.symbol.Symbol.{Symbol}
use Rattle.lalrpop_grammar_symbols.specs.declared.symbol.SymbolKind.TheVariants as kinds
use Rattle.lalrpop_grammar_symbols.specs.declared.symbol.SymbolKind.TheViews.{out-ExprSymbol, out-Symbol}
use Rattle.lalrpop_grammar_symbols.specs.declared.span.Span.{Span}
use Rattle.lalrpop_grammar_language.specs.Among.{Among}
use Rattle.lalrpop_grammar_language.specs.Closing.{Binding, Scope, close, close_all, close_list, is_sound, occurrences, sound_or_faulty}
use Rattle.lalrpop_norm_theory.specs.Depth.{calls_in, calls_in_all}
use Rattle.lalrpop_grammar_language.proofs.StepLemmas.{among_right}
use Rattle.lalrpop_grammar_language.proofs.StepLemmas.{among_left}
use Rattle.lalrpop_grammar_language.proofs.OrderLemmas.{among_parts}
use Rattle.lalrpop_grammar_rules.specs.Views.{closed_step, closed_view, closeds}
use Rattle.lalrpop_grammar_rules.specs.declared.closed.closed_symbol.ClosedSymbol.{ClosedSymbol, fold-roll-ClosedSymbol}
use Rattle.lalrpop_grammar_rules.specs.declared.closed.closed_symbol.ClosedSymbol.TheOpen as layer
use Rattle.lalrpop_grammar_rules.specs.declared.closed.closed_symbol.ClosedSymbol.TheVariants as variant
use Rattle.lalrpop_norm_theory.specs.CallPlaces.{CountedSymbol, counted_symbols, symbols_of_row, symbols_within, place_of_symbol}
use Rattle.lalrpop_norm_keys.specs.PlaceSearch.{AreClosedAs, HasOwnPlace, IsClosedAs, IsFoundAmong, IsFoundIn, IsFoundInRow}
use Rattle.lalrpop_norm_keys.proofs.SymbolViewLemmas.{place_view, seen_group, seen_macro, seen_name}

-- a symbol in which no other stands
pub own_found : (w : WrittenSymbol) (c x : Closed) (r : Option Span)
    → ((b : Binding) (o : Text) (k : ℕ) → symbols_within b o k w ≡ []) → HasOwnPlace (place_of_symbol w) c x r
    → IsFoundIn w c x r
own_found w c x None leaf h = λ s k e i. h (subst (λ d. Among (calls_in d) x) e i)
own_found w c x (Some span) leaf h = λ s k e. record {
  symbol = (k, w);
  stands = inl refl;
  has_call = subst (λ d. Among (calls_in d) x) (sym e) h.0;
  innermost = λ z i j. subst (λ l. Among l z) (leaf s.binding s.owner k) i;
  place = h.1;
}

-- the symbols of a group close to the group's, one by one
row_closed : (s : Scope) (k : ℕ) (ws : List WrittenSymbol) (cs : List Closed) → close_all s k (syms ws) ≡ closeds cs
    → AreClosedAs s (λ c. true) k ws cs
row_closed s k [] [] e = tt
row_closed s k [] (c ∷ cs) e = cc
row_closed s k (w ∷ ws) [] e = cc
row_closed s k (w ∷ ws) (c ∷ cs) e =
    let first : close s k w ≡ c = cc in
    let others : close_all s (k + occurrences s.binding s.owner w) (syms ws) ≡ closeds cs = cc in
    (inl (refl, first), row_closed s (k + occurrences s.binding s.owner w) ws cs others)

-- those of an alternative do, but for those with a faulty part
pub side_closed : (s : Scope) (k : ℕ) (ws : List WrittenSymbol) → AreClosedAs s is_sound k ws (close_list s k ws)
side_closed s k [] = tt
side_closed s k (w ∷ ws) = (one (is_sound (close s k w)) refl, side_closed s (k + occurrences s.binding s.owner w) ws)
  where
    one : (b : Bool) → is_sound (close s k w) ≡ b → IsClosedAs s is_sound k w (sound_or_faulty (close s k w))
    one true e = inl (e, sym (ap (λ b. cond b (close s k w) Closed.faulty) e))
    one false e = inr (ap (λ b. cond b (close s k w) Closed.faulty) e)

-- what stands in one of several symbols stands in the row of them
in_row : (b : Binding) (o : Text) (k : ℕ) (ws : List WrittenSymbol) (z v : CountedSymbol) → Among (counted_symbols b o k ws) z
    → (z ≡ v) ⊎ Among (symbols_within b o z.0 z.1) v → Among (symbols_of_row b o k (syms ws)) v
in_row b o k [] z v i j = i
in_row b o k (w ∷ ws) z v (inl e) (inl f) = inl (cc)
in_row b o k (w ∷ ws) z v (inl e) (inr j) =
    inr (among_left (symbols_within b o k w) (symbols_of_row b o (k + occurrences b o w) (syms ws)) v
    (subst (λ (u : CountedSymbol). Among (symbols_within b o u.0 u.1) v) (sym e) j))
in_row b o k (w ∷ ws) z v (inr i) j =
    inr (among_right (symbols_within b o k w) (symbols_of_row b o (k + occurrences b o w) (syms ws)) v
    (in_row b o (k + occurrences b o w) ws z v i j))

-- a group
group_found : (p : TextSpan) (ws : List WrittenSymbol) (cs : List Closed) (x : Closed) (r : Option Span)
    → IsFoundAmong ws cs x r → IsFoundIn (Sym.expr p (syms ws)) (Closed.group (closeds cs)) x r
group_found p ws cs x None h = λ s k e i.
    let inner : close_all s k (syms ws) ≡ closeds cs = cc in
    h s (λ c. true) k (row_closed s k ws cs inner) (subst (λ l. Among (calls_in_all l) x) inner i)
group_found p ws cs x (Some span) h = λ s k e.
    let inner : close_all s k (syms ws) ≡ closeds cs = cc in
    let w = h s (λ c. true) k (row_closed s k ws cs inner) in
    let i = w.3 in
    record {
      symbol = i.symbol;
      stands = inr (in_row s.binding s.owner k ws w.0 i.symbol w.1 i.stands);
      has_call = i.has_call;
      innermost = i.innermost;
      place = i.place;
    }

-- the same of the program's symbols: a group, and a name or a call of a macro
pub group_place : (w : Symbol) (g : ExprSymbol) (c : ClosedSymbol) (inside : List ClosedSymbol) (ws : List Symbol)
    (cs : List ClosedSymbol) (x : Closed) (r : Option Span) → (out-Symbol w).kind ≡ kinds.Expr g → c ≡ variant.Group inside
    → ws ≡ (out-ExprSymbol g).symbols → cs ≡ inside → IsFoundAmong (map symbol_view ws) (map closed_view cs) x r
    → IsFoundIn (symbol_view w) (closed_view c) x r
group_place w g c inside ws cs x r e f ws_are cs_are h =
    let written = seen_group w g e ∙ ap (λ l. Sym.expr (place_view w) (syms (map symbol_view l))) (sym ws_are) in
    let closed : closed_view c ≡ Closed.group (closeds (map closed_view cs)) =
    ap closed_view f ∙ ap closed_view (sym (variant.rolls-Group inside))
    ∙ fold-roll-ClosedSymbol Closed closed_step (layer.Group inside)
    ∙ ap (λ l. Closed.group (closeds (map closed_view l))) (sym cs_are) in
    subst (λ d. IsFoundIn (symbol_view w) d x r) (sym closed)
    (subst (λ v. IsFoundIn v (Closed.group (closeds (map closed_view cs))) x r) (sym written)
    (group_found (place_view w) (map symbol_view ws) (map closed_view cs) x r h))

leaf_place : (w : Symbol) (v : WrittenSymbol) (c x : Closed) (r : Option Span) → symbol_view w ≡ v
    → ((b : Binding) (o : Text) (k : ℕ) → symbols_within b o k v ≡ []) → HasOwnPlace (place_of_symbol (symbol_view w)) c x r
    → IsFoundIn (symbol_view w) c x r
leaf_place w v c x r e leaf h =
    own_found (symbol_view w) c x r (λ b o k. ap (symbols_within b o k) e ∙ leaf b o k) h

-- no symbol stands inside a name: it is found at its own place where what it closes to has the call, and else nowhere
pub name_place : (w : Symbol) (n : Text) (c x : Closed) (r : Option Span) → (out-Symbol w).kind ≡ kinds.AmbiguousId n
    → HasOwnPlace (place_of_symbol (symbol_view w)) c x r → IsFoundIn (symbol_view w) c x r
name_place w n c x r e h = leaf_place w (Sym.ambiguous_id (place_view w) n) c x r (seen_name w n e) (λ b o k. refl) h

-- no symbol counts as inside a macro's call: it is found at its own place where that closes to one with the call
pub macro_place : (w : Symbol) (m : MacroSymbol) (c x : Closed) (r : Option Span) → (out-Symbol w).kind ≡ kinds.Macro m
    → HasOwnPlace (place_of_symbol (symbol_view w)) c x r → IsFoundIn (symbol_view w) c x r
macro_place w m c x r e h =
    let s = seen_macro w m e in leaf_place w (Sym.macro (place_view w) s.0 s.1) c x r s.2 (λ b o k. refl) h

-- where the one or the other symbols are at an end
pub row_closed_ended : (ws : List WrittenSymbol) (x : Closed) → IsFoundAmong ws [] x None
row_closed_ended ws x = λ s f k a i. i

pub row_ended : (cs : List Closed) (x : Closed) → IsFoundAmong [] cs x None
row_ended [] x = λ s f k a i. i
row_ended (c ∷ cs) x = λ s f k a i. a

-- the first of several symbols
pub row_here : (w : WrittenSymbol) (ws : List WrittenSymbol) (c : Closed) (cs : List Closed) (x : Closed) (span : Span)
    → Among (calls_in c) x → IsFoundIn w c x (Some span) → IsFoundAmong (w ∷ ws) (c ∷ cs) x (Some span)
row_here w ws c cs x span there h = λ s f k a. go s f k a.0
  where
    go : (s : Scope) (f : Closed → Bool) (k : ℕ) → IsClosedAs s f k w c → IsFoundInRow s f k (w ∷ ws) (c ∷ cs) x (Some span)
    go s f k (inl e) = ((k, w), inl refl, e.0, h s k e.1)
    go s f k (inr e) = absurd (subst (λ d. Among (calls_in d) x) e there)

-- one of the others
pub row_next : (w : WrittenSymbol) (ws : List WrittenSymbol) (c : Closed) (cs : List Closed) (x : Closed) (r : Option Span)
    → IsFoundIn w c x None → IsFoundAmong ws cs x r → IsFoundAmong (w ∷ ws) (c ∷ cs) x r
row_next w ws c cs x None h more = λ s f k a i. go s f k a (among_parts (calls_in c) (calls_in_all (closeds cs)) x i)
  where
    go : (s : Scope) (f : Closed → Bool) (k : ℕ) → AreClosedAs s f k (w ∷ ws) (c ∷ cs)
        → Among (calls_in c) x ⊎ Among (calls_in_all (closeds cs)) x → ⊥
    go s f k (inl e, a) (inl j) = h s k e.1 (subst (λ d. Among (calls_in d) x) (sym e.1) j)
    go s f k (inr e, a) (inl j) = subst (λ d. Among (calls_in d) x) e j
    go s f k (e, a) (inr j) = more s f (k + occurrences s.binding s.owner w) a j
row_next w ws c cs x (Some span) h more = λ s f k a.
    let v = more s f (k + occurrences s.binding s.owner w) a.1 in (v.0, inr v.1, v.2, v.3)

-- the call stands in symbols

abbrev HaveCall : Closed → List ClosedSymbol → Type 0
HaveCall x cs = Among (calls_in_all (closeds (map closed_view cs))) x

-- it is one of the first of those that are left
pub have_here : (x : Closed) (all left rest : List ClosedSymbol) (c : ClosedSymbol) → left ≡ c ∷ rest
    → Among (calls_in (closed_view c)) x → (HaveCall x all ↔ HaveCall x left) → IsTrue true ↔ HaveCall x all
have_here x all left rest c e i w = (
  λ t. w.1 (subst (HaveCall x) (sym e)
      (among_left (calls_in (closed_view c)) (calls_in_all (closeds (map closed_view rest))) x i)),
  λ h. refl,
)

-- it isn't, and so one of the others
pub have_next : (x : Closed) (all left rest : List ClosedSymbol) (c : ClosedSymbol) → left ≡ c ∷ rest
    → (Among (calls_in (closed_view c)) x → ⊥) → (HaveCall x all ↔ HaveCall x left) → HaveCall x all ↔ HaveCall x rest
have_next x all left rest c e out w = (
  λ h. go (among_parts (calls_in (closed_view c)) (calls_in_all (closeds (map closed_view rest))) x
      (subst (HaveCall x) e (w.0 h))),
  λ h. w.1 (subst (HaveCall x) (sym e)
      (among_right (calls_in (closed_view c)) (calls_in_all (closeds (map closed_view rest))) x h)),
)
  where
    go : Among (calls_in (closed_view c)) x ⊎ HaveCall x rest → HaveCall x rest
    go (inl i) = absurd (out i)
    go (inr h) = h

-- the same of the program's symbols

-- where no closed symbols are left, the call is found nowhere
pub closed_ended : (ws : List WrittenSymbol) (cs : List ClosedSymbol) (x : Closed) → length cs ≡ 0
    → IsFoundAmong ws (map closed_view cs) x None
closed_ended ws [] x e = row_closed_ended ws x
closed_ended ws (c ∷ cs) x e = let wrong : ⊥ = omega (arith, e) in absurd wrong

-- where no written symbols are left, the call is found nowhere
pub symbols_ended : (ss : List Symbol) (cs : List Closed) (x : Closed) → ss ≡ [] → IsFoundAmong (map symbol_view ss) cs x None
symbols_ended ss cs x e = subst (λ l. IsFoundAmong (map symbol_view l) cs x None) (sym e) (row_ended cs x)

-- a place that is found in the first symbol that is left is the place among all that are left
pub first_found : (w : Symbol) (left ws : List Symbol) (c : ClosedSymbol) (others cs : List ClosedSymbol) (x : Closed) (span : Span)
    → left ≡ w ∷ ws → others ≡ c ∷ cs → Among (calls_in (closed_view c)) x
    → IsFoundIn (symbol_view w) (closed_view c) x (Some span)
    → IsFoundAmong (map symbol_view left) (map closed_view others) x (Some span)
first_found w left ws c others cs x span e f there h =
    subst (λ l. IsFoundAmong (map symbol_view l) (map closed_view others) x (Some span)) (sym e)
    (subst (λ l. IsFoundAmong (map symbol_view (w ∷ ws)) (map closed_view l) x (Some span)) (sym f)
    (row_here (symbol_view w) (map symbol_view ws) (closed_view c) (map closed_view cs) x span there h))

-- where the first symbol that is left has no place, what is found in the others is found among all
pub others_found : (w : Symbol) (left ws : List Symbol) (c : ClosedSymbol) (others cs : List ClosedSymbol) (x : Closed)
    (r : Option Span) → left ≡ w ∷ ws → others ≡ c ∷ cs → IsFoundIn (symbol_view w) (closed_view c) x None
    → IsFoundAmong (map symbol_view ws) (map closed_view cs) x r
    → IsFoundAmong (map symbol_view left) (map closed_view others) x r
others_found w left ws c others cs x r e f none h =
    subst (λ l. IsFoundAmong (map symbol_view l) (map closed_view others) x r) (sym e)
    (subst (λ l. IsFoundAmong (map symbol_view (w ∷ ws)) (map closed_view l) x r) (sym f)
    (row_next (symbol_view w) (map symbol_view ws) (closed_view c) (map closed_view cs) x r none h))

-- a call in the first of the closed symbols is a call in them
pub there_first : (c : ClosedSymbol) (others cs : List ClosedSymbol) (x : Closed) → others ≡ c ∷ cs
    → Among (calls_in (closed_view c)) x → HaveCall x others
there_first c others cs x e i =
    subst (HaveCall x) (sym e) (among_left (calls_in (closed_view c)) (calls_in_all (closeds (map closed_view cs))) x i)

-- a call in the closed symbols behind the first is a call in all of them
pub there_later : (c : ClosedSymbol) (others cs : List ClosedSymbol) (x : Closed) → others ≡ c ∷ cs → HaveCall x cs
    → HaveCall x others
there_later c others cs x e i =
    subst (HaveCall x) (sym e) (among_right (calls_in (closed_view c)) (calls_in_all (closeds (map closed_view cs))) x i)
