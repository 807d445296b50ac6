-- The innermost symbol of an alternative goes back to that of another, where symbols do; for the laws of places.
use Rattle.std.proofs.Common.{◌≡◌, refl, ap, sym, ◌∙◌, subst, inl, inr, ◌⊎◌}
use Rattle.std.specs.Prelude.{Option, map}
use Rattle.lalrpop_grammar_symbols.specs.Symbols.{TextSpan, Closed}
use Rattle.lalrpop_grammar_language.specs.Among.{Among}
use Rattle.lalrpop_grammar_language.specs.Enabled.{EnabledGrammar, EnabledRule, Choice}
use Rattle.lalrpop_grammar_language.specs.Levels.{Rank}
use Rattle.lalrpop_grammar_language.specs.Closing.{Binding, Scope, close, is_sound, scope_of}
use Rattle.lalrpop_grammar_language.proofs.PlaceLemmas.{among_map}
use Rattle.lalrpop_norm_theory.specs.Depth.{calls_in}
use Rattle.lalrpop_grammar_language.proofs.AmongLemmas.{map_among}
use Rattle.lalrpop_norm_theory.specs.CallPlaces.{CountedSymbol, IsInnermost, IsPlaceInSide, calls_at, counted_symbols, place_of_symbol}
use Rattle.lalrpop_norm_theory.specs.CallPlaces.{symbols_within}

-- Symbols of one scope are related to those of another: written at one place, closed alike up to names of calls, and with
-- related symbols inside.
pub record GoesBack (s t : Scope) (to : Closed → Closed) (Related : CountedSymbol → CountedSymbol → Type 0) : Type 0 where
  pub placed : (z v : CountedSymbol) → Related z v → place_of_symbol v.1 ≡ place_of_symbol z.1
  pub closed : (z v : CountedSymbol) → Related z v → close t v.0 v.1 ≡ to (close s z.0 z.1)
  pub inside : (z v : CountedSymbol) → Related z v → (u : CountedSymbol) →
      Among (symbols_within s.binding s.owner z.0 z.1) u →
      (q : CountedSymbol) × Among (symbols_within t.binding t.owner v.0 v.1) q × Related u q
  pub behind : (z v : CountedSymbol) → Related z v → (q : CountedSymbol) →
      Among (symbols_within t.binding t.owner v.0 v.1) q →
      (u : CountedSymbol) × Among (symbols_within s.binding s.owner z.0 z.1) u × Related u q
  pub calls : (c : Closed) → calls_in (to c) ≡ map to (calls_in c)

module _ (s t : Scope) (to : Closed → Closed) (Related : CountedSymbol → CountedSymbol → Type 0)
    (back : GoesBack s t to Related) where
  same_calls : (u q : CountedSymbol) → Related u q → calls_at t q ≡ map to (calls_at s u)
  same_calls u q r = ap calls_in (back.closed u q r) ∙ back.calls (close s u.0 u.1)

  -- the symbol that has a call there is related to one that has a call here
  pub innermost_back : (z v : CountedSymbol) (y : Closed) (p : TextSpan) → Related z v → IsInnermost t v y p →
      (x : Closed) × (y ≡ to x) × IsInnermost s z x p
  innermost_back z v y p r i = of_symbol (found i.stands)
    where
      found : (v ≡ i.symbol) ⊎ Among (symbols_within t.binding t.owner v.0 v.1) i.symbol →
          (u : CountedSymbol) × ((z ≡ u) ⊎ Among (symbols_within s.binding s.owner z.0 z.1) u) × Related u i.symbol
      found (inl e) = (z, inl refl, subst (λ (q : CountedSymbol). Related z q) e r)
      found (inr h) = let u = back.behind z v r i.symbol h in (u.0, inr u.1, u.2)

      of_symbol : (u : CountedSymbol) × ((z ≡ u) ⊎ Among (symbols_within s.binding s.owner z.0 z.1) u) × Related u i.symbol →
          (x : Closed) × (y ≡ to x) × IsInnermost s z x p
      of_symbol (u, stands, k) =
          let c = among_map to (calls_at s u) y (subst (λ l. Among l y) (same_calls u i.symbol k) i.has_call) in (
            c.0,
            sym c.2,
            record {
              symbol = u;
              stands = stands;
              has_call = c.1;
              innermost = λ q j h.
                  let n = back.inside u i.symbol k q j in
                  i.innermost n.0 n.1 (subst (λ l. Among l y) (sym (same_calls q n.0 n.2))
                  (subst (λ x. Among (map to (calls_at s q)) x) c.2 (map_among to (calls_at s q) c.0 h)));
              place = sym (back.placed u i.symbol k) ∙ i.place;
            },
          )

-- and so goes the place in an alternative, where its symbols are related to those here
pub side_back : (g h : EnabledGrammar) (r q : EnabledRule) (b e : Binding) (c d : Choice × Option Rank) (to : Closed → Closed)
    (Related : CountedSymbol → CountedSymbol → Type 0) → GoesBack (scope_of g r b c.0 c.1) (scope_of h q e d.0 d.1) to Related →
    ((x : Closed) → is_sound (to x) ≡ is_sound x) →
    ((v : CountedSymbol) → Among (counted_symbols e q.name 0 d.0.expr) v →
    (z : CountedSymbol) × Among (counted_symbols b r.name 0 c.0.expr) z × Related z v) →
    (y : Closed) (p : TextSpan) → IsPlaceInSide h q e d y p → (x : Closed) × (y ≡ to x) × IsPlaceInSide g r b c x p
side_back g h r q b e c d to Related back sound tops y p i =
    let z = tops i.top i.among in
    let s = scope_of g r b c.0 c.1 in
    let t = scope_of h q e d.0 d.1 in
    let u = innermost_back s t to Related back z.0 i.top y p z.2 i.innermost in (
      u.0,
      u.1,
      record {
        top = z.0;
        among = z.1;
        sound = sym (sound (close s z.0.0 z.0.1)) ∙ ap is_sound (sym (back.closed z.0 i.top z.2)) ∙ i.sound;
        innermost = u.2;
      },
    )
