-- Keys with places are made, and each repeat, group and lookaround that is made has a place; for the law of places.
use Rattle.std.proofs.Common.{◌≡◌, ℕ, zero, suc, List, [], ◌∷◌, refl, sym, subst, inl, inr}
use Rattle.std.specs.Prelude.{Option, Some, map}
use Rattle.lalrpop_grammar_symbols.specs.Symbols.{Text, TextSpan, Closed, Closeds, closed_list, syms}
use Rattle.lalrpop_grammar.specs.WrittenGrammar.{Origin}
use Rattle.lalrpop_grammar_language.specs.Among.{Among}
use Rattle.lalrpop_grammar_language.specs.Enabled.{Choice, EnabledGrammar, EnabledRule}
use Rattle.lalrpop_grammar_language.specs.Levels.{Rank, loosest}
use Rattle.lalrpop_grammar_language.specs.Closing.{right_side, scope_of}
use Rattle.lalrpop_grammar_language.specs.Admitting.{Fits, argument_list, bind, rank_level}
use Rattle.lalrpop_grammar_language.specs.Expansion.{GrammarSymbol, InExpansion, IsReachedIn, Nonterminal, Produces}
use Rattle.lalrpop_grammar_language.specs.Expansion.{RightSide, grammar_symbol, origin_with}
use Rattle.lalrpop_grammar_rules.specs.Views.{closeds}
use Rattle.lalrpop_norm_theory.specs.KeyTables.{keys_in, keys_in_all}
use Rattle.lalrpop_norm_theory.proofs.KeyTableLemmas.{reach_all, shape_makes, stands_trans_all}
use Rattle.lalrpop_norm_keys.specs.KeyPlaces.{IsKeyPlace, IsKeyPlaceIn, IsShapeKey}
use Rattle.lalrpop_norm_keys.proofs.KeyStandingLemmas.{listed_closeds, listed_met, part_of_side, row_met_stands, shape_no_call}

-- what has a place is made

-- a key that has a place in the grammar is in its expansion
pub placed_made : (g : EnabledGrammar) (x : Closed) (p : TextSpan) → IsKeyPlace g x p → InExpansion g (Nonterminal.closed x)
placed_made g x p (y, made, m) =
    reach_all g (closeds side) x gives (row_met_stands (syms m.choice.0.expr) (closeds side) (x, p) m.met)
  where
    side : List Closed
    side = right_side g m.rule (bind m.rule m.args) m.choice

    produced : Produces g (Nonterminal.closed (Closed.call m.name m.args m.level))
        (origin_with (argument_list g.spelled m.args) m.choice.0.origin) (map grammar_symbol side)
    produced = inl (record {
      rule = m.rule;
      choice = m.choice;
      fits = m.fits;
      level_is = m.level_is;
      origin_is = refl;
      side_is = refl;
    })

    called : InExpansion g (Nonterminal.closed (Closed.call m.name m.args m.level))
    called = subst (λ (c : Closed). InExpansion g (Nonterminal.closed c)) m.call_is made

    gives : (z : Closed) → Among (map grammar_symbol (closed_list (closeds side))) (GrammarSymbol.nonterminal (Nonterminal.closed z)) →
        InExpansion g (Nonterminal.closed z)
    gives z i = (
      suc called.0,
      (
        Nonterminal.closed (Closed.call m.name m.args m.level),
        origin_with (argument_list g.spelled m.args) m.choice.0.origin,
        map grammar_symbol side,
        called.1,
        produced,
        subst (λ (l : List Closed). Among (map grammar_symbol l) (GrammarSymbol.nonterminal (Nonterminal.closed z))) (listed_closeds side)
            i,
      ),
    )

-- The key stands on the right side of an alternative of the call y that may be chosen.
pub record StandsBeside (g : EnabledGrammar) (y x : Closed) : Type 0 where
  pub name : Text
  pub args : Closeds
  pub level : Option ℕ
  pub call_is : y ≡ Closed.call name args level
  pub rule : EnabledRule
  pub choice : Choice × Option Rank
  pub fits : Fits g name args rule choice
  pub level_is : rank_level choice.1 ≡ level
  pub stands : Among (keys_in_all (closeds (right_side g rule (bind rule args) choice))) x

-- so it is met there
pub beside_placed : (g : EnabledGrammar) (y x : Closed) → IsShapeKey x → StandsBeside g y x → (p : TextSpan) × IsKeyPlaceIn g y x p
beside_placed g y x shape s =
    let u = listed_met (scope_of g s.rule (bind s.rule s.args) s.choice.0 s.choice.1) 0 s.choice.0.expr x shape s.stands in (
      u.0,
      record {
        name = s.name;
        args = s.args;
        level = s.level;
        call_is = s.call_is;
        rule = s.rule;
        choice = s.choice;
        fits = s.fits;
        level_is = s.level_is;
        met = u.1;
      },
    )

-- what stands in a key that stands there stands there too
inside_beside : (g : EnabledGrammar) (y z x : Closed) → StandsBeside g y z → Among (keys_in z) x → StandsBeside g y x
inside_beside g y z x s i = record {
  name = s.name;
  args = s.args;
  level = s.level;
  call_is = s.call_is;
  rule = s.rule;
  choice = s.choice;
  fits = s.fits;
  level_is = s.level_is;
  stands = stands_trans_all (closeds (right_side g s.rule (bind s.rule s.args) s.choice)) z x s.stands i;
}

-- what is made stands in a rule or a call that is made

abbrev IsHeld : EnabledGrammar → Closed → Type 0
IsHeld g x = (y : Closed) × InExpansion g (Nonterminal.closed y) × StandsBeside g y x

-- a call alone on a right side is no repeat, group or lookaround
no_call_alone : (x : Closed) (n : Text) (args : Closeds) (level : Option ℕ) → IsShapeKey x →
    Among (GrammarSymbol.nonterminal (Nonterminal.closed (Closed.call n args level)) ∷ [])
    (GrammarSymbol.nonterminal (Nonterminal.closed x)) → ⊥
no_call_alone x n args level shape (inl e) =
    let same : Closed.call n args level ≡ x = cc in subst IsShapeKey (sym same) shape
no_call_alone x n args level shape (inr i) = i

module _ (g : EnabledGrammar) (n : ℕ) (again : (v : Closed) → IsShapeKey v → IsReachedIn g n (Nonterminal.closed v) → IsHeld g v)
    (x : Closed) (shape : IsShapeKey x) (o : Origin) (side : RightSide)
    (i : Among side (GrammarSymbol.nonterminal (Nonterminal.closed x))) where
  of_shape : (v : Closed) → IsShapeKey v → Produces g (Nonterminal.closed v) o side → IsReachedIn g n (Nonterminal.closed v) →
      IsHeld g x
  of_shape v s m r =
      let u = again v s r in (u.0, u.1, inside_beside g u.0 v x u.2 (shape_makes g v x o side (shape_no_call v s) m i))

  of_symbol : (v : Closed) → Produces g (Nonterminal.closed v) o side → IsReachedIn g n (Nonterminal.closed v) → IsHeld g x
  of_symbol (Closed.call a args level) (inl b) r = (
    Closed.call a args level,
    (n, r),
    record {
      name = a;
      args = args;
      level = level;
      call_is = refl;
      rule = b.rule;
      choice = b.choice;
      fits = b.fits;
      level_is = b.level_is;
      stands = part_of_side (right_side g b.rule (bind b.rule args) b.choice) x
          (subst (λ l. Among l (GrammarSymbol.nonterminal (Nonterminal.closed x))) b.side_is i);
    },
  )
  of_symbol (Closed.call a args level) (inr b) r =
      absurd (no_call_alone x a args (Some b.to) shape
      (subst (λ l. Among l (GrammarSymbol.nonterminal (Nonterminal.closed x))) b.side_is i))
  of_symbol (Closed.repeat op v) m r = of_shape (Closed.repeat op v) tt m r
  of_symbol (Closed.group vs) m r = of_shape (Closed.group vs) tt m r
  of_symbol Closed.lookahead m r = of_shape Closed.lookahead tt m r
  of_symbol Closed.lookbehind m r = of_shape Closed.lookbehind tt m r
  of_symbol (Closed.terminal t) m r = absurd m
  of_symbol (Closed.choose v) m r = absurd m
  of_symbol (Closed.name a t v) m r = absurd m
  of_symbol Closed.faulty m r = absurd m

reached_held : (g : EnabledGrammar) (n : ℕ) (x : Closed) → IsShapeKey x → IsReachedIn g n (Nonterminal.closed x) → IsHeld g x
reached_held g zero x shape (inl (m, side, e, k)) = cc
reached_held g zero x shape (inr (r, level, i, p, l, e)) =
    let same : x ≡ Closed.call r.name Closeds.none level = cc in absurd (subst IsShapeKey same shape)
reached_held g (suc n) x shape (Nonterminal.start a, o, side, r, m, i) =
    absurd (no_call_alone x a Closeds.none (loosest m.0) shape
    (subst (λ l. Among l (GrammarSymbol.nonterminal (Nonterminal.closed x))) m.5 i))
reached_held g (suc n) x shape (Nonterminal.closed z, o, side, r, m, i) =
    of_symbol g n (λ v s q. reached_held g n v s q) x shape o side i z m r

-- a repeat, a group or a lookaround of the expansion has a place in the grammar
pub made_placed : (g : EnabledGrammar) (x : Closed) → IsShapeKey x → InExpansion g (Nonterminal.closed x) →
    (p : TextSpan) × IsKeyPlace g x p
made_placed g x shape made =
    let u = reached_held g made.0 x shape made.1 in
    let v = beside_placed g u.0 x shape u.2 in (v.0, (u.0, u.1, v.1))
