-- Keys that are put behind others are met in the calls that were walked, and all that stand there are put; for the law of spans.
use Rattle.std.proofs.Common.{◌≡◌, ℕ, List, [], ◌∷◌, refl, ap, sym, ◌∙◌, subst, inl, inr, ◌⊎◌}
use Rattle.std.specs.Prelude.{Option, Some, None, is_some}
use Rattle.lalrpop_grammar_symbols.specs.Symbols.{Text, Closed, Closeds}
use Rattle.lalrpop_grammar_language.specs.Among.{Among}
use Rattle.lalrpop_grammar_language.specs.Enabled.{Choice, EnabledGrammar, EnabledRule, IsRule}
use Rattle.lalrpop_grammar_language.specs.Levels.{Rank, ranked_choices}
use Rattle.lalrpop_grammar_language.specs.Closing.{Binding, right_side}
use Rattle.lalrpop_grammar_language.specs.Conditions.{Holds}
use Rattle.lalrpop_grammar_language.specs.Admitting.{bind, rank_level}
use Rattle.lalrpop_grammar_language.specs.Expansion.{GrammarSymbol, Nonterminal, Produces, RightSide, grammar_symbol}
use Rattle.lalrpop_grammar_language.proofs.PlaceLemmas.{among_map}
use Rattle.lalrpop_norm_theory.specs.Premises.{HasNoLevels}
use Rattle.lalrpop_grammar_language.proofs.StepLemmas.{among_right}
use Rattle.lalrpop_grammar_language.proofs.StepLemmas.{among_left}
use Rattle.lalrpop_grammar_language.proofs.OrderLemmas.{among_parts}
use Rattle.lalrpop_norm_theory.proofs.ExpansionListLemmas.{rule_there}
use Rattle.lalrpop_norm_theory.proofs.LevelLemmas.{no_rank}
use Rattle.lalrpop_norm_theory.specs.KeyTables.{IsNoCall, KeyStandsIn}
use Rattle.lalrpop_norm_keys.proofs.SymbolLemmas.{key_among, same_keys}
use Rattle.lalrpop_norm_keys.specs.KeyPlaces.{IsKeyPlaceIn, IsShapeKey, keys_met_in_side}
use Rattle.lalrpop_norm_keys.specs.MetKeys.{MetKey}
use Rattle.lalrpop_norm_keys.proofs.MadeKeyLemmas.{StandsBeside}
use Rattle.lalrpop_norm_keys.specs.GrammarPlaces.{IsCalledIn, PutsMet, PutsMetInCall, PutsMetInCalls, PutsMetInChoices}

module _ (g : EnabledGrammar) (r : EnabledRule) (b : Binding) where
  -- an alternative whose condition holds, beside which the key is met
  abbrev OfChoices : List (Choice × Option Rank) → MetKey → Type 0
  OfChoices cs m = (c : Choice × Option Rank) × Among cs c × Holds g b c.0.condition × Among (keys_met_in_side g r b c) m

  -- what is put is of one
  of_choices : (cs : List (Choice × Option Rank)) (old new : List MetKey) → PutsMetInChoices g r b cs old new → (m : MetKey)
      → Among new m → Among old m ⊎ OfChoices cs m
  of_choices [] old new e m i = inl (subst (λ (l : List MetKey). Among l m) e i)
  of_choices (c ∷ cs) old new (next, put, w) m i = later (of_choices cs next new w m i)
    where
      here : Holds g b c.0.condition → Among old m ⊎ Among (keys_met_in_side g r b c) m → Among old m ⊎ OfChoices (c ∷ cs) m
      here h (inl j) = inl j
      here h (inr j) = inr (c, inl refl, h, j)

      of_next : PutsMet g r b c old next → Among next m → Among old m ⊎ OfChoices (c ∷ cs) m
      of_next (inl s) j = here s.0 (among_parts old (keys_met_in_side g r b c) m (subst (λ (l : List MetKey). Among l m) s.1 j))
      of_next (inr s) j = inl (subst (λ (l : List MetKey). Among l m) s.1 j)

      later : Among next m ⊎ OfChoices cs m → Among old m ⊎ OfChoices (c ∷ cs) m
      later (inl j) = of_next put j
      later (inr s) = inr (s.0, inr s.1, s.2, s.3)

  -- and all of them are put
  all_of_choices : (cs : List (Choice × Option Rank)) (old new : List MetKey) → PutsMetInChoices g r b cs old new → (m : MetKey)
      → Among old m ⊎ OfChoices cs m → Among new m
  all_of_choices [] old new e m (inl i) = subst (λ (l : List MetKey). Among l m) (sym e) i
  all_of_choices [] old new e m (inr s) = absurd s.1
  all_of_choices (c ∷ cs) old new (next, put, w) m h = all_of_choices cs next new w m (first h)
    where
      kept_one : PutsMet g r b c old next → Among old m → Among next m
      kept_one (inl s) i = subst (λ (l : List MetKey). Among l m) (sym s.1) (among_left old (keys_met_in_side g r b c) m i)
      kept_one (inr s) i = subst (λ (l : List MetKey). Among l m) (sym s.1) i

      put_one : PutsMet g r b c old next → Holds g b c.0.condition → Among (keys_met_in_side g r b c) m → Among next m
      put_one (inl s) held i = subst (λ (l : List MetKey). Among l m) (sym s.1) (among_right old (keys_met_in_side g r b c) m i)
      put_one (inr s) held i = absurd (s.0 held)

      of_side : (q : Choice × Option Rank) → (c ≡ q) ⊎ Among cs q → Holds g b q.0.condition → Among (keys_met_in_side g r b q) m
          → Among next m ⊎ OfChoices cs m
      of_side q (inl e) held i =
          inl (put_one put (subst (λ (z : Choice × Option Rank). Holds g b z.0.condition) (sym e) held)
          (subst (λ (z : Choice × Option Rank). Among (keys_met_in_side g r b z) m) (sym e) i))
      of_side q (inr j) held i = inr (q, j, held, i)

      first : Among old m ⊎ OfChoices (c ∷ cs) m → Among next m ⊎ OfChoices cs m
      first (inl i) = inl (kept_one put i)
      first (inr s) = of_side s.0 s.1 s.2 s.3

-- a name is one rule's
one_rule : (g : EnabledGrammar) (n : Text) (r q : EnabledRule) → IsRule g n r → IsRule g n q → r ≡ q
one_rule g n r q i j = let same : r ∷ [] ≡ q ∷ [] = sym i ∙ j in cc

module _ (g : EnabledGrammar) (flat : HasNoLevels g) where
  no_rank_of : (n : Text) (r : EnabledRule) → IsRule g n r → (c : Choice × Option Rank) → Among (ranked_choices r) c → c.1 ≡ None
  no_rank_of n r i c j = no_rank r c (flat r (rule_there g n r i).0) j

  -- a key that is put is met in the call
  in_call : (y : Closed) (old new : List MetKey) → PutsMetInCall g y old new → (m : MetKey) → Among new m
      → Among old m ⊎ IsKeyPlaceIn g y m.0 m.1
  in_call y old new (PutsMetInCall.uncalled none e) m i = inl (subst (λ (l : List MetKey). Among l m) e i)
  in_call y old new (PutsMetInCall.called args r h w) m i = go (of_choices g r (bind r args) (ranked_choices r) old new w m i)
    where
      go : Among old m ⊎ OfChoices g r (bind r args) (ranked_choices r) m → Among old m ⊎ IsKeyPlaceIn g y m.0 m.1
      go (inl j) = inl j
      go (inr s) =
          let none : (s.0).1 ≡ None = no_rank_of h.name r h.is_rule s.0 s.1 in
          inr (record {
            name = h.name;
            args = args;
            level = None;
            call_is = h.call_is;
            rule = r;
            choice = s.0;
            fits = record {
              rule = h.is_rule;
              arguments = h.arguments;
              written = s.1;
              leveled = ap (λ (k : Option Rank). is_some k) none ∙ sym (flat r (rule_there g h.name r h.is_rule).0);
              holds = s.2;
            };
            level_is = ap rank_level none;
            met = s.3;
          })

  pub in_calls : (ys : List Closed) (old new : List MetKey) → PutsMetInCalls g ys old new → (m : MetKey) → Among new m
      → Among old m ⊎ ((y : Closed) × Among ys y × IsKeyPlaceIn g y m.0 m.1)
  in_calls [] old new e m i = inl (subst (λ (l : List MetKey). Among l m) e i)
  in_calls (y ∷ ys) old new (next, put, w) m i = later (in_calls ys next new w m i)
    where
      here : Among old m ⊎ IsKeyPlaceIn g y m.0 m.1 → Among old m ⊎ ((z : Closed) × Among (y ∷ ys) z × IsKeyPlaceIn g z m.0 m.1)
      here (inl j) = inl j
      here (inr p) = inr (y, inl refl, p)

      later : Among next m ⊎ ((z : Closed) × Among ys z × IsKeyPlaceIn g z m.0 m.1)
          → Among old m ⊎ ((z : Closed) × Among (y ∷ ys) z × IsKeyPlaceIn g z m.0 m.1)
      later (inl j) = here (in_call y old next put m j)
      later (inr s) = inr (s.0, inr s.1, s.2)

  -- and each that is met in one of the calls is put
  stays_in_call : (y : Closed) (old new : List MetKey) → PutsMetInCall g y old new → (m : MetKey) → Among old m → Among new m
  stays_in_call y old new (PutsMetInCall.uncalled none e) m i = subst (λ (l : List MetKey). Among l m) (sym e) i
  stays_in_call y old new (PutsMetInCall.called args r h w) m i =
      all_of_choices g r (bind r args) (ranked_choices r) old new w m (inl i)

  put_in_call : (y : Closed) (old new : List MetKey) → PutsMetInCall g y old new → (m : MetKey) → IsKeyPlaceIn g y m.0 m.1
      → Among new m
  put_in_call y old new put m q = go put
    where
      low : q.level ≡ None
      low = sym q.level_is ∙ ap rank_level (no_rank_of q.name q.rule q.fits.rule q.choice q.fits.written)

      call_is : y ≡ Closed.call q.name q.args None
      call_is = q.call_is ∙ ap (λ (l : Option ℕ). Closed.call q.name q.args l) low

      is_called : IsCalledIn g y q.args q.rule
      is_called = record { name = q.name; call_is = call_is; is_rule = q.fits.rule; arguments = q.fits.arguments }

      of_rule : (args : Closeds) (r : EnabledRule) → IsCalledIn g y args r →
          PutsMetInChoices g r (bind r args) (ranked_choices r) old new → args ≡ q.args → r ≡ q.rule → Among new m
      of_rule args r h w e d =
          all_of_choices g q.rule (bind q.rule q.args) (ranked_choices q.rule) old new
          (subst (λ (a : Closeds). PutsMetInChoices g q.rule (bind q.rule a) (ranked_choices q.rule) old new) e
          (subst (λ (u : EnabledRule). PutsMetInChoices g u (bind u args) (ranked_choices u) old new) d w)) m
          (inr (q.choice, q.fits.written, q.fits.holds, q.met))

      go : PutsMetInCall g y old new → Among new m
      go (PutsMetInCall.uncalled none e) = absurd (none q.args q.rule is_called)
      go (PutsMetInCall.called args r h w) =
          let same : Closed.call h.name args None ≡ Closed.call q.name q.args None = sym h.call_is ∙ call_is in
          let names : h.name ≡ q.name = cc same in
          let given : args ≡ q.args = cc same in
          of_rule args r h w given (one_rule g q.name r q.rule (subst (λ (t : Text). IsRule g t r) names h.is_rule) q.fits.rule)

  stays_in_calls : (ys : List Closed) (old new : List MetKey) → PutsMetInCalls g ys old new → (m : MetKey) → Among old m
      → Among new m
  stays_in_calls [] old new e m i = subst (λ (l : List MetKey). Among l m) (sym e) i
  stays_in_calls (y ∷ ys) old new (next, put, w) m i = stays_in_calls ys next new w m (stays_in_call y old next put m i)

  pub put_in_calls : (ys : List Closed) (old new : List MetKey) → PutsMetInCalls g ys old new → (y : Closed) → Among ys y
      → (m : MetKey) → IsKeyPlaceIn g y m.0 m.1 → Among new m
  put_in_calls [] old new e y i m q = absurd i
  put_in_calls (z ∷ ys) old new (next, put, w) y (inl same) m q =
      stays_in_calls ys next new w m
      (put_in_call z old next put m (subst (λ (c : Closed). IsKeyPlaceIn g c m.0 m.1) (sym same) q))
  put_in_calls (z ∷ ys) old new (next, put, w) y (inr i) m q = put_in_calls ys next new w y i m q

-- what stands in a call stands beside one of its alternatives
pub stands_beside : (g : EnabledGrammar) (y z : Closed) → (IsNoCall y → ⊥) → IsShapeKey z → KeyStandsIn g y z
    → StandsBeside g y z
stands_beside g (Closed.call n args level) z call shape s = of_production s.side s.in_side s.produced
  where
    not_passed : (to : Option ℕ) → Among (GrammarSymbol.nonterminal (Nonterminal.closed (Closed.call n args to)) ∷ [])
        (grammar_symbol s.symbol) → ⊥
    not_passed to (inl e) = of_key (subst (λ (l : List Closed). Among l z) (sym (same_keys (Closed.call n args to) s.symbol e)) s.stands)
      where
        of_key : Among (Closed.call n args to ∷ []) z → ⊥
        of_key (inl same) = subst IsShapeKey (sym same) shape
        of_key (inr i) = i
    not_passed to (inr i) = i

    of_production : (side : RightSide) → Among side (grammar_symbol s.symbol) →
        Produces g (Nonterminal.closed (Closed.call n args level)) s.origin side → StandsBeside g (Closed.call n args level) z
    of_production side i (inr b) =
        absurd (not_passed (Some b.to) (subst (λ (l : RightSide). Among l (grammar_symbol s.symbol)) b.side_is i))
    of_production side i (inl b) =
        let listed = right_side g b.rule (bind b.rule args) b.choice in
        let u = among_map grammar_symbol listed (grammar_symbol s.symbol)
        (subst (λ (l : RightSide). Among l (grammar_symbol s.symbol)) b.side_is i) in
        record {
          name = n;
          args = args;
          level = level;
          call_is = refl;
          rule = b.rule;
          choice = b.choice;
          fits = b.fits;
          level_is = b.level_is;
          stands = key_among listed u.0 z u.1 (subst (λ (l : List Closed). Among l z) (sym (same_keys u.0 s.symbol u.2)) s.stands);
        }
stands_beside g (Closed.terminal t) z call shape s = absurd (call tt)
stands_beside g (Closed.repeat op v) z call shape s = absurd (call tt)
stands_beside g (Closed.group vs) z call shape s = absurd (call tt)
stands_beside g (Closed.choose v) z call shape s = absurd (call tt)
stands_beside g (Closed.name m n v) z call shape s = absurd (call tt)
stands_beside g Closed.lookahead z call shape s = absurd (call tt)
stands_beside g Closed.lookbehind z call shape s = absurd (call tt)
stands_beside g Closed.faulty z call shape s = absurd (call tt)
