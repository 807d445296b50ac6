-- The place of a call in an alternative, in a rule and in calls; for the search for a place.
use Rattle.std.proofs.Common.{◌≡◌, ℕ, ◌+◌, List, [], ◌∷◌, refl, ap, sym, ◌∙◌, subst, inl, inr, ◌⊎◌}
use Rattle.std.proofs.Common.{length}
use Rattle.std.specs.Prelude.{Option, Some, None, Result, Ok, Err, IfOk, is_some, option_map}
use Rattle.lalrpop_grammar_symbols.specs.Symbols.{Text, Closed, Closeds, closed_list}
use Rattle.lalrpop_grammar_symbols.specs.Views.{span_view}
use Rattle.lalrpop_grammar_symbols.specs.declared.span.Span.{Span}
use Rattle.lalrpop_grammar.specs.Views.{alternative_view}
use Rattle.lalrpop_grammar.specs.WrittenGrammar.{Origin}
use Rattle.lalrpop_grammar_language.specs.Among.{Among}
use Rattle.lalrpop_grammar_language.specs.Enabled.{EnabledGrammar, EnabledRule, Choice, IsRule, choice_of}
use Rattle.lalrpop_grammar_language.specs.Levels.{Rank, ranked_choices}
use Rattle.lalrpop_grammar_language.specs.Closing.{Binding, is_sound, right_side, scope_of}
use Rattle.lalrpop_grammar_language.specs.Conditions.{Holds}
use Rattle.lalrpop_grammar_language.specs.Admitting.{bind, rank_level}
use Rattle.lalrpop_norm_theory.specs.Depth.{calls_in_all}
use Rattle.lalrpop_norm_theory.specs.Premises.{HasNoLevels}
use Rattle.lalrpop_norm_theory.proofs.ExpansionListLemmas.{rule_there}
use Rattle.lalrpop_norm_theory.proofs.LevelLemmas.{no_rank}
use Rattle.lalrpop_grammar_rules.specs.Views.{closeds}
use Rattle.lalrpop_grammar_repr.specs.declared.session.NormFault.{NormFault}
use Rattle.lalrpop_grammar_rules.specs.Ranks.{rank_view}
use Rattle.lalrpop_grammar_rules.specs.declared.rule.Choice as program
use Rattle.lalrpop_norm_theory.specs.CallPlaces.{IsPlaceOfCall}
use Rattle.lalrpop_norm_keys.specs.Instances.{kept_from}
use Rattle.lalrpop_norm_keys.specs.PlaceSearch.{AreClosedAs, IsFoundAmong, IsFoundInCalls, IsFoundInSides}
use Rattle.lalrpop_norm_keys.specs.StandingCalls.{CallStandsIn, StandsInCall}
use Rattle.lalrpop_norm_keys.proofs.CallPlaceLemmas.{side_closed}
use Rattle.lalrpop_norm_keys.proofs.SymbolLemmas.{call_among}

module _ (g : EnabledGrammar) (r : EnabledRule) (b : Binding) (x : Closed) where
  -- no alternative
  pub no_side : IsFoundInSides g r b [] x None
  no_side p i = absurd i

  -- one whose condition doesn't hold
  pub side_closed_off : (p : Choice × Option Rank) → (Holds g b p.0.condition → ⊥) → IsFoundInSides g r b (p ∷ []) x None
  side_closed_off p out = λ q i h j. go q i h
    where
      go : (q : Choice × Option Rank) → (p ≡ q) ⊎ ⊥ → Holds g b q.0.condition → ⊥
      go q (inl e) h = out (subst (λ (z : Choice × Option Rank). Holds g b z.0.condition) (sym e) h)
      go q (inr i) h = i

  -- one whose condition holds
  pub side_found : (p : Choice × Option Rank) (cs : List Closed) (found : Option Span) → Holds g b p.0.condition
      → cs ≡ right_side g r b p → IsFoundAmong p.0.expr cs x found → IsFoundInSides g r b (p ∷ []) x found
  side_found p cs None held same h = λ q i k j. go q i j
    where
      among : AreClosedAs (scope_of g r b p.0 p.1) is_sound 0 p.0.expr cs
      among = subst (AreClosedAs (scope_of g r b p.0 p.1) is_sound 0 p.0.expr) (sym same)
          (side_closed (scope_of g r b p.0 p.1) 0 p.0.expr)

      go : (q : Choice × Option Rank) → (p ≡ q) ⊎ ⊥ → Among (calls_in_all (closeds (right_side g r b q))) x → ⊥
      go q (inl e) j =
          h (scope_of g r b p.0 p.1) is_sound 0 among
          (subst (λ l. Among (calls_in_all (closeds l)) x) (sym same)
          (subst (λ z. Among (calls_in_all (closeds (right_side g r b z))) x) (sym e) j))
      go q (inr i) j = i
  side_found p cs (Some span) held same h =
      let s = scope_of g r b p.0 p.1 in
      let w = h s is_sound 0 (subst (AreClosedAs s is_sound 0 p.0.expr) (sym same) (side_closed s 0 p.0.expr)) in
      (p, inl refl, held, record { top = w.0; among = w.1; sound = w.2; innermost = w.3 })

  -- the first of several alternatives
  pub sides_here : (n : Text) (k : ℕ) (o : Option program.Choice) (cs : List (Option program.Choice)) (span : Span)
      → IsFoundInSides g r b (kept_from n k (o ∷ [])) x (Some span) → IsFoundInSides g r b (kept_from n k (o ∷ cs)) x (Some span)
  sides_here n k None cs span w = absurd w.1
  sides_here n k (Some c) cs span (p, inl e, h, w) = (p, inl e, h, w)
  sides_here n k (Some c) cs span (p, inr i, h, w) = absurd i

  -- one of the others
  pub sides_later : (n : Text) (k : ℕ) (o : Option program.Choice) (cs : List (Option program.Choice)) (found : Option Span)
      → IsFoundInSides g r b (kept_from n k (o ∷ [])) x None → IsFoundInSides g r b (kept_from n (k + 1) cs) x found
      → IsFoundInSides g r b (kept_from n k (o ∷ cs)) x found
  sides_later n k None cs found none w = w
  sides_later n k (Some c) cs None none w = λ p i h j. go p i h j
    where
      go : (p : Choice × Option Rank) → Among (kept_from n k (Some c ∷ cs)) p → Holds g b p.0.condition
          → Among (calls_in_all (closeds (right_side g r b p))) x → ⊥
      go p (inl e) h j = none p (inl e) h j
      go p (inr i) h j = w p i h j
  sides_later n k (Some c) cs (Some span) none (p, i, h, w) = (p, inr i, h, w)

  -- the alternative that is kept at a place
  pub kept_found : (n : Text) (c : program.Choice) (o : Option program.Choice) → o ≡ Some c
      → (res : Result (Option Span) NormFault) → IfOk res (λ found. (k : Origin) → IsFoundInSides g r b
      ((choice_of (k, alternative_view c.alternative.now), option_map rank_view c.rank) ∷ []) x found)
      → IfOk res (λ found. (k : ℕ) → IsFoundInSides g r b (kept_from n k (o ∷ [])) x found)
  kept_found n c o e (Ok found) h = λ k.
      subst (λ q. IsFoundInSides g r b (kept_from n k (q ∷ [])) x found) (sym e) (h (Origin.alternative n [] k))
  kept_found n c o e (Err f) h = h

-- what isn't the call of a rule without a level has no calls
pub nothing_stands_in : (g : EnabledGrammar) (y x : Closed) → ((n : Text) (args : Closeds) → y ≡ Closed.call n args None → ⊥)
    → IsFoundInCalls g (y ∷ []) x None
nothing_stands_in g y x none = λ z i s. go z i s
  where
    at_level : (z : Closed) → ((n : Text) (args : Closeds) → z ≡ Closed.call n args None → ⊥) → CallStandsIn g z x → ⊥
    at_level (Closed.call n args None) out s = out n args refl
    at_level (Closed.call n args (Some l)) out s = s
    at_level (Closed.terminal t) out s = s
    at_level (Closed.repeat op z) out s = s
    at_level (Closed.group zs) out s = s
    at_level (Closed.choose z) out s = s
    at_level (Closed.name a n z) out s = s
    at_level Closed.lookahead out s = s
    at_level Closed.lookbehind out s = s
    at_level Closed.faulty out s = s

    go : (z : Closed) → (y ≡ z) ⊎ ⊥ → CallStandsIn g z x → ⊥
    go z (inl e) s = at_level y none (subst (λ v. CallStandsIn g v x) (sym e) s)
    go z (inr i) s = i

-- nor has one of no rule, or of one with another number of parameters
pub no_rule_stands_in : (g : EnabledGrammar) (y x : Closed) (n : Text) (args : Closeds) → y ≡ Closed.call n args None
    → (StandsInCall g n args x → ⊥) → IsFoundInCalls g (y ∷ []) x None
no_rule_stands_in g y x n args e out = λ z i s. go z i s
  where
    go : (z : Closed) → (y ≡ z) ⊎ ⊥ → CallStandsIn g z x → ⊥
    go z (inl f) s = out (subst (λ v. CallStandsIn g v x) (sym f ∙ e) s)
    go z (inr i) s = i

-- the call of a rule
pub call_found : (g : EnabledGrammar) (y x : Closed) (n : Text) (args : Closeds) (r : EnabledRule) (b : Binding)
    → y ≡ Closed.call n args None → IsRule g n r → length (closed_list args) ≡ length r.parameters → b ≡ bind r args
    → (res : Result (Option Span) NormFault) → IfOk res (IsFoundInSides g r b (ranked_choices r) x)
    → IfOk res (IsFoundInCalls g (y ∷ []) x)
call_found g y x n args r b e is full same (Err f) h = h
call_found g y x n args r b e is full same (Ok None) h =
    no_rule_stands_in g y x n args e (λ s. out s)
  where
    found : IsFoundInSides g r (bind r args) (ranked_choices r) x None
    found = subst (λ d. IsFoundInSides g r d (ranked_choices r) x None) same h

    out : StandsInCall g n args x → ⊥
    out s =
        let one : s.rule ≡ r = cc (s.is_rule, is) in
        let all = subst (λ q. IsFoundInSides g q (bind q args) (ranked_choices q) x None) (sym one) found in
        all s.choice s.written s.holds
        (call_among (right_side g s.rule (bind s.rule args) s.choice) s.symbol x s.in_side s.has_call)
call_found g y x n args r b e is full same (Ok (Some span)) h =
    let w = subst (λ d. IsFoundInSides g r d (ranked_choices r) x (Some span)) same h in
    (y, inl refl, λ flat. placed flat w)
  where
    placed : HasNoLevels g → IsFoundInSides g r (bind r args) (ranked_choices r) x (Some span) → IsPlaceOfCall g y x (span_view span)
    placed flat (p, i, held, place) =
        let leveled = flat r (rule_there g n r is).0 in
        let unranked : p.1 ≡ None = no_rank r p leveled i in record {
          name = n;
          args = args;
          level = None;
          call_is = e;
          rule = r;
          choice = p;
          fits = record {
            rule = is;
            arguments = full;
            written = i;
            leveled = ap (λ (k : Option Rank). is_some k) unranked ∙ sym leveled;
            holds = held;
          };
          level_is = ap rank_level unranked;
          place = place;
        }

-- no call
pub no_caller : (g : EnabledGrammar) (x : Closed) → IsFoundInCalls g [] x None
no_caller g x y i = absurd i

-- the first of several
pub callers_here : (g : EnabledGrammar) (y : Closed) (ys : List Closed) (x : Closed) (span : Span)
    → IsFoundInCalls g (y ∷ []) x (Some span) → IsFoundInCalls g (y ∷ ys) x (Some span)
callers_here g y ys x span (z, inl e, w) = (z, inl e, w)
callers_here g y ys x span (z, inr i, w) = absurd i

-- one of the others
pub callers_later : (g : EnabledGrammar) (y : Closed) (ys : List Closed) (x : Closed) (found : Option Span)
    → IsFoundInCalls g (y ∷ []) x None → IsFoundInCalls g ys x found → IsFoundInCalls g (y ∷ ys) x found
callers_later g y ys x None none w = λ z i s. go z i s
  where
    go : (z : Closed) → (y ≡ z) ⊎ Among ys z → CallStandsIn g z x → ⊥
    go z (inl e) s = none z (inl e) s
    go z (inr i) s = w z i s
callers_later g y ys x (Some span) none (z, i, w) = (z, inr i, w)
