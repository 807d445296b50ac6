-- The keys that are found in rules and in calls are in order of first use, where the calls are; for the search.
use Rattle.std.proofs.Common.{◌≡◌, ℕ, List, [], ◌∷◌, ◌++◌, refl, ap, sym, ◌∙◌, subst, inl, inr, ◌⊎◌, map, append-nil, append_assoc}
use Rattle.std.proofs.Common.{cond, Bool, true, false}
use Rattle.std.specs.Prelude.{Option, Some, None, filter, flat_map, nat_lt}
use Rattle.std.proofs.lemmas.List.{append_cancel_left, map-append}
use Rattle.lalrpop_grammar_symbols.specs.Symbols.{Text, Closed, Closeds}
use Rattle.lalrpop_grammar.specs.WrittenGrammar.{Rule}
use Rattle.lalrpop_grammar_language.specs.Among.{Among}
use Rattle.lalrpop_grammar_language.specs.Enabled.{EnabledGrammar, EnabledRule, IsRule, enabled_rule, has_name, is_active}
use Rattle.lalrpop_grammar_language.specs.Levels.{greatest, ranked_choices, tighter}
use Rattle.lalrpop_grammar_language.specs.Closing.{right_side}
use Rattle.lalrpop_grammar_language.specs.Admitting.{argument_list, bind}
use Rattle.lalrpop_grammar_language.specs.Expansion.{GrammarSymbol, IsRoot, Nonterminal, grammar_symbol, origin_with}
use Rattle.lalrpop_grammar_language.proofs.AmongLemmas.{among_flat_map, map_among}
use Rattle.lalrpop_grammar_language.proofs.ComparisonLemmas.{same_text-refl}
use Rattle.lalrpop_grammar_language.proofs.PlaceLemmas.{among_map}
use Rattle.lalrpop_grammar_language.proofs.StepLemmas.{among_right}
use Rattle.lalrpop_grammar_language.proofs.OrderLemmas.{among_parts}
use Rattle.lalrpop_norm_theory.specs.Depth.{CallOccursIn, calls_in_grammar_symbol}
use Rattle.lalrpop_norm_theory.specs.KeyTables.{IsNoCall, IsPlainKey, KeyStandsIn, keys_in}
use Rattle.lalrpop_norm_theory.specs.Premises.{HasNoLevels}
use Rattle.lalrpop_norm_theory.specs.Rounds.{AreCallsToDepth}
use Rattle.lalrpop_norm_theory.specs.FirstUse.{AreInOrderOfUse}
use Rattle.lalrpop_norm_theory.specs.UsedKeys.{CallUses, IsListByUse, KeyUses, call_at_level, tighter_call, written_keys}
use Rattle.lalrpop_norm_theory.proofs.ExpansionListLemmas.{rule_there}
use Rattle.lalrpop_norm_theory.proofs.LevelLemmas.{keeps, no_levels}
use Rattle.lalrpop_norm_theory.proofs.UsedKeyLemmas.{key_uses_one, using_choice}
use Rattle.lalrpop_norm_theory.proofs.UsedListLemmas.{key-uses, uses_of}
use Rattle.lalrpop_norm_keys.specs.FoundCalls.{plain_call_of, plain_calls}
use Rattle.lalrpop_norm_keys.specs.Tables.{AddsKeys, HasEachOnce}
use Rattle.lalrpop_norm_keys.specs.UseSearch.{AddsUsesOf, AreCallsByUse, UsesCalls, UsesWithItself, macro_call}
use Rattle.lalrpop_norm_keys.proofs.FoundLemmas.{chain_is_call, plain_call_is, plain_call_there, plain_is_root}
use Rattle.lalrpop_norm_keys.proofs.MixedUseLemmas.{IsKind, macro_among, mixed, with_itself}
use Rattle.lalrpop_norm_keys.proofs.OrderedCallLemmas.{calls_by, calls_one, uses_calls, written_are_plain}
use Rattle.lalrpop_norm_keys.proofs.RightCallLemmas.{HasRightCalls, chain_right, kinds_of, root_right}
use Rattle.lalrpop_norm_keys.proofs.UseFrontLemmas.{IsWalk, all_uses, follows_of_order, walk_done}
use Rattle.lalrpop_norm_keys.proofs.UseSideLemmas.{calls_of_keys}

-- keys that stand once

-- different keys that weren't known are all added
adds_once : (known xs all : List Closed) → HasEachOnce xs → ((z : Closed) → Among xs z → Among known z → ⊥)
    → AddsKeys known xs all → all ≡ known ++ xs
adds_once known [] all h apart e = e ∙ sym (append-nil known)
adds_once known (x ∷ xs) all h apart (next, inl (i, e), w) = absurd (apart x (inl refl) i)
adds_once known (x ∷ xs) all h apart (next, inr (n, e), w) =
    adds_once next xs all h.1 (λ z i j. again z i (among_parts known (x ∷ []) z (subst (λ l. Among l z) e j))) w
    ∙ ap (λ l. l ++ xs) e ∙ append_assoc known (x ∷ []) xs
  where
    again : (z : Closed) → Among xs z → Among known z ⊎ Among (x ∷ []) z → ⊥
    again z i (inl j) = apart z (inr i) j
    again z i (inr (inl f)) = h.0 (subst (Among xs) (sym f) i)
    again z i (inr (inr j)) = j

-- two that pass a test aren't one
two_pass : {A : Type 0} (f : A → Bool) (as_ : List A) (x : A) (bs : List A) (y z : A) → f x ≡ true → Among bs y → f y ≡ true
    → filter f (as_ ++ x ∷ bs) ≡ z ∷ [] → ⊥
two_pass f [] x bs y z e i h k = go (f x) e k
  where
    none : filter f bs ≡ [] → ⊥
    none g = subst (λ l. Among l y) g (keeps f bs y i h)

    go : (b : Bool) → b ≡ true → cond b (x ∷ filter f bs) (filter f bs) ≡ z ∷ [] → ⊥
    go true t g = let rest : filter f bs ≡ [] = cc in none rest
    go false t g = cc
two_pass f (a ∷ as_) x bs y z e i h k = go (f a) k (two_pass f as_ x bs y z e i h)
  where
    none : filter f (as_ ++ x ∷ bs) ≡ [] → ⊥
    none g = subst (λ l. Among l x) g (keeps f (as_ ++ x ∷ bs) x (among_right as_ (x ∷ bs) x (inl refl)) e)

    go : (b : Bool) → cond b (a ∷ filter f (as_ ++ x ∷ bs)) (filter f (as_ ++ x ∷ bs)) ≡ z ∷ []
        → (filter f (as_ ++ x ∷ bs) ≡ z ∷ [] → ⊥) → ⊥
    go true g later = let rest : filter f (as_ ++ x ∷ bs) ≡ [] = cc in none rest
    go false g later = later g

-- what is used stands there
pub used_stands : (g : EnabledGrammar) → HasNoLevels g → (y : Closed) (us : List Closed) → KeyUses g y us → (z : Closed) → Among us z
    → KeyStandsIn g y z
used_stands g flat (Closed.call n args level) us (CallUses.of_none h e) z i = absurd (subst (λ l. Among l z) e i)
used_stands g flat (Closed.call n args level) us (CallUses.of_rule r mine c w e) z i =
    go (among_parts mine (tighter_call r n args level) z (subst (λ l. Among l z) e i))
  where
    none : (l : Option ℕ) → Among (tighter_call r n args l) z → ⊥
    none None j = j
    none (Some from) j =
        let down : tighter r from ≡ None =
        ap (λ ls. greatest (filter (λ m. nat_lt m from) ls)) (no_levels r (flat r (rule_there g n r c.is_rule).0)) in
        subst (λ t. Among (call_at_level n args t) z) down j

    go : Among mine z ⊎ Among (tighter_call r n args level) z → KeyStandsIn g (Closed.call n args level) z
    go (inl j) =
        let v = using_choice g n args level r (ranked_choices r) mine w z j in
        let s = among_flat_map keys_in (right_side g r (bind r args) v.choice) z v.in_side in
        record {
          origin = origin_with (argument_list g.spelled args) v.choice.0.origin;
          side = map grammar_symbol (right_side g r (bind r args) v.choice);
          symbol = s.0;
          produced = inl (record {
            rule = r;
            choice = v.choice;
            fits = v.chosen.0;
            level_is = v.chosen.1;
            origin_is = refl;
            side_is = refl;
          });
          in_side = map_among grammar_symbol (right_side g r (bind r args) v.choice) s.0 s.1;
          stands = s.2;
        }
    go (inr j) = absurd (none level j)
used_stands g flat (Closed.terminal t) us e z i = absurd (subst (λ l. Among l z) e i)
used_stands g flat (Closed.repeat op x) us e z i = absurd (subst (λ l. Among l z) e i)
used_stands g flat (Closed.group xs) us e z i = absurd (subst (λ l. Among l z) e i)
used_stands g flat (Closed.choose x) us e z i = absurd (subst (λ l. Among l z) e i)
used_stands g flat (Closed.name m n x) us e z i = absurd (subst (λ l. Among l z) e i)
used_stands g flat Closed.lookahead us e z i = absurd (subst (λ l. Among l z) e i)
used_stands g flat Closed.lookbehind us e z i = absurd (subst (λ l. Among l z) e i)
used_stands g flat Closed.faulty us e z i = absurd (subst (λ l. Among l z) e i)

-- a call that occurs has arguments
occurs_macro : (g : EnabledGrammar) (y x : Closed) → CallOccursIn g y x → macro_call x ≡ x ∷ []
occurs_macro g y x o = go o.symbol o.call_is
  where
    go : (s : GrammarSymbol Nonterminal) → Among (calls_in_grammar_symbol s) x → macro_call x ≡ x ∷ []
    go (GrammarSymbol.terminal t) i = absurd i
    go (GrammarSymbol.nonterminal (Nonterminal.start n)) i = absurd i
    go (GrammarSymbol.nonterminal (Nonterminal.closed z)) i =
        (macro_among (keys_in z) x (subst (λ l. Among l x) (sym (calls_of_keys z)) i)).1

-- what is no call uses nothing
shape_kind : (g : EnabledGrammar) (z : Closed) → IsNoCall z → IsKind (uses_of g) z
shape_kind g (Closed.call n args level) s = absurd s
shape_kind g (Closed.terminal t) s = inl (refl, refl)
shape_kind g (Closed.repeat op x) s = inl (refl, refl)
shape_kind g (Closed.group xs) s = inl (refl, refl)
shape_kind g (Closed.choose x) s = inl (refl, refl)
shape_kind g (Closed.name m n x) s = inl (refl, refl)
shape_kind g Closed.lookahead s = inl (refl, refl)
shape_kind g Closed.lookbehind s = inl (refl, refl)
shape_kind g Closed.faulty s = inl (refl, refl)

-- what is added to keys is these with what they use
keys_stream : (g : EnabledGrammar) (ys known all : List Closed) → AddsUsesOf (UsesWithItself g) ys known all
    → AddsKeys known (flat_map (with_itself (uses_of g)) ys) all
keys_stream g ys known all (us, u, w) =
    subst (λ l. AddsKeys known l all) (all_uses (UsesWithItself g) (with_itself (uses_of g)) is one ys us u) w
  where
    is : (y : Closed) → UsesWithItself g y (y ∷ uses_of g y)
    is y = (uses_of g y, key-uses g y, refl)

    one : (y : Closed) (us vs : List Closed) → UsesWithItself g y us → UsesWithItself g y vs → us ≡ vs
    one y us vs (k, u, e) (l, v, f) = e ∙ ap (λ m. y ∷ m) (key_uses_one g y k l u v) ∙ sym f

module _ (g : EnabledGrammar) (features : List Text) (rs : List Rule)
    (rules_are : g.rules ≡ map (enabled_rule features) (filter (λ r. is_active features r.attributes) rs))
    (enabled : (r : Rule) → Among rs r → is_active features r.attributes ≡ true)
    (single : (r : EnabledRule) → Among g.rules r → IsRule g r.name r) (flat : HasNoLevels g) where
  abbrev active : Rule → Bool
  active r = is_active features r.attributes

  -- nothing is left out
  all_seen : (qs : List Rule) → ((r : Rule) → Among qs r → Among rs r) → filter active qs ≡ qs
  all_seen [] all = refl
  all_seen (r ∷ qs) all =
      ap (λ b. cond b (r ∷ filter active qs) (filter active qs)) (enabled r (all r (inl refl)))
      ∙ ap (λ l. r ∷ l) (all_seen qs (λ q i. all q (inr i)))

  rules_all : g.rules ≡ map (enabled_rule features) rs
  rules_all = rules_are ∙ ap (map (enabled_rule features)) (all_seen rs (λ r i. i))

  -- no rule without parameters stands twice
  once_from : (before qs : List Rule) → rs ≡ before ++ qs → HasEachOnce (plain_calls qs)
  once_from before [] e = tt
  once_from before (r ∷ qs) e =
      go r.parameters (once_from (before ++ r ∷ []) qs (e ∙ sym (append_assoc before (r ∷ []) qs)))
    where
      other : Among (plain_calls qs) (Closed.call r.name Closeds.none None) → ⊥
      other i =
          let p = plain_call_is qs (Closed.call r.name Closeds.none None) i in
          let same : Closed.call r.name Closeds.none None ≡ Closed.call p.rule.name Closeds.none None = p.call_is in
          let named : r.name ≡ p.rule.name = cc in
          let parts : g.rules ≡ map (enabled_rule features) before ++ enabled_rule features r ∷ map (enabled_rule features) qs =
          rules_all ∙ ap (map (enabled_rule features)) e ∙ map-append (enabled_rule features) before (r ∷ qs) in
          let there : Among g.rules (enabled_rule features r) =
          subst (λ l. Among l (enabled_rule features r)) (sym parts)
          (among_right (map (enabled_rule features) before) (enabled_rule features r ∷ map (enabled_rule features) qs)
          (enabled_rule features r) (inl refl)) in
          two_pass (has_name r.name) (map (enabled_rule features) before) (enabled_rule features r) (map (enabled_rule features) qs)
          (enabled_rule features p.rule) (enabled_rule features r) (same_text-refl r.name)
          (map_among (enabled_rule features) qs p.rule p.among)
          (subst (λ t. has_name t (enabled_rule features p.rule) ≡ true) (sym named) (same_text-refl p.rule.name))
          (ap (filter (has_name r.name)) (sym parts) ∙ single (enabled_rule features r) there)

      go : (ps : List Text) → HasEachOnce (plain_calls qs) → HasEachOnce (plain_call_of r ps ++ plain_calls qs)
      go [] h = (other, h)
      go (p ∷ ps) h = h

  pub plain_once : HasEachOnce (plain_calls rs)
  plain_once = once_from [] rs refl

  module _ (depth : ℕ) (calls : List Closed) (are : AreCallsToDepth g depth calls []) (by_use : AreCallsByUse g calls) where
    root_of : (y : Closed) → Among (plain_calls rs) y → IsRoot g (Nonterminal.closed y)
    root_of y i = plain_is_root g features rs rules_are enabled single flat y (plain_call_is rs y i)

    no_macro_call : (z : Closed) → Among (plain_calls rs) z → macro_call z ≡ []
    no_macro_call z i = ap macro_call (plain_call_is rs z i).call_is

    right : (y : Closed) → Among (plain_calls rs) y ⊎ Among calls y → HasRightCalls g y × (IsNoCall y → ⊥)
    right y (inl i) = root_right g flat y (root_of y i)
    right y (inr i) = let c = are.chains y i in (chain_right g flat c.0 y c.2, chain_is_call g c.0 y c.2)

    plain_there : (z : Closed) → IsPlainKey g z → Among (plain_calls rs) z
    plain_there z p =
        let w = rule_there g p.name p.rule p.is_rule in
        let q = among_map (enabled_rule features) rs p.rule (subst (λ l. Among l p.rule) rules_all w.0) in
        let named : q.0.name ≡ p.name = ap (λ r. r.name) q.2 ∙ w.1 in
        subst (Among (plain_calls rs)) (ap (λ t. Closed.call t Closeds.none None) named ∙ sym p.key_is)
        (plain_call_there rs q.0 q.1 (ap (λ r. r.parameters) q.2 ∙ p.no_macro))

    kinds : (y z : Closed) → Among (plain_calls rs ++ calls) y → Among (uses_of g y) z
        → Among (plain_calls rs) z ⊎ IsKind (uses_of g) z
    kinds y z i j =
        let w = right y (among_parts (plain_calls rs) calls y i) in
        go (kinds_of g flat y z w.0 w.1 (used_stands g flat y (uses_of g y) (key-uses g y) z j))
      where
        go : IsNoCall z ⊎ (IsPlainKey g z ⊎ CallOccursIn g y z) → Among (plain_calls rs) z ⊎ IsKind (uses_of g) z
        go (inl s) = inr (shape_kind g z s)
        go (inr (inl p)) = inl (plain_there z p)
        go (inr (inr o)) = inr (inr (occurs_macro g y z o))

    -- the rules, then what they use, and then what the calls use: that is the order of first use
    pub keys_in_order : (first mid all : List Closed) → AddsKeys [] (plain_calls rs) first
        → AddsUsesOf (UsesWithItself g) (plain_calls rs) first mid → AddsUsesOf (UsesWithItself g) calls mid all → IsListByUse g all
    keys_in_order first mid all a v w =
        let roots = plain_calls rs in
        let plain : written_keys g ≡ roots = written_are_plain g features rs rules_are enabled single flat in
        let begin : first ≡ roots = adds_once [] roots first plain_once (λ z i j. j) a in
        let order : AreInOrderOfUse (UsesCalls g) roots calls =
        subst (λ l. AreInOrderOfUse (UsesCalls g) l calls) plain by_use in
        let f = follows_of_order (UsesCalls g) (calls_by g) (uses_calls g) (calls_one g) roots calls order in
        let m = mixed (uses_of g) roots calls no_macro_call kinds f.0 f.1 mid all
        (subst (λ l. AddsKeys l (flat_map (with_itself (uses_of g)) roots) mid) begin (keys_stream g roots first mid v))
        (keys_stream g calls mid all w) in
        done m.0 m.1 m.2
      where
        done : (b : List Closed) → all ≡ plain_calls rs ++ b
            → IsWalk (uses_of g) (plain_calls rs) (plain_calls rs ++ b) [] → IsListByUse g all
        done b e walk =
            let roots = plain_calls rs in
            let plain : roots ≡ written_keys g = sym (written_are_plain g features rs rules_are enabled single flat) in
            let same : walk.found ≡ b =
            append_cancel_left roots walk.found b (sym walk.all_is ∙ append-nil (roots ++ b)) in (
              b,
              e ∙ ap (λ l. l ++ b) plain,
              subst (λ l. AreInOrderOfUse (KeyUses g) l b) plain
                  (subst (AreInOrderOfUse (KeyUses g) roots) same
                  (walk_done (KeyUses g) (uses_of g) (key-uses g) roots (roots ++ b) walk)),
            )
