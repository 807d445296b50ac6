-- Keys that are gathered from all calls and all rules without parameters are the table of keys; for the search.
use Rattle.std.proofs.Common.{◌≡◌, ℕ, List, [], ◌∷◌, ◌++◌, refl, ap, sym, ◌∙◌, subst, inl, inr, ◌⊎◌, map}
use Rattle.std.specs.Prelude.{◌↔◌, true, None, filter, Result, Ok, Err, OnOk}
use Rattle.lalrpop_grammar_symbols.specs.Symbols.{Text, Closed, Closeds}
use Rattle.lalrpop_grammar.specs.WrittenGrammar.{Rule}
use Rattle.lalrpop_grammar_language.specs.Among.{Among}
use Rattle.lalrpop_grammar_language.specs.Enabled.{EnabledGrammar, EnabledRule, IsRule, enabled_rule, is_active}
use Rattle.lalrpop_grammar_language.specs.Expansion.{IsRoot, Nonterminal}
use Rattle.lalrpop_grammar_language.proofs.PlaceLemmas.{among_filter, among_map}
use Rattle.lalrpop_norm_theory.specs.Depth.{CallOccursIn}
use Rattle.lalrpop_norm_theory.specs.Premises.{HasNoLevels}
use Rattle.lalrpop_norm_theory.specs.Rounds.{AreCallsToDepth}
use Rattle.lalrpop_norm_theory.proofs.AmongLemmas.{among_either}
use Rattle.lalrpop_grammar_language.proofs.OrderLemmas.{among_parts}
use Rattle.lalrpop_norm_theory.proofs.ExpansionListLemmas.{rule_there}
use Rattle.lalrpop_norm_theory.specs.KeyTables.{IsKeyTable, IsMetKey, IsNoCall, IsPlainKey, KeyStandsIn}
use Rattle.lalrpop_norm_theory.specs.KeyTables.{keys_in_all}
use Rattle.lalrpop_grammar_rules.specs.Views.{closeds}
use Rattle.lalrpop_norm_keys.specs.Instances.{HasKeysOf}
use Rattle.lalrpop_norm_keys.specs.Tables.{AddsKey, AddsKeys}
use Rattle.lalrpop_norm_keys.proofs.TableLemmas.{Extends, adds_extend}
use Rattle.lalrpop_norm_keys.specs.FoundCalls.{AreCalls, plain_calls}
use Rattle.lalrpop_norm_keys.specs.FoundKeys.{AddsStanding, FindsKeys}
use Rattle.lalrpop_norm_keys.proofs.FoundLemmas.{chain_is_call, plain_call_is, plain_call_there}
use Rattle.lalrpop_norm_keys.proofs.FoundLemmas.{plain_is_root, root_is_plain}
use Rattle.lalrpop_norm_keys.proofs.StandingCallLemmas.{leveled_is_barren}
use Rattle.lalrpop_norm_keys.proofs.RightCallLemmas.{HasRightCalls, chain_right, kinds_of, root_right}

-- keys that are added are those that stand in a call, where they are just these
pub standing_of_adds : (g : EnabledGrammar) (y : Closed) (known xs all : List Closed) → AddsKeys known xs all
    → ((z : Closed) → Among xs z ↔ KeyStandsIn g y z) → AddsStanding g y known all
standing_of_adds g y known xs all a are =
    let w = adds_extend known xs all a in record {
      stay = λ z i. subst (λ l. Among l z) (sym w.all_is) (among_either known w.found z (inl i));
      stand = λ z s. w.complete z ((are z).1 s);
      no_other = λ z i. split w z (among_parts known w.found z (subst (λ l. Among l z) w.all_is i));
    }
  where
    split : (w : Extends known xs all) → (z : Closed) → Among known z ⊎ Among w.found z → Among known z ⊎ KeyStandsIn g y z
    split w z (inl i) = inl i
    split w z (inr i) = inr ((are z).0 (w.of_added z i))

-- so are the keys in the symbols on its right sides
pub standing_of_symbols : (g : EnabledGrammar) (y : Closed) (known all xs us : List Closed) → xs ≡ keys_in_all (closeds us)
    → HasKeysOf g y us → AddsKeys known xs all → AddsStanding g y known all
standing_of_symbols g y known all xs us e are a =
    standing_of_adds g y known (keys_in_all (closeds us)) all (subst (λ l. AddsKeys known l all) e a) are

-- a call is added, and then what stands in it
pub call_and_standing : (g : EnabledGrammar) (y : Closed) (known mid all : List Closed) → AddsKey known y mid
    → AddsStanding g y mid all → FindsKeys g (y ∷ []) known all
call_and_standing g y known mid all a s = record {
  stay = λ z i. s.stay z (kept a z i);
  themselves = themselves;
  stand = stand;
  no_other = λ z i. no_other z (s.no_other z i);
}
  where
    kept : AddsKey known y mid → (z : Closed) → Among known z → Among mid z
    kept (inl w) z i = subst (λ l. Among l z) (sym w.1) i
    kept (inr w) z i = subst (λ l. Among l z) (sym w.1) (among_either known (y ∷ []) z (inl i))

    put : AddsKey known y mid → Among mid y
    put (inl w) = subst (λ l. Among l y) (sym w.1) w.0
    put (inr w) = subst (λ l. Among l y) (sym w.1) (among_either known (y ∷ []) y (inr (inl refl)))

    themselves : (x : Closed) → Among (y ∷ []) x → Among all x
    themselves x (inl e) = s.stay x (subst (Among mid) e (put a))
    themselves x (inr i) = absurd i

    stand : (x z : Closed) → Among (y ∷ []) x → KeyStandsIn g x z → Among all z
    stand x z (inl e) k = s.stand z (subst (λ v. KeyStandsIn g v z) (sym e) k)
    stand x z (inr i) k = absurd i

    Found : Closed → Type 0
    Found z = Among known z ⊎ ((x : Closed) × Among (y ∷ []) x × ((x ≡ z) ⊎ KeyStandsIn g x z))

    one : (z : Closed) → Among known z ⊎ Among (y ∷ []) z → Found z
    one z (inl i) = inl i
    one z (inr (inl e)) = inr (y, inl refl, inl e)
    one z (inr (inr i)) = absurd i

    before : (z : Closed) → AddsKey known y mid → Among mid z → Found z
    before z (inl w) i = inl (subst (λ l. Among l z) w.1 i)
    before z (inr w) i = one z (among_parts known (y ∷ []) z (subst (λ l. Among l z) w.1 i))

    no_other : (z : Closed) → Among mid z ⊎ KeyStandsIn g y z → Found z
    no_other z (inl i) = before z a i
    no_other z (inr k) = inr (y, inl refl, inr k)

-- a call as it is told, with what was found in it
pub found_ok : {T E : Type 0} (g : EnabledGrammar) (y v : Closed) (known mid all : List Closed) (r : Result T E) → AddsKey known y mid
    → y ≡ v → OnOk r (HasNoLevels g → AddsStanding g v mid all)
    → OnOk r (HasNoLevels g → AreCalls (y ∷ []) → FindsKeys g (y ∷ []) known all)
found_ok g y v known mid all (Ok x) a e h = λ flat are.
    call_and_standing g y known mid all a (subst (λ u. AddsStanding g u mid all) (sym e) (h flat))
found_ok g y v known mid all (Err x) a e h = h

-- a call in which nothing stands
pub nothing_stands : (g : EnabledGrammar) (y : Closed) (known : List Closed) → ((z : Closed) → KeyStandsIn g y z → ⊥)
    → AddsStanding g y known known
nothing_stands g y known out = record {
  stay = λ z i. i;
  stand = λ z s. absurd (out z s);
  no_other = λ z i. inl i;
}

-- so is a call at a level
pub keys_of_leveled : (g : EnabledGrammar) → HasNoLevels g → (y : Closed) → AreCalls (y ∷ [])
    → ((n : Text) (args : Closeds) → y ≡ Closed.call n args None → ⊥) → (known mid : List Closed) → AddsKey known y mid
    → FindsKeys g (y ∷ []) known mid
keys_of_leveled g flat y c k known mid a =
    call_and_standing g y known mid mid a
    (nothing_stands g y mid (λ z s. leveled_is_barren g flat y (c y (inl refl)) k s.origin s.side s.produced))

-- calls that were added before are found all the same
pub keys_begun : (g : EnabledGrammar) (ys begun all : List Closed) → AddsKeys [] ys begun → FindsKeys g ys begun all
    → FindsKeys g ys [] all
keys_begun g ys begun all a v = record {
  stay = λ z i. absurd i;
  themselves = v.themselves;
  stand = v.stand;
  no_other = λ z i. no_other z (v.no_other z i);
}
  where
    OfSome : Closed → Type 0
    OfSome z = (y : Closed) × Among ys y × ((y ≡ z) ⊎ KeyStandsIn g y z)

    no_other : (z : Closed) → Among begun z ⊎ OfSome z → ⊥ ⊎ OfSome z
    no_other z (inl i) =
        let w = adds_extend [] ys begun a in
        inr (z, w.of_added z (subst (λ l. Among l z) w.all_is i), inl refl)
    no_other z (inr s) = inr s

-- no calls
pub keys_of_none : (g : EnabledGrammar) (known : List Closed) → FindsKeys g [] known known
keys_of_none g known = record {
  stay = λ z i. i;
  themselves = λ y i. absurd i;
  stand = λ y z i k. absurd i;
  no_other = λ z i. inl i;
}

-- some calls and then others
pub keys_together : (g : EnabledGrammar) (ys zs known mid all : List Closed) → FindsKeys g ys known mid → FindsKeys g zs mid all
    → FindsKeys g (ys ++ zs) known all
keys_together g ys zs known mid all v w = record {
  stay = λ z i. w.stay z (v.stay z i);
  themselves = λ y i. themselves y (among_parts ys zs y i);
  stand = λ y z i k. stand y z (among_parts ys zs y i) k;
  no_other = λ z i. no_other z (w.no_other z i);
}
  where
    themselves : (y : Closed) → Among ys y ⊎ Among zs y → Among all y
    themselves y (inl i) = w.stay y (v.themselves y i)
    themselves y (inr i) = w.themselves y i

    stand : (y z : Closed) → Among ys y ⊎ Among zs y → KeyStandsIn g y z → Among all z
    stand y z (inl i) k = w.stay z (v.stand y z i k)
    stand y z (inr i) k = w.stand y z i k

    OfSome : List Closed → Closed → Type 0
    OfSome us z = (y : Closed) × Among us y × ((y ≡ z) ⊎ KeyStandsIn g y z)

    first : (z : Closed) → Among known z ⊎ OfSome ys z → Among known z ⊎ OfSome (ys ++ zs) z
    first z (inl i) = inl i
    first z (inr (y, i, k)) = inr (y, among_either ys zs y (inl i), k)

    no_other : (z : Closed) → Among mid z ⊎ OfSome zs z → Among known z ⊎ OfSome (ys ++ zs) z
    no_other z (inl i) = first z (v.no_other z i)
    no_other z (inr (y, i, k)) = inr (y, among_either ys zs y (inr i), k)

module _ (g : EnabledGrammar) (features : List Text) (rs : List Rule)
    (rules_are : g.rules ≡ map (enabled_rule features) (filter (λ r. is_active features r.attributes) rs))
    (enabled : (r : Rule) → Among rs r → is_active features r.attributes ≡ true)
    (single : (r : EnabledRule) → Among g.rules r → IsRule g r.name r) (flat : HasNoLevels g)
    (depth : ℕ) (calls : List Closed) (are : AreCallsToDepth g depth calls []) (keys : List Closed)
    (found : FindsKeys g (plain_calls rs ++ calls) [] keys) where
  root_of : (y : Closed) → Among (plain_calls rs) y → IsRoot g (Nonterminal.closed y)
  root_of y i = plain_is_root g features rs rules_are enabled single flat y (plain_call_is rs y i)

  of_root : (y : Closed) → IsRoot g (Nonterminal.closed y) → Among (plain_calls rs ++ calls) y
  of_root y r = among_either (plain_calls rs) calls y (inl (root_is_plain g features rs rules_are enabled single flat y r))

  of_call : (y : Closed) → Among calls y → Among (plain_calls rs ++ calls) y
  of_call y i = among_either (plain_calls rs) calls y (inr i)

  -- a rule without parameters is a plain key
  plain_key : (y : Closed) → Among (plain_calls rs) y → IsPlainKey g y
  plain_key y i =
      let p = plain_call_is rs y i in
      of_rule (root_of y i) p.call_is
    where
      of_rule : {n : Text} → IsRoot g (Nonterminal.closed y) → y ≡ Closed.call n Closeds.none None → IsPlainKey g y
      of_rule (inl (m, side, e, k)) f = cc
      of_rule (inr (r, level, j, ps, h, e)) f = record {
        name = r.name;
        rule = r;
        is_rule = j;
        no_macro = ps;
        key_is = let same : Closed.call r.name Closeds.none level ≡ y = cc in let low : level ≡ None = cc in
            sym same ∙ ap (λ k. Closed.call r.name Closeds.none k) low;
      }

  abbrev Kinds : Closed → Type 0
  Kinds z = IsPlainKey g z ⊎ (Among calls z ⊎ IsMetKey g calls z)

  -- what stands in a rule or in a call that is made
  kind_of_standing : (y z : Closed) → IsRoot g (Nonterminal.closed y) ⊎ Among calls y → HasRightCalls g y → (IsNoCall y → ⊥)
      → KeyStandsIn g y z → Kinds z
  kind_of_standing y z w h k s = go (kinds_of g flat y z h k s)
    where
      known : Among calls z ⊎ ⊥ → Kinds z
      known (inl i) = inr (inl i)
      known (inr i) = absurd i

      go : IsNoCall z ⊎ (IsPlainKey g z ⊎ CallOccursIn g y z) → Kinds z
      go (inl n) = inr (inr (record { no_call = n; holder = y; walked = w; stands = s }))
      go (inr (inl p)) = inl p
      go (inr (inr o)) = known (are.complete y z w o)

  kind_of_rule : (y z : Closed) → Among (plain_calls rs) y → (y ≡ z) ⊎ KeyStandsIn g y z → Kinds z
  kind_of_rule y z i (inl e) = inl (subst (IsPlainKey g) e (plain_key y i))
  kind_of_rule y z i (inr s) =
      let r = root_right g flat y (root_of y i) in kind_of_standing y z (inl (root_of y i)) r.0 r.1 s

  kind_of_call : (y z : Closed) → Among calls y → (y ≡ z) ⊎ KeyStandsIn g y z → Kinds z
  kind_of_call y z i (inl e) = inr (inl (subst (Among calls) e i))
  kind_of_call y z i (inr s) =
      let c = are.chains y i in
      kind_of_standing y z (inr i) (chain_right g flat c.0 y c.2) (chain_is_call g c.0 y c.2) s

  -- the keys that were found are the table of keys
  pub keys_found : IsKeyTable g calls keys
  keys_found = record {
    plain = λ n r i ps.
        let w = rule_there g n r i in
        let p = among_map (enabled_rule features) (filter (λ q. is_active features q.attributes) rs) r
        (subst (λ l. Among l r) rules_are w.0) in
        let named : p.0.name ≡ n = ap (λ z. z.name) p.2 ∙ w.1 in
        subst (λ t. Among keys (Closed.call t Closeds.none None)) named
        (found.themselves (Closed.call p.0.name Closeds.none None)
        (among_either (plain_calls rs) calls (Closed.call p.0.name Closeds.none None) (inl
        (plain_call_there rs p.0 (among_filter (λ q. is_active features q.attributes) rs p.0 p.1).0
        (ap (λ z. z.parameters) p.2 ∙ ps)))));
    calls_too = λ x i. found.themselves x (of_call x i);
    complete = λ y z w s. found.stand y z (holder y w) s;
    no_other = λ z i. no_other z (found.no_other z i);
  }
    where
      holder : (y : Closed) → IsRoot g (Nonterminal.closed y) ⊎ Among calls y → Among (plain_calls rs ++ calls) y
      holder y (inl r) = of_root y r
      holder y (inr i) = of_call y i

      of_either : (y z : Closed) → Among (plain_calls rs) y ⊎ Among calls y → (y ≡ z) ⊎ KeyStandsIn g y z → Kinds z
      of_either y z (inl i) k = kind_of_rule y z i k
      of_either y z (inr i) k = kind_of_call y z i k

      no_other : (z : Closed) → ⊥ ⊎ ((y : Closed) × Among (plain_calls rs ++ calls) y × ((y ≡ z) ⊎ KeyStandsIn g y z))
          → Kinds z
      no_other z (inl i) = absurd i
      no_other z (inr (y, i, k)) = of_either y z (among_parts (plain_calls rs) calls y i) k
