-- Calls that are found one after another are the rounds of calls by least depth; for the search.
use Rattle.std.proofs.Common.{◌≡◌, ℕ, zero, suc, List, [], ◌∷◌, ◌++◌, refl, ap, sym, ◌∙◌, subst, inl, inr}
use Rattle.std.proofs.Common.{◌⊎◌, map, append-nil}
use Rattle.std.proofs.Common.{append_assoc, ◌+◌, ◌<◌, arith, drop, get_or, length}
use Rattle.std.proofs.lemmas.List.{drop-map, drop_at, length-map}
use Rattle.std.specs.Prelude.{Bool, true, Option, Some, None, Result, Ok, Err, IfErr, IfOk, filter}
use Rattle.lalrpop_grammar_symbols.specs.Symbols.{Text, Closed, Closeds}
use Rattle.lalrpop_grammar_symbols.specs.Views.{span_view}
use Rattle.lalrpop_grammar.specs.WrittenGrammar.{Grammar, Rule}
use Rattle.lalrpop_grammar_language.specs.Among.{Among}
use Rattle.lalrpop_grammar_language.specs.Enabled.{EnabledGrammar, EnabledRule, IsRule, enabled_rule, is_active}
use Rattle.lalrpop_grammar_language.specs.Expansion.{GrammarSymbol, HasLevel, IsRoot, Nonterminal}
use Rattle.lalrpop_grammar_language.proofs.PlaceLemmas.{among_filter, among_map}
use Rattle.lalrpop_norm_theory.specs.Depth.{CallOccursIn, HasCallChain, IsTooDeep, calls_in_all, calls_in_grammar_symbol}
use Rattle.lalrpop_norm_theory.specs.Premises.{HasNoLevels}
use Rattle.lalrpop_norm_theory.specs.Rounds.{AreCallsToDepth}
use Rattle.lalrpop_norm_theory.proofs.AmongLemmas.{among_either}
use Rattle.lalrpop_grammar_language.proofs.AmongLemmas.{map_among}
use Rattle.lalrpop_grammar_language.proofs.StepLemmas.{among_right}
use Rattle.lalrpop_grammar_language.proofs.StepLemmas.{among_left}
use Rattle.lalrpop_grammar_language.proofs.OrderLemmas.{among_parts}
use Rattle.lalrpop_norm_theory.proofs.DepthLemmas.{before_rounds, left_too_deep, one_deeper}
use Rattle.lalrpop_norm_theory.proofs.ExpansionListLemmas.{rule_there}
use Rattle.lalrpop_norm_theory.proofs.LevelLemmas.{keeps, no_levels}
use Rattle.lalrpop_norm_theory.specs.KeyTables.{IsNoCall}
use Rattle.lalrpop_grammar_repr.specs.declared.session.NormFault.{NormFault}
use Rattle.lalrpop_grammar_repr.specs.declared.session.NormFault.TheVariants as faults
use Rattle.lalrpop_norm_keys.specs.Tables.{AddsKeys}
use Rattle.lalrpop_norm_keys.proofs.TableLemmas.{Extends, adds_extend}
use Rattle.lalrpop_norm_keys.specs.FoundCalls.{AreCalls, FindsCalls, HasCallIndex, HasFoundCalls, IsToldAt, TellsOfAnyCall}
use Rattle.lalrpop_norm_keys.specs.FoundCalls.{TellsOfMadeCall, TellsOfOneCall, plain_call_of, plain_calls}
use Rattle.lalrpop_norm_keys.specs.SearchPremises.{CanSearch}
use Rattle.lalrpop_norm_keys.specs.declared.rounds.FoundCalls.{FoundCalls}
use Rattle.lalrpop_norm_keys.specs.declared.rounds.FoundCalls.TheVariants as found
use Rattle.lalrpop_norm_theory.specs.CallPlaces.{IsMadeAt, IsPlaceBelow}
use Rattle.lalrpop_norm_keys.specs.Instances.{TellsOfCall}
use Rattle.lalrpop_norm_keys.specs.StandingCalls.{CallStandsIn, HasCallsOf}
use Rattle.lalrpop_grammar_rules.specs.Views.{closed_view, closeds}
use Rattle.lalrpop_grammar_rules.specs.declared.closed.closed_symbol.ClosedSymbol.{ClosedSymbol}
use Rattle.lalrpop_norm_keys.proofs.StandingCallLemmas.{occurring_stands, standing_occurs}
use Rattle.lalrpop_norm_keys.proofs.SymbolLemmas.{calls_are_calls}

-- the calls in the symbols on the right sides of a call are found, where they are added
pub found_of_symbols : (g : EnabledGrammar) (y : Closed) (known all xs us : List Closed) → xs ≡ calls_in_all (closeds us)
    → HasCallsOf g y us → AddsKeys known xs all → FindsCalls g (y ∷ []) known all
found_of_symbols g y known all xs us e are a =
    let w = adds_extend known xs all a in record {
      found = w.found;
      all_is = w.all_is;
      stands = λ x i. (y, inl refl, (are x).0 (subst (λ l. Among l x) e (w.of_added x i)));
      fresh = w.fresh;
      complete = λ z x i o. complete w z x i o;
    }
  where
    complete : Extends known xs all → (z x : Closed) → Among (y ∷ []) z → CallStandsIn g z x → Among all x
    complete w z x (inl f) o =
        w.complete x (subst (λ l. Among l x) (sym e) ((are x).1 (subst (λ v. CallStandsIn g v x) (sym f) o)))
    complete w z x (inr i) o = absurd i

-- where nothing stands nothing is found
pub found_of_none : (g : EnabledGrammar) (ys known : List Closed) → ((y x : Closed) → Among ys y → CallStandsIn g y x → ⊥)
    → FindsCalls g ys known known
found_of_none g ys known out = record {
  found = [];
  all_is = sym (append-nil known);
  stands = λ x i. absurd i;
  fresh = λ x i k. i;
  complete = λ y x i o. absurd (out y x i o);
}

-- so it is in what is no call without a level
pub found_of_leveled : (g : EnabledGrammar) (y : Closed)
    → ((n : Text) (args : Closeds) → y ≡ Closed.call n args None → ⊥) → (known : List Closed)
    → FindsCalls g (y ∷ []) known known
found_of_leveled g y k known = found_of_none g (y ∷ []) known out
  where
    at_level : (z x : Closed) → ((n : Text) (args : Closeds) → z ≡ Closed.call n args None → ⊥) → CallStandsIn g z x → ⊥
    at_level (Closed.call n args None) x none o = none n args refl
    at_level (Closed.call n args (Some l)) x none o = o
    at_level (Closed.terminal t) x none o = o
    at_level (Closed.repeat op z) x none o = o
    at_level (Closed.group zs) x none o = o
    at_level (Closed.choose z) x none o = o
    at_level (Closed.name a n z) x none o = o
    at_level Closed.lookahead x none o = o
    at_level Closed.lookbehind x none o = o
    at_level Closed.faulty x none o = o

    out : (z x : Closed) → Among (y ∷ []) z → CallStandsIn g z x → ⊥
    out z x (inl e) o = at_level y x k (subst (λ v. CallStandsIn g v x) (sym e) o)
    out z x (inr i) o = i

-- what is found in symbols and then in others
pub found_together : (g : EnabledGrammar) (ys zs known mid all : List Closed) → FindsCalls g ys known mid → FindsCalls g zs mid all
    → FindsCalls g (ys ++ zs) known all
found_together g ys zs known mid all v w = record {
  found = v.found ++ w.found;
  all_is = w.all_is ∙ ap (λ l. l ++ w.found) v.all_is ∙ append_assoc known v.found w.found;
  stands = λ x i. stands x (among_parts v.found w.found x i);
  fresh = λ x i k. fresh x (among_parts v.found w.found x i) k;
  complete = λ y x i o. complete y x (among_parts ys zs y i) o;
}
  where
    stands : (x : Closed) → Among v.found x ⊎ Among w.found x → (y : Closed) × Among (ys ++ zs) y × CallStandsIn g y x
    stands x (inl i) = let o = v.stands x i in (o.0, among_left ys zs o.0 o.1, o.2)
    stands x (inr i) = let o = w.stands x i in (o.0, among_right ys zs o.0 o.1, o.2)

    known_mid : (x : Closed) → Among known x → Among mid x
    known_mid x k = subst (λ l. Among l x) (sym v.all_is) (among_left known v.found x k)

    mid_all : (x : Closed) → Among mid x → Among all x
    mid_all x k = subst (λ l. Among l x) (sym w.all_is) (among_left mid w.found x k)

    fresh : (x : Closed) → Among v.found x ⊎ Among w.found x → Among known x → ⊥
    fresh x (inl i) k = v.fresh x i k
    fresh x (inr i) k = w.fresh x i (known_mid x k)

    complete : (y x : Closed) → Among ys y ⊎ Among zs y → CallStandsIn g y x → Among all x
    complete y x (inl i) o = mid_all x (v.complete y x i o)
    complete y x (inr i) o = w.complete y x i o

-- what is copied behind the known calls is what is left of all
pub later_calls : (before now later : List ClosedSymbol) (known all : List Closed) → map closed_view before ≡ known
    → map closed_view now ≡ all → later ≡ drop (length before) now → map closed_view later ≡ drop (length known) all
later_calls before now later known all e f h =
    ap (map closed_view) h ∙ sym (drop-map closed_view (length before) now) ∙ ap (drop (length before)) f
    ∙ ap (λ n. drop n all) (sym (length-map before closed_view) ∙ ap length e)

pub no_calls : (xs : List ClosedSymbol) → length xs ≡ 0 → map closed_view xs ≡ []
no_calls [] e = refl
no_calls (x ∷ xs) e = let wrong : ⊥ = omega (arith, e) in absurd wrong

-- where nothing is left all calls are found
pub all_found : (g : EnabledGrammar) (depth limit : ℕ) (calls walked next : List Closed) → depth ≡ limit → calls ≡ walked ++ next
    → next ≡ [] → AreCallsToDepth g depth walked next → AreCallsToDepth g limit calls []
all_found g depth limit calls walked next d e none a =
    let whole : walked ≡ calls = sym (append-nil walked) ∙ ap (λ l. walked ++ l) (sym none) ∙ sym e in
    subst (λ l. AreCallsToDepth g limit l []) whole
    (subst (λ k. AreCallsToDepth g k walked []) d (subst (AreCallsToDepth g depth walked) none a))

-- where nothing is left all calls are found, as the program sees it
pub all_found_by : (g : EnabledGrammar) (depth limit : ℕ) (calls walked : List Closed) (next : List ClosedSymbol) → depth ≡ limit
    → calls ≡ walked ++ map closed_view next → length next ≡ 0 → AreCallsToDepth g depth walked (map closed_view next)
    → AreCallsToDepth g limit calls []
all_found_by g depth limit calls walked next d e none a =
    all_found g depth limit calls walked (map closed_view next) d e (no_calls next none) a

-- and one that is left is too deep
pub first_too_deep : (g : EnabledGrammar) (depth limit : ℕ) (walked next rest : List Closed) (x : Closed) → depth ≡ limit
    → next ≡ x ∷ rest → AreCallsToDepth g depth walked next → IsTooDeep g limit x
first_too_deep g depth limit walked next rest x d e a =
    subst (λ k. IsTooDeep g k x) d (left_too_deep g depth walked next a x (subst (λ l. Among l x) (sym e) (inl refl)))

-- an element that is gone over is one of the list
pub item_among : {A B : Type 0} (f : A → B) (xs : List A) (j : ℕ) (x : A) (y : B) → j < length xs → x ≡ get_or xs j x
    → (f x ≡ y) ⊎ ⊥ → Among (map f xs) y
item_among f [] j x y lt e i = absurd (omega (arith, lt))
item_among f (z ∷ xs) zero x y lt e (inl same) = inl (ap f (sym e) ∙ same)
item_among f (z ∷ xs) (suc j) x y lt e (inl same) = inr (item_among f xs j x y (omega (arith, lt)) e (inl same))
item_among f (z ∷ xs) j x y lt e (inr i) = absurd i

-- what occurs is a call
pub occurs_is_call : (g : EnabledGrammar) (y x : Closed) → CallOccursIn g y x → IsNoCall x → ⊥
occurs_is_call g y x o k = go o.symbol o.call_is
  where
    go : (s : GrammarSymbol Nonterminal) → Among (calls_in_grammar_symbol s) x → ⊥
    go (GrammarSymbol.terminal t) i = i
    go (GrammarSymbol.nonterminal (Nonterminal.start n)) i = i
    go (GrammarSymbol.nonterminal (Nonterminal.closed z)) i = calls_are_calls z x i k

-- what a chain of calls leads to is a call
pub chain_is_call : (g : EnabledGrammar) (k : ℕ) (x : Closed) → HasCallChain g k x → IsNoCall x → ⊥
chain_is_call g zero x c k = c
chain_is_call g (suc zero) x (y, r, o) k = occurs_is_call g y x o k
chain_is_call g (suc (suc j)) x (y, c, o) k = occurs_is_call g y x o k

-- the next ones are calls
pub next_are_calls : (g : EnabledGrammar) (depth : ℕ) (walked next : List Closed) → AreCallsToDepth g depth walked next
    → AreCalls next
next_are_calls g depth walked next a = λ y i. chain_is_call g (suc depth) y (a.next_chains y i)

-- one round more of calls by least depth, where no rule has levels
pub found_round : (g : EnabledGrammar) → HasNoLevels g → (depth : ℕ) (walked next all : List Closed)
    → AreCallsToDepth g depth walked next → AreCalls next → (w : FindsCalls g next (walked ++ next) all)
    → AreCallsToDepth g (suc depth) (walked ++ next) w.found
found_round g flat depth walked next all a calls w = one_deeper g depth walked next w.found a (record {
  occurs = λ x i. let o = w.stands x i in (o.0, o.1, standing_occurs g flat o.0 x o.2);
  fresh = λ x i k. w.fresh x i (among_either walked next x k);
  complete = λ y x i o. split x (among_parts (walked ++ next) w.found x (subst (λ l. Among l x) w.all_is
      (w.complete y x i (occurring_stands g flat y x (calls y i) o))));
})
  where
    split : (x : Closed) → Among (walked ++ next) x ⊎ Among w.found x → (Among walked x ⊎ Among next x) ⊎ Among w.found x
    split x (inl i) = inl (among_parts walked next x i)
    split x (inr i) = inr i

-- what stands behind the known calls is what was found
pub later_found : (g : EnabledGrammar) (ys known all later : List Closed) → (w : FindsCalls g ys known all)
    → later ≡ drop (length known) all → later ≡ w.found
later_found g ys known all later w e = e ∙ ap (drop (length known)) w.all_is ∙ drop_at known w.found (length known) refl

-- it stands in one of those that were walked over
pub later_stands : (g : EnabledGrammar) (ys known all later : List Closed) → FindsCalls g ys known all
    → later ≡ drop (length known) all → (x : Closed) → Among later x → (y : Closed) × Among ys y × CallStandsIn g y x
later_stands g ys known all later w e x i =
    w.stands x (subst (λ l. Among l x) (later_found g ys known all later w e) i)

-- the next call of the program stands in one of those
pub next_stands : (g : EnabledGrammar) (next : List ClosedSymbol) (c : ClosedSymbol) (rest : List ClosedSymbol)
    (ys : List Closed) → next ≡ c ∷ rest
    → ((x : Closed) → Among (map closed_view next) x → (y : Closed) × Among ys y × CallStandsIn g y x)
    → (y : Closed) × Among ys y × CallStandsIn g y (closed_view c)
next_stands g next c rest ys e stand = stand (closed_view c) (subst (λ l. Among (map closed_view l) (closed_view c)) (sym e) (inl refl))

-- the calls found by a round stand behind the others
pub round_kept : (g : EnabledGrammar) → HasNoLevels g → (depth : ℕ) (walked next all later : List Closed)
    → AreCallsToDepth g depth walked next → FindsCalls g next (walked ++ next) all → later ≡ drop (length (walked ++ next)) all
    → (x : List Closed) × (all ≡ x ++ later) × AreCallsToDepth g (depth + 1) x later
round_kept g flat depth walked next all later a w e =
    let same : later ≡ w.found = later_found g next (walked ++ next) all later w e in
    let deeper : suc depth ≡ depth + 1 = omega arith in (
      walked ++ next,
      w.all_is ∙ ap (λ l. (walked ++ next) ++ l) (sym same),
      subst (λ k. AreCallsToDepth g k (walked ++ next) later) deeper
          (subst (AreCallsToDepth g (suc depth) (walked ++ next)) (sym same)
          (found_round g flat depth walked next all a (next_are_calls g depth walked next a) w)),
    )

-- roots

-- the call of a rule without parameters
pub record IsPlainCall (rs : List Rule) (y : Closed) : Type 0 where
  pub rule : Rule
  pub among : Among rs rule
  pub no_macro : rule.parameters ≡ []
  pub call_is : y ≡ Closed.call rule.name Closeds.none None

plain_of : (r : Rule) (ps : List Text) (y : Closed) → Among (plain_call_of r ps) y
    → (ps ≡ []) × (y ≡ Closed.call r.name Closeds.none None)
plain_of r [] y (inl e) = (refl, sym e)
plain_of r [] y (inr i) = absurd i
plain_of r (p ∷ ps) y i = absurd i

-- each of the plain calls of rules is the call of one of the rules that has no parameters
pub plain_call_is : (rs : List Rule) (y : Closed) → Among (plain_calls rs) y → IsPlainCall rs y
plain_call_is [] y i = absurd i
plain_call_is (r ∷ rs) y i = go (among_parts (plain_call_of r r.parameters) (plain_calls rs) y i) (λ j. plain_call_is rs y j)
  where
    go : Among (plain_call_of r r.parameters) y ⊎ Among (plain_calls rs) y → (Among (plain_calls rs) y → IsPlainCall rs y)
        → IsPlainCall (r ∷ rs) y
    go (inl j) later =
        let w = plain_of r r.parameters y j in record { rule = r; among = inl refl; no_macro = w.0; call_is = w.1 }
    go (inr j) later =
        let w = later j in record { rule = w.rule; among = inr w.among; no_macro = w.no_macro; call_is = w.call_is }

-- it is a call
pub plain_are_calls : (rs : List Rule) → AreCalls (plain_calls rs)
plain_are_calls rs y i k = let p = plain_call_is rs y i in subst IsNoCall p.call_is k

plain_there : (r : Rule) (ps : List Text) → ps ≡ [] → Among (plain_call_of r ps) (Closed.call r.name Closeds.none None)
plain_there r [] e = inl refl
plain_there r (p ∷ ps) e = cc

-- the call of a rule without parameters is one of the plain calls of the rules
pub plain_call_there : (rs : List Rule) (r : Rule) → Among rs r → r.parameters ≡ []
    → Among (plain_calls rs) (Closed.call r.name Closeds.none None)
plain_call_there [] r i e = absurd i
plain_call_there (q ∷ rs) r (inl same) e =
    among_left (plain_call_of q q.parameters) (plain_calls rs) _
    (subst (λ z. Among (plain_call_of q q.parameters) (Closed.call z.name Closeds.none None)) same
    (plain_there q q.parameters (ap (λ z. z.parameters) same ∙ e)))
plain_call_there (q ∷ rs) r (inr i) e =
    among_right (plain_call_of q q.parameters) (plain_calls rs) _ (plain_call_there rs r i e)

module _ (g : EnabledGrammar) (features : List Text) (rs : List Rule)
    (rules_are : g.rules ≡ map (enabled_rule features) (filter (λ r. is_active features r.attributes) rs))
    (enabled : (r : Rule) → Among rs r → is_active features r.attributes ≡ true)
    (single : (r : EnabledRule) → Among g.rules r → IsRule g r.name r) (flat : HasNoLevels g) where
  -- the calls of rules without parameters are the roots
  pub plain_is_root : (y : Closed) → IsPlainCall rs y → IsRoot g (Nonterminal.closed y)
  plain_is_root y p =
      let r = enabled_rule features p.rule in
      let there : Among g.rules r =
      subst (λ l. Among l r) (sym rules_are) (map_among (enabled_rule features) (filter (λ q. is_active features q.attributes) rs) p.rule
      (keeps (λ q. is_active features q.attributes) rs p.rule p.among (enabled p.rule p.among))) in
      inr (r, None, single r there, p.no_macro, flat r there, ap Nonterminal.closed p.call_is)

  pub plain_are_made : (ys : List Closed) → ys ≡ plain_calls rs → (y : Closed) → Among ys y → IsMadeAt g 0 y
  plain_are_made ys e y i = plain_is_root y (plain_call_is rs y (subst (λ l. Among l y) e i))

  pub root_is_plain : (y : Closed) → IsRoot g (Nonterminal.closed y) → Among (plain_calls rs) y
  root_is_plain y (inl (n, side, e, m)) = cc
  root_is_plain y (inr (q, level, i, ps, h, e)) =
      let there = (rule_there g q.name q i).0 in
      let w = among_map (enabled_rule features) (filter (λ r. is_active features r.attributes) rs) q
      (subst (λ l. Among l q) rules_are there) in
      let r = w.0 in
      let none : r.parameters ≡ [] = ap (λ z. z.parameters) w.2 ∙ ps in
      let named : r.name ≡ q.name = ap (λ z. z.name) w.2 in
      subst (Among (plain_calls rs)) (ap (λ n. Closed.call n Closeds.none None) named ∙ sym (at_level level h e))
      (plain_call_there rs r (among_filter (λ z. is_active features z.attributes) rs r w.1).0 none)
    where
      at_level : (l : Option ℕ) → HasLevel q l → Nonterminal.closed y ≡ Nonterminal.closed (Closed.call q.name Closeds.none l)
          → y ≡ Closed.call q.name Closeds.none None
      at_level None h e = cc
      at_level (Some l) h e =
          absurd (subst (λ ls. Among ls l) (no_levels q (flat q (rule_there g q.name q i).0)) h)

  -- before the first round the calls in rules without parameters are next
  pub found_first : (next : List Closed) → FindsCalls g (plain_calls rs) [] next → AreCallsToDepth g 0 [] next
  found_first next w = before_rounds g next chains complete
    where
      chains : (x : Closed) → Among next x → HasCallChain g 1 x
      chains x i =
          let o = w.stands x (subst (λ l. Among l x) w.all_is i) in
          (o.0, plain_is_root o.0 (plain_call_is rs o.0 o.1), standing_occurs g flat o.0 x o.2)

      complete : (y x : Closed) → IsRoot g (Nonterminal.closed y) → CallOccursIn g y x → Among next x
      complete y x r o =
          let i = root_is_plain y r in
          w.complete y x i (occurring_stands g flat y x (plain_are_calls rs y i) o)

-- what is told of a rule without parameters, or of a call that is made
pub told_of_made : (g : EnabledGrammar) (depth : ℕ) (ys : List Closed) → ((y : Closed) → Among ys y → IsMadeAt g depth y)
    → (deep : Text → Bool) (f : NormFault) → TellsOfOneCall g deep ys f → TellsOfMadeCall g deep f
told_of_made g depth ys made deep f t = go f t
  where
    Made : Closed → Type 0
    Made y = IsRoot g (Nonterminal.closed y) ⊎ ((k : ℕ) × HasCallChain g k y)

    either : (k : ℕ) (y : Closed) → IsMadeAt g k y → Made y
    either zero y m = inl m
    either (suc k) y m = inr (suc k, m)

    go : (e : NormFault) → TellsOfOneCall g deep ys e → TellsOfMadeCall g deep e
    go faults.Memory u = tt
    go (faults.Norm e) (n, args, i, u) =
        (n, args, either depth (Closed.call n args None) (made (Closed.call n args None) i), u)
    go faults.ConditionLimit (n, args, i, u) =
        (n, args, either depth (Closed.call n args None) (made (Closed.call n args None) i), u)

-- calls that were walked are calls
pub walked_are_calls : (g : EnabledGrammar) (depth : ℕ) (walked next : List Closed) → AreCallsToDepth g depth walked next
    → AreCalls walked
walked_are_calls g depth walked next a = λ y i. let c = a.chains y i in chain_is_call g c.0 y c.2

-- what is told of them
pub told_of_walked : (g : EnabledGrammar) (depth : ℕ) (walked next : List Closed) → AreCallsToDepth g depth walked next
    → (deep : Text → Bool) (f : NormFault) → TellsOfOneCall g deep walked f → TellsOfMadeCall g deep f
told_of_walked g depth walked next a deep faults.Memory t = tt
told_of_walked g depth walked next a deep (faults.Norm e) (n, args, i, t) =
    let c = a.chains (Closed.call n args None) i in (n, args, inr (c.0, c.2), t)
told_of_walked g depth walked next a deep faults.ConditionLimit (n, args, i, t) =
    let c = a.chains (Closed.call n args None) i in (n, args, inr (c.0, c.2), t)

-- what is told of the call that a symbol is
pub told_of_call : {T : Type 0} (g : EnabledGrammar) (deep : Text → Bool) (y : Closed) (n : Text) (args : Closeds)
    (r : Result T NormFault) → y ≡ Closed.call n args None → IfErr r (TellsOfCall g deep n args)
    → IfErr r (TellsOfOneCall g deep (y ∷ []))
told_of_call g deep y n args (Ok x) e t = t
told_of_call g deep y n args (Err faults.Memory) e t = tt
told_of_call g deep y n args (Err (faults.Norm f)) e t = (n, args, inl e, t)
told_of_call g deep y n args (Err faults.ConditionLimit) e t = (n, args, inl e, t)

-- what is told of a call is told of some rule
pub told_of_any : (g : EnabledGrammar) (deep : Text → Bool) (ys : List Closed) (f : NormFault) → TellsOfOneCall g deep ys f
    → TellsOfAnyCall g deep f
told_of_any g deep ys faults.Memory t = tt
told_of_any g deep ys (faults.Norm e) (n, args, i, t) = (n, args, t)
told_of_any g deep ys faults.ConditionLimit (n, args, i, t) = (n, args, t)

-- what is told of one of several calls is told of them
pub told_wider : (g : EnabledGrammar) (deep : Text → Bool) (ys zs : List Closed) → ((y : Closed) → Among ys y → Among zs y)
    → (f : NormFault) → TellsOfOneCall g deep ys f → TellsOfOneCall g deep zs f
told_wider g deep ys zs wide faults.Memory t = tt
told_wider g deep ys zs wide (faults.Norm e) (n, args, i, t) = (n, args, wide (Closed.call n args None) i, t)
told_wider g deep ys zs wide faults.ConditionLimit (n, args, i, t) = (n, args, wide (Closed.call n args None) i, t)

-- a call that is told as too deep

pub deep_index : (g : EnabledGrammar) (ys : List Closed) (x : Closed) (r : Result FoundCalls NormFault) → IfOk r (IsToldAt g ys x)
    → IfOk r HasCallIndex
deep_index g ys x (Ok (found.All calls)) h = absurd h
deep_index g ys x (Ok (found.TooDeep z span)) h = tt
deep_index g ys x (Err f) h = h

-- a call that is too deep is rightly told with its place in one of the calls, where each of these is made at the limit
pub deep_found : (g : EnabledGrammar) (features : List Text) (w : Grammar) (limit : ℕ) (ys : List Closed) (x : Closed)
    (r : Result FoundCalls NormFault) → IfOk r (IsToldAt g ys x) → (CanSearch g features w → IsTooDeep g limit x)
    → (CanSearch g features w → (y : Closed) → Among ys y → IsMadeAt g limit y)
    → IfOk r (λ told. CanSearch g features w → HasFoundCalls g limit told)
deep_found g features w limit ys x (Ok (found.All calls)) h deep made = absurd h
deep_found g features w limit ys x (Ok (found.TooDeep z span)) (same, at) deep made = λ can.
    subst (λ v. IsTooDeep g limit v × IsPlaceBelow g limit v (span_view span)) (sym same)
    (deep can, (at.0, made can at.0 at.1, at.2 can.flat))
deep_found g features w limit ys x (Err f) h deep made = h

-- a fault that is told of one of the calls is told of a call that is made, where each of them is made
pub deep_told : {T : Type 0} (g : EnabledGrammar) (features : List Text) (w : Grammar) (limit : ℕ) (ys : List Closed)
    (deep : Text → Bool) (r : Result T NormFault) → IfErr r (TellsOfOneCall g deep ys)
    → (CanSearch g features w → (y : Closed) → Among ys y → IsMadeAt g limit y)
    → IfErr r (λ f. CanSearch g features w → TellsOfMadeCall g deep f)
deep_told g features w limit ys deep (Ok t) h made = h
deep_told g features w limit ys deep (Err f) h made = λ can. told_of_made g limit ys (made can) deep f h

pub deep_any : {T : Type 0} (g : EnabledGrammar) (ys : List Closed) (deep : Text → Bool) (r : Result T NormFault)
    → IfErr r (TellsOfOneCall g deep ys) → IfErr r (TellsOfAnyCall g deep)
deep_any g ys deep (Ok t) h = h
deep_any g ys deep (Err f) h = told_of_any g deep ys f h
