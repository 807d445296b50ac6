-- A key uses one list of keys, and the keys in order of first use are all of the expansion; for the laws of use.
use Rattle.std.proofs.Common.{◌≡◌, ℕ, zero, suc, List, [], ◌∷◌, ◌++◌, refl, ap, sym, ◌∙◌, subst, inl, inr, ◌⊎◌, map}
use Rattle.std.specs.Prelude.{Option, Some, None, flat_map}
use Rattle.lalrpop_grammar_symbols.specs.Symbols.{Text, Closed, Closeds}
use Rattle.lalrpop_grammar.specs.WrittenGrammar.{Origin}
use Rattle.lalrpop_grammar_language.specs.Among.{Among}
use Rattle.lalrpop_grammar_language.specs.Enabled.{EnabledGrammar, EnabledRule, Choice}
use Rattle.lalrpop_grammar_language.specs.Levels.{Rank, ranked_choices, loosest, tighter}
use Rattle.lalrpop_grammar_language.specs.Closing.{right_side}
use Rattle.lalrpop_grammar_language.specs.Admitting.{Fits, argument_list, bind}
use Rattle.lalrpop_grammar_language.specs.Expansion.{GrammarSymbol, Nonterminal, RightSide, grammar_symbol, Produces, ByAlternative}
use Rattle.lalrpop_grammar_language.specs.Expansion.{ByPassDown, HasLevel, IsRoot, IsReachedIn, InExpansion, origin_with}
use Rattle.lalrpop_grammar_language.proofs.AmongLemmas.{map_among, flat_map_among, among_flat_map}
use Rattle.lalrpop_grammar_language.proofs.PlaceLemmas.{among_map}
use Rattle.lalrpop_grammar_language.proofs.StepLemmas.{among_left, among_right}
use Rattle.lalrpop_grammar_language.proofs.OrderLemmas.{among_parts}
use Rattle.lalrpop_norm_theory.specs.KeyTables.{IsNoCall, keys_in}
use Rattle.lalrpop_norm_theory.specs.LeveledGrammar.{levels_in_order}
use Rattle.lalrpop_norm_theory.specs.LevelNames.{after_first}
use Rattle.lalrpop_norm_theory.specs.FirstUse.{AreUsesOf, UseNoOther}
use Rattle.lalrpop_norm_theory.specs.UsedKeys.{AreKeysByUse, CallUses, ChoiceUses, ChoicesUse, IsChosenAt, KeyUses}
use Rattle.lalrpop_norm_theory.specs.UsedKeys.{call_at_level, keys_of_side, rule_at_levels, tighter_at, tighter_call, unless_macro}
use Rattle.lalrpop_norm_theory.specs.UsedKeys.{written_keys}
use Rattle.lalrpop_norm_theory.proofs.ExpansionListLemmas.{rule_there}
use Rattle.lalrpop_norm_theory.proofs.FirstUseLemmas.{IsUser, order_one, used_behind, used_by_all}
use Rattle.lalrpop_norm_theory.proofs.KeyTableLemmas.{part_stands, reach, shape_makes, stands_trans}
use Rattle.lalrpop_norm_theory.proofs.LevelLemmas.{no_loosest}
use Rattle.lalrpop_norm_theory.proofs.LevelOrderLemmas.{loosest_or_tighter, one_rule}

-- one list

choice_one : (g : EnabledGrammar) (n : Text) (args : Closeds) (level : Option ℕ) (r : EnabledRule) (c : Choice × Option Rank)
    (us vs : List Closed) → ChoiceUses g n args level r c us → ChoiceUses g n args level r c vs → us ≡ vs
choice_one g n args level r c us vs (inl u) (inl v) = u.1 ∙ sym v.1
choice_one g n args level r c us vs (inl u) (inr v) = absurd (v.0 u.0)
choice_one g n args level r c us vs (inr u) (inl v) = absurd (u.0 v.0)
choice_one g n args level r c us vs (inr u) (inr v) = u.1 ∙ sym v.1

choices_one : (g : EnabledGrammar) (n : Text) (args : Closeds) (level : Option ℕ) (r : EnabledRule)
    (cs : List (Choice × Option Rank)) (us vs : List Closed) → ChoicesUse g n args level r cs us
    → ChoicesUse g n args level r cs vs → us ≡ vs
choices_one g n args level r [] us vs e f = e ∙ sym f
choices_one g n args level r (c ∷ cs) us vs (m, s, e, u, w) (k, t, f, v, z) =
    e ∙ ap (λ l. l ++ s) (choice_one g n args level r c m k u v)
    ∙ ap (λ l. k ++ l) (choices_one g n args level r cs s t w z) ∙ sym f

call_one : (g : EnabledGrammar) (n : Text) (args : Closeds) (level : Option ℕ) (us vs : List Closed)
    → CallUses g n args level us → CallUses g n args level vs → us ≡ vs
call_one g n args level us vs (CallUses.of_rule r m i w e) (CallUses.of_rule q k j z f) =
    let same : r ≡ q = one_rule g n r q i.is_rule j.is_rule in
    e
    ∙ ap (λ l. l ++ tighter_call r n args level)
    (choices_one g n args level r (ranked_choices r) m k w
    (subst (λ p. ChoicesUse g n args level p (ranked_choices p) k) (sym same) z))
    ∙ ap (λ p. k ++ tighter_call p n args level) same ∙ sym f
call_one g n args level us vs (CallUses.of_rule r m i w e) (CallUses.of_none h f) = absurd (h r i)
call_one g n args level us vs (CallUses.of_none h e) (CallUses.of_rule q k j z f) = absurd (h q j)
call_one g n args level us vs (CallUses.of_none h e) (CallUses.of_none k f) = e ∙ sym f

-- a key uses one list of keys
pub key_uses_one : (g : EnabledGrammar) (y : Closed) (us vs : List Closed) → KeyUses g y us → KeyUses g y vs → us ≡ vs
key_uses_one g (Closed.call n args level) us vs u v = call_one g n args level us vs u v
key_uses_one g (Closed.terminal t) us vs u v = u ∙ sym v
key_uses_one g (Closed.repeat op x) us vs u v = u ∙ sym v
key_uses_one g (Closed.group xs) us vs u v = u ∙ sym v
key_uses_one g (Closed.choose x) us vs u v = u ∙ sym v
key_uses_one g (Closed.name m n x) us vs u v = u ∙ sym v
key_uses_one g Closed.lookahead us vs u v = u ∙ sym v
key_uses_one g Closed.lookbehind us vs u v = u ∙ sym v
key_uses_one g Closed.faulty us vs u v = u ∙ sym v

-- and the keys of a grammar have one order
pub keys_one_order : (g : EnabledGrammar) (others more : List Closed) → AreKeysByUse g others → AreKeysByUse g more
    → others ≡ more
keys_one_order g others more v w = order_one (KeyUses g) (key_uses_one g) (written_keys g) others more v w

-- what is used

-- what an alternative that may be chosen uses is used by the call
choice_used : (g : EnabledGrammar) (n : Text) (args : Closeds) (level : Option ℕ) (r : EnabledRule)
    (cs : List (Choice × Option Rank)) (us : List Closed) → ChoicesUse g n args level r cs us → (c : Choice × Option Rank)
    → Among cs c → IsChosenAt g n args level r c → (x : Closed) → Among (keys_of_side g r args c) x → Among us x
choice_used g n args level r [] us e c i h x j = absurd i
choice_used g n args level r (d ∷ cs) us (m, s, e, u, w) c (inl f) h x j =
    subst (λ l. Among l x) (sym e) (among_left m s x (mine u))
  where
    mine : ChoiceUses g n args level r d m → Among m x
    mine (inl v) = subst (λ l. Among l x) (sym v.1) (subst (λ a. Among (keys_of_side g r args a) x) (sym f) j)
    mine (inr v) = absurd (v.0 (subst (IsChosenAt g n args level r) (sym f) h))
choice_used g n args level r (d ∷ cs) us (m, s, e, u, w) c (inr i) h x j =
    subst (λ l. Among l x) (sym e) (among_right m s x (choice_used g n args level r cs s w c i h x j))

-- the alternative by which a call uses the key
pub record IsUsingChoice (g : EnabledGrammar) (n : Text) (args : Closeds) (level : Option ℕ) (r : EnabledRule)
    (cs : List (Choice × Option Rank)) (x : Closed) : Type 0 where
  pub choice : Choice × Option Rank
  pub among : Among cs choice
  pub chosen : IsChosenAt g n args level r choice
  pub in_side : Among (keys_of_side g r args choice) x

-- what a call uses by its alternatives is used by one of them
pub using_choice : (g : EnabledGrammar) (n : Text) (args : Closeds) (level : Option ℕ) (r : EnabledRule)
    (cs : List (Choice × Option Rank)) (us : List Closed) → ChoicesUse g n args level r cs us → (x : Closed) → Among us x
    → IsUsingChoice g n args level r cs x
using_choice g n args level r [] us e x i = absurd (subst (λ l. Among l x) e i)
using_choice g n args level r (c ∷ cs) us (m, s, e, u, w) x i =
    go (among_parts m s x (subst (λ l. Among l x) e i)) (λ j. using_choice g n args level r cs s w x j)
  where
    mine : ChoiceUses g n args level r c m → Among m x → IsUsingChoice g n args level r (c ∷ cs) x
    mine (inl v) j = record { choice = c; among = inl refl; chosen = v.0; in_side = subst (λ l. Among l x) v.1 j }
    mine (inr v) j = absurd (subst (λ l. Among l x) v.1 j)

    go : Among m x ⊎ Among s x → (Among s x → IsUsingChoice g n args level r cs x)
        → IsUsingChoice g n args level r (c ∷ cs) x
    go (inl j) later = mine u j
    go (inr j) later =
        let v = later j in record { choice = v.choice; among = inr v.among; chosen = v.chosen; in_side = v.in_side }

-- an element of an alternative's right side that becomes the nonterminal has it as a key
abbrev nt : Closed → GrammarSymbol Nonterminal
nt x = GrammarSymbol.nonterminal (Nonterminal.closed x)

side_stands : (xs : List Closed) (y : Closed) → Among (map grammar_symbol xs) (nt y) → Among (flat_map keys_in xs) y
side_stands xs y h =
    let w = among_map grammar_symbol xs (nt y) h in flat_map_among keys_in xs w.0 y w.1 (part_stands w.0 y w.2)

-- what stands in what stands in some symbols stands in them
side_trans : (xs : List Closed) (z y : Closed) → Among (flat_map keys_in xs) z → Among (keys_in z) y
    → Among (flat_map keys_in xs) y
side_trans xs z y h k =
    let w = among_flat_map keys_in xs z h in flat_map_among keys_in xs w.0 y w.1 (stands_trans w.0 z y w.2 k)

-- what a call makes it uses
by_alternative_used : (g : EnabledGrammar) (n : Text) (args : Closeds) (level : Option ℕ) (o : Origin) (side : RightSide)
    (us : List Closed) → ByAlternative g n args level o side → CallUses g n args level us → (x : Closed)
    → Among side (nt x) → Among us x
by_alternative_used g n args level o side us m (CallUses.of_none h e) x i =
    absurd (h m.rule (record { is_rule = m.fits.rule; arguments = m.fits.arguments }))
by_alternative_used g n args level o side us m (CallUses.of_rule r mine c w e) x i =
    let same : m.rule ≡ r = one_rule g n m.rule r m.fits.rule c.is_rule in
    let fit : Fits g n args r m.choice = subst (λ q. Fits g n args q m.choice) same m.fits in
    let there : Among (map grammar_symbol (right_side g m.rule (bind m.rule args) m.choice)) (nt x)
    = subst (λ l. Among l (nt x)) m.side_is i in
    let key : Among (keys_of_side g r args m.choice) x =
    subst (λ q. Among (keys_of_side g q args m.choice) x) same
    (side_stands (right_side g m.rule (bind m.rule args) m.choice) x there) in
    subst (λ l. Among l x) (sym e)
    (among_left mine (tighter_call r n args level) x
    (choice_used g n args level r (ranked_choices r) mine w m.choice fit.written (fit, m.level_is) x key))

by_pass_down_used : (g : EnabledGrammar) (n : Text) (args : Closeds) (level : Option ℕ) (o : Origin) (side : RightSide)
    (us : List Closed) → ByPassDown g n args level o side → CallUses g n args level us → (x : Closed)
    → Among side (nt x) → Among us x
by_pass_down_used g n args level o side us m (CallUses.of_none h e) x i =
    absurd (h m.rule (record { is_rule = m.is_rule; arguments = m.arguments }))
by_pass_down_used g n args level o side us m (CallUses.of_rule r mine c w e) x i =
    let same : m.rule ≡ r = one_rule g n m.rule r m.is_rule c.is_rule in
    let down : tighter_call r n args level ≡ Closed.call n args (Some m.to) ∷ [] =
    ap (tighter_call r n args) m.from_is
    ∙ ap (call_at_level n args) (ap (λ q. tighter q m.from) (sym same) ∙ m.to_is) in
    subst (λ l. Among l x) (sym e)
    (among_right mine (tighter_call r n args level) x
    (subst (λ l. Among l x) (sym down) (target (subst (λ l. Among l (nt x)) m.side_is i))))
  where
    target : Among (nt (Closed.call n args (Some m.to)) ∷ []) (nt x) → Among (Closed.call n args (Some m.to) ∷ []) x
    target (inl f) = inl (cc)
    target (inr k) = absurd k

-- what stands in a shape that a call uses is used by it too
shape_used : (g : EnabledGrammar) (n : Text) (args : Closeds) (level : Option ℕ) (us : List Closed)
    → CallUses g n args level us → (z y : Closed) → IsNoCall z → Among us z → Among (keys_in z) y → Among us y
shape_used g n args level us (CallUses.of_none h e) z y s i k = absurd (subst (λ l. Among l z) e i)
shape_used g n args level us (CallUses.of_rule r mine c w e) z y s i k =
    subst (λ l. Among l y) (sym e)
    (among_left mine (tighter_call r n args level) y
    (go (among_parts mine (tighter_call r n args level) z (subst (λ l. Among l z) e i))))
  where
    no_call : (t : Option ℕ) → Among (call_at_level n args t) z → ⊥
    no_call None j = j
    no_call (Some to) (inl f) = subst IsNoCall (sym f) s
    no_call (Some to) (inr j) = j

    no_shape : (l : Option ℕ) → Among (tighter_call r n args l) z → ⊥
    no_shape None j = j
    no_shape (Some from) j = no_call (tighter r from) j

    go : Among mine z ⊎ Among (tighter_call r n args level) z → Among mine y
    go (inl j) =
        let v = using_choice g n args level r (ranked_choices r) mine w z j in
        choice_used g n args level r (ranked_choices r) mine w v.choice v.among v.chosen y
        (side_trans (right_side g r (bind r args) v.choice) z y v.in_side k)
    go (inr j) = absurd (no_shape level j)

-- the same of any key that uses it
shape_used_by : (g : EnabledGrammar) (u : Closed) (us : List Closed) → KeyUses g u us → (z y : Closed) → IsNoCall z
    → Among us z → Among (keys_in z) y → Among us y
shape_used_by g (Closed.call n args level) us w z y s i k = shape_used g n args level us w z y s i k
shape_used_by g (Closed.terminal t) us w z y s i k = absurd (subst (λ l. Among l z) w i)
shape_used_by g (Closed.repeat op x) us w z y s i k = absurd (subst (λ l. Among l z) w i)
shape_used_by g (Closed.group xs) us w z y s i k = absurd (subst (λ l. Among l z) w i)
shape_used_by g (Closed.choose x) us w z y s i k = absurd (subst (λ l. Among l z) w i)
shape_used_by g (Closed.name m n x) us w z y s i k = absurd (subst (λ l. Among l z) w i)
shape_used_by g Closed.lookahead us w z y s i k = absurd (subst (λ l. Among l z) w i)
shape_used_by g Closed.lookbehind us w z y s i k = absurd (subst (λ l. Among l z) w i)
shape_used_by g Closed.faulty us w z y s i k = absurd (subst (λ l. Among l z) w i)

-- written rules

-- a rule that is no macro stands there at each of its levels
pub written_there : (g : EnabledGrammar) (r : EnabledRule) (x : Closed) → Among g.rules r → r.parameters ≡ []
    → Among (rule_at_levels r) x → Among (written_keys g) x
written_there g r x i ps h =
    flat_map_among (λ q. unless_macro q.parameters (rule_at_levels q)) g.rules r x i
    (subst (λ l. Among (unless_macro l (rule_at_levels r)) x) (sym ps) h)

-- a level of a rule is the loosest, or one of the tighter ones
pub at_some_level : (r : EnabledRule) (level : Option ℕ) → HasLevel r level
    → (level ≡ loosest r) ⊎ Among (tighter_at r) (Closed.call r.name Closeds.none level)
at_some_level r None h = inl (sym (no_loosest r h))
at_some_level r (Some j) h = go (loosest_or_tighter r j h)
  where
    go : (loosest r ≡ Some j) ⊎ Among (after_first (levels_in_order r)) j
        → (Some j ≡ loosest r) ⊎ Among (tighter_at r) (Closed.call r.name Closeds.none (Some j))
    go (inl e) = inl (sym e)
    go (inr i) = inr (map_among (λ k. Closed.call r.name Closeds.none (Some k)) (after_first (levels_in_order r)) j i)

level_there : (r : EnabledRule) (level : Option ℕ) → HasLevel r level
    → Among (rule_at_levels r) (Closed.call r.name Closeds.none level)
level_there r level h = go (at_some_level r level h)
  where
    go : (level ≡ loosest r) ⊎ Among (tighter_at r) (Closed.call r.name Closeds.none level)
        → Among (rule_at_levels r) (Closed.call r.name Closeds.none level)
    go (inl e) = inl (ap (λ l. Closed.call r.name Closeds.none l) (sym e))
    go (inr i) = inr i

root_there : (g : EnabledGrammar) (x : Closed) → IsRoot g (Nonterminal.closed x) → Among (written_keys g) x
root_there g x (inl (n, side, e, m)) = cc
root_there g x (inr (r, level, i, ps, h, e)) =
    let same : Closed.call r.name Closeds.none level ≡ x = cc in
    subst (Among (written_keys g)) same
    (written_there g r (Closed.call r.name Closeds.none level) (rule_there g r.name r i).0 ps (level_there r level h))

-- a written rule is a call
level_is_call : (n : Text) (js : List ℕ) (x : Closed) → Among (map (λ j. Closed.call n Closeds.none (Some j)) js) x → IsNoCall x → ⊥
level_is_call n [] x i s = i
level_is_call n (j ∷ js) x (inl e) s = subst IsNoCall (sym e) s
level_is_call n (j ∷ js) x (inr i) s = level_is_call n js x i s

rule_is_call : (r : EnabledRule) (x : Closed) → Among (rule_at_levels r) x → IsNoCall x → ⊥
rule_is_call r x (inl e) s = subst IsNoCall (sym e) s
rule_is_call r x (inr i) s = level_is_call r.name (after_first (levels_in_order r)) x i s

pub written_is_call : (g : EnabledGrammar) (x : Closed) → Among (written_keys g) x → IsNoCall x → ⊥
written_is_call g x i s =
    let w = among_flat_map (λ q. unless_macro q.parameters (rule_at_levels q)) g.rules x i in
    go w.0 w.0.parameters w.2
  where
    go : (r : EnabledRule) (ps : List Text) → Among (unless_macro ps (rule_at_levels r)) x → ⊥
    go r [] j = rule_is_call r x j s
    go r (p ∷ ps) j = j

-- all keys
module _ (g : EnabledGrammar) (others : List Closed) (by_use : AreKeysByUse g others) where
  -- what one of the keys uses is one of them
  key_used : (y : Closed) (us : List Closed) → Among (written_keys g ++ others) y → KeyUses g y us → (x : Closed) → Among us x
      → Among (written_keys g ++ others) x
  key_used y us i u x j =
      let w : UseNoOther (KeyUses g) (written_keys g ++ others) = by_use.no_more in
      w.2 x (used_by_all (KeyUses g) (key_uses_one g) (written_keys g ++ others) w.0 w.1 y us i u x j)

  -- what a repeat, a group or a lookaround among them makes is one of them
  shape_there : (z y : Closed) → IsNoCall z → Among (written_keys g) z ⊎ Among others z → Among (keys_in z) y
      → Among (written_keys g ++ others) y
  shape_there z y s (inl i) k = absurd (written_is_call g z i s)
  shape_there z y s (inr i) k =
      let u : IsUser (KeyUses g) (written_keys g ++ others) z =
      used_behind (KeyUses g) (written_keys g) others by_use.follow z i in
      key_used u.user u.list u.among u.uses_list y (shape_used_by g u.user u.list u.uses_list z y s u.used k)

  -- the list that a key among them uses
  abbrev IsListOf : Closed → Type 0
  IsListOf y = (us : List Closed) × KeyUses g y us

  made_there : (y x : Closed) (o : Origin) (side : RightSide) → Among (written_keys g ++ others) y → IsListOf y
      → Produces g (Nonterminal.closed y) o side → Among side (nt x) → Among (written_keys g ++ others) x
  made_there (Closed.call n args level) x o side i (us, u) (inl m) j =
      key_used (Closed.call n args level) us i u x (by_alternative_used g n args level o side us m u x j)
  made_there (Closed.call n args level) x o side i (us, u) (inr m) j =
      key_used (Closed.call n args level) us i u x (by_pass_down_used g n args level o side us m u x j)
  made_there (Closed.repeat op z) x o side i l m j =
      shape_there (Closed.repeat op z) x tt (among_parts (written_keys g) others (Closed.repeat op z) i)
      (shape_makes g (Closed.repeat op z) x o side tt m j)
  made_there (Closed.group zs) x o side i l m j =
      shape_there (Closed.group zs) x tt (among_parts (written_keys g) others (Closed.group zs) i)
      (shape_makes g (Closed.group zs) x o side tt m j)
  made_there Closed.lookahead x o side i l m j =
      shape_there Closed.lookahead x tt (among_parts (written_keys g) others Closed.lookahead i)
      (shape_makes g Closed.lookahead x o side tt m j)
  made_there Closed.lookbehind x o side i l m j =
      shape_there Closed.lookbehind x tt (among_parts (written_keys g) others Closed.lookbehind i)
      (shape_makes g Closed.lookbehind x o side tt m j)
  made_there (Closed.terminal t) x o side i l m j = absurd m
  made_there (Closed.choose z) x o side i l m j = absurd m
  made_there (Closed.name a n z) x o side i l m j = absurd m
  made_there Closed.faulty x o side i l m j = absurd m

  -- each of the keys uses some list
  list_of : (y : Closed) → Among (written_keys g ++ others) y → IsListOf y
  list_of y i = of_all (written_keys g ++ others) by_use.no_more.0 by_use.no_more.1 i
    where
      of_all : (ys us : List Closed) → AreUsesOf (KeyUses g) ys us → Among ys y → IsListOf y
      of_all [] us w j = absurd j
      of_all (z ∷ ys) us (m, r, e, u, w) (inl f) = (m, subst (λ a. KeyUses g a m) f u)
      of_all (z ∷ ys) us (m, r, e, u, w) (inr j) = of_all ys r w j

  -- a start leads to a written rule
  start_there : (n : Text) (x : Closed) (o : Origin) (side : RightSide) → Produces g (Nonterminal.start n) o side
      → Among side (nt x) → Among (written_keys g) x
  start_there n x o side (r, i, ps, public, oe, e) j =
      let w = rule_there g n r i in
      written_there g r x w.0 ps (inl (target w.1 (subst (λ l. Among l (nt x)) e j)))
    where
      target : r.name ≡ n → Among (nt (Closed.call n Closeds.none (loosest r)) ∷ []) (nt x)
          → Closed.call r.name Closeds.none (loosest r) ≡ x
      target f (inl k) =
          let same : Closed.call n Closeds.none (loosest r) ≡ x = cc in
          ap (λ t. Closed.call t Closeds.none (loosest r)) f ∙ same
      target f (inr k) = absurd k

  reached_there : (k : ℕ) (x : Closed) → IsReachedIn g k (Nonterminal.closed x) → Among (written_keys g ++ others) x
  reached_there zero x r = among_left (written_keys g) others x (root_there g x r)
  reached_there (suc k) x (Nonterminal.start n, o, side, r, m, j) =
      among_left (written_keys g) others x (start_there n x o side m j)
  reached_there (suc k) x (Nonterminal.closed y, o, side, r, m, j) =
      let i = reached_there k y r in made_there y x o side i (list_of y i) m j

  -- each nonterminal of the expansion that is no start is one of the keys
  pub keys_all : (x : Closed) → InExpansion g (Nonterminal.closed x) → Among (written_keys g ++ others) x
  keys_all x (k, r) = reached_there k x r

-- what a key of the expansion uses is in the expansion
call_used_in : (g : EnabledGrammar) (n : Text) (args : Closeds) (level : Option ℕ) (us : List Closed)
    → InExpansion g (Nonterminal.closed (Closed.call n args level)) → CallUses g n args level us → (z : Closed) → Among us z
    → InExpansion g (Nonterminal.closed z)
call_used_in g n args level us i (CallUses.of_none h e) z j = absurd (subst (λ l. Among l z) e j)
call_used_in g n args level us i (CallUses.of_rule r mine c w e) z j =
    go (among_parts mine (tighter_call r n args level) z (subst (λ l. Among l z) e j))
  where
    passed : (l o : Option ℕ) → level ≡ l → Among (tighter_call r n args l) z → InExpansion g (Nonterminal.closed z)
    passed None o f k = absurd k
    passed (Some from) o f k = target (tighter r from) refl k
      where
        target : (t : Option ℕ) → tighter r from ≡ t → Among (call_at_level n args t) z → InExpansion g (Nonterminal.closed z)
        target None h k = absurd k
        target (Some to) h (inr k) = absurd k
        target (Some to) h (inl k) = (
          suc i.0,
          (
            Nonterminal.closed (Closed.call n args level),
            Origin.pass_down,
            nt (Closed.call n args (Some to)) ∷ [],
            i.1,
            inr (record {
              rule = r;
              is_rule = c.is_rule;
              arguments = c.arguments;
              from = from;
              to = to;
              from_is = f;
              to_is = h;
              origin_is = refl;
              side_is = refl;
            }),
            inl (ap (λ x. nt x) k),
          ),
        )

    go : Among mine z ⊎ Among (tighter_call r n args level) z → InExpansion g (Nonterminal.closed z)
    go (inl k) =
        let v = using_choice g n args level r (ranked_choices r) mine w z k in
        let side = map grammar_symbol (right_side g r (bind r args) v.choice) in
        let s = among_flat_map keys_in (right_side g r (bind r args) v.choice) z v.in_side in
        reach g s.0 z (λ y f. (
          suc i.0,
          (
            Nonterminal.closed (Closed.call n args level),
            origin_with (argument_list g.spelled args) v.choice.0.origin,
            side,
            i.1,
            inl (record {
              rule = r;
              choice = v.choice;
              fits = v.chosen.0;
              level_is = v.chosen.1;
              origin_is = refl;
              side_is = refl;
            }),
            subst (Among side) f (map_among grammar_symbol (right_side g r (bind r args) v.choice) s.0 s.1),
          ),
        )) s.2
    go (inr k) = passed level None refl k

pub used_in : (g : EnabledGrammar) (y : Closed) (us : List Closed) → InExpansion g (Nonterminal.closed y) → KeyUses g y us
    → (z : Closed) → Among us z → InExpansion g (Nonterminal.closed z)
used_in g (Closed.call n args level) us i u z j = call_used_in g n args level us i u z j
used_in g (Closed.terminal t) us i e z j = absurd (subst (λ l. Among l z) e j)
used_in g (Closed.repeat op x) us i e z j = absurd (subst (λ l. Among l z) e j)
used_in g (Closed.group xs) us i e z j = absurd (subst (λ l. Among l z) e j)
used_in g (Closed.choose x) us i e z j = absurd (subst (λ l. Among l z) e j)
used_in g (Closed.name m n x) us i e z j = absurd (subst (λ l. Among l z) e j)
used_in g Closed.lookahead us i e z j = absurd (subst (λ l. Among l z) e j)
used_in g Closed.lookbehind us i e z j = absurd (subst (λ l. Among l z) e j)
used_in g Closed.faulty us i e z j = absurd (subst (λ l. Among l z) e j)
