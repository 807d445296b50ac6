-- Keys in order of first use in the grammar in which each level has a rule of its own are so in the written one, under the names of the
-- levels; for the law of names that are given by use.
use Rattle.std.proofs.Common.{◌≡◌, ℕ, zero, List, [], ◌∷◌, ◌++◌, refl, ap, sym, ◌∙◌, subst, cond, Bool, true, false, inl, inr}
use Rattle.std.proofs.Common.{◌⊎◌, append-nil}
use Rattle.std.specs.Prelude.{Option, Some, None, map, flat_map}
use Rattle.std.proofs.lemmas.Bool.{true≢false}
use Rattle.std.proofs.lemmas.Grind.{flat_map-append}
use Rattle.lalrpop_grammar_symbols.specs.Symbols.{Text, Closed, Closeds}
use Rattle.lalrpop_grammar.specs.WrittenGrammar.{Rule, Grammar, rules_of}
use Rattle.lalrpop_grammar_language.specs.Among.{Among}
use Rattle.lalrpop_grammar_language.specs.Enabled.{EnabledRule}
use Rattle.lalrpop_grammar_language.specs.Levels.{has_levels, levels, loosest}
use Rattle.lalrpop_grammar_language.specs.Expansion.{HasLevel, Nonterminal, InExpansion}
use Rattle.lalrpop_grammar_language.proofs.AmongLemmas.{among_flat_map, map_among}
use Rattle.lalrpop_grammar_language.proofs.PlaceLemmas.{among_map}
use Rattle.lalrpop_grammar_language.proofs.StepLemmas.{among_left, among_right}
use Rattle.lalrpop_grammar_language.proofs.OrderLemmas.{among_parts}
use Rattle.lalrpop_norm_theory.specs.Between.{rule_between}
use Rattle.lalrpop_norm_theory.specs.LevelRules.{by_level_names}
use Rattle.lalrpop_norm_theory.specs.LeveledGrammar.{falling_levels, leveled_rules, levels_in_order, rule_at_level}
use Rattle.lalrpop_norm_theory.specs.LevelLaws.{IsLevelable}
use Rattle.lalrpop_norm_theory.specs.LevelNames.{after_first}
use Rattle.lalrpop_norm_theory.specs.FirstUse.{AreUsesOf, FollowByUse, IsFirstNew}
use Rattle.lalrpop_norm_theory.specs.UsedKeys.{AreKeysByUse, KeyUses, rule_at_levels, tighter_at, unless_macro, written_keys}
use Rattle.lalrpop_norm_theory.proofs.FirstUseLemmas.{uses_one}
use Rattle.lalrpop_norm_theory.proofs.LevelAttrLemmas.{flat_at_level}
use Rattle.lalrpop_norm_theory.proofs.LevelExpansionLemmas.{call_of, well_in}
use Rattle.lalrpop_norm_theory.proofs.LevelLemmas.{no_levels, no_loosest}
use Rattle.lalrpop_norm_theory.proofs.LevelNameLemmas.{after, before, loosest_there}
use Rattle.lalrpop_norm_theory.proofs.LevelOrderLemmas.{falling-front, front, tighter-among}
use Rattle.lalrpop_norm_theory.proofs.LevelUseLemmas.{call_forth_uses}
use Rattle.lalrpop_norm_theory.proofs.LeveledRuleLemmas.{leveled_rules_are, map-join}
use Rattle.lalrpop_norm_theory.proofs.RightLevelLemmas.{has_loosest}
use Rattle.lalrpop_norm_theory.proofs.UsedKeyLemmas.{key_uses_one, used_in}
use Rattle.lalrpop_norm_theory.proofs.UsedListLemmas.{key-uses, uses-all, uses_of}
use Rattle.lalrpop_norm_theory.proofs.WellLeveledLemmas.{IsWellOrFaulty, well_apart}

-- a part of a mapped list is that of a part
pub record IsSplitMap (f : Closed → Closed) (xs bs : List Closed) (y : Closed) : Type 0 where
  pub before : List Closed
  pub value : Closed
  pub after : List Closed
  pub parts : xs ≡ before ++ value ∷ after
  pub before_is : map f before ≡ bs
  pub value_is : f value ≡ y

split_map : (f : Closed → Closed) (xs bs cs : List Closed) (y : Closed) → map f xs ≡ bs ++ y ∷ cs → IsSplitMap f xs bs y
split_map f [] [] cs y e = let g : [] ≡ y ∷ cs = e in cc
split_map f [] (b ∷ bs) cs y e = let g : [] ≡ b ∷ (bs ++ y ∷ cs) = e in cc
split_map f (x ∷ xs) [] cs y e =
    let g : f x ∷ map f xs ≡ y ∷ cs = e in
    let same : f x ≡ y = cc in
    record { before = []; value = x; after = xs; parts = refl; before_is = refl; value_is = same }
split_map f (x ∷ xs) (b ∷ bs) cs y e =
    let g : f x ∷ map f xs ≡ b ∷ (bs ++ y ∷ cs) = e in
    let same : f x ≡ b = cc in
    let rest : map f xs ≡ bs ++ y ∷ cs = cc in
    let v = split_map f xs bs cs y rest in
    record {
      before = x ∷ v.before;
      value = v.value;
      after = v.after;
      parts = ap (λ l. x ∷ l) v.parts;
      before_is = ap (λ l. f x ∷ l) v.before_is ∙ ap (λ z. z ∷ bs) same;
      value_is = v.value_is;
    }

-- a rule without levels stands once
pub flat_keys : (q : EnabledRule) → has_levels q ≡ false → rule_at_levels q ≡ Closed.call q.name Closeds.none None ∷ []
flat_keys q e =
    ap (λ l. Closed.call q.name Closeds.none l ∷ tighter_at q) (no_loosest q e)
    ∙ ap (λ ls. Closed.call q.name Closeds.none None
    ∷ map (λ j. Closed.call q.name Closeds.none (Some j)) (after_first (falling_levels ls))) (no_levels q e)

module _ (finds : Text → Text → Option Bool) (g : Grammar) (f : Text → ℕ → Text) (w : IsLevelable finds g f) where
  -- a nonterminal of the expansion that is no start
  abbrev IsIn : Closed → Type 0
  IsIn x = InExpansion (before finds g) (Nonterminal.closed x)

  abbrev AreIn : List Closed → Type 0
  AreIn xs = (x : Closed) → Among xs x → IsIn x

  -- two of them that have one name there are one
  apart_in : (x y : Closed) → IsIn x → IsIn y → by_level_names f x ≡ by_level_names f y → x ≡ y
  apart_in x y i j e =
      well_apart finds g f w.names x y (well_in finds g f w (Nonterminal.closed x) i) (well_in finds g f w (Nonterminal.closed y) j) e

  -- what one of them uses there
  uses_forth : (y : Closed) → IsIn y
      → KeyUses (after finds g f) (by_level_names f y) (map (by_level_names f) (uses_of (before finds g) y))
  uses_forth y i = go y (well_in finds g f w (Nonterminal.closed y) i)
    where
      go : (y : Closed) → IsWellOrFaulty (before finds g) y
          → KeyUses (after finds g f) (by_level_names f y) (map (by_level_names f) (uses_of (before finds g) y))
      go (Closed.call n args level) (inl e) = cc
      go (Closed.call n args level) (inr h) =
          let u = call_of finds g n args level h in
          subst (λ t. KeyUses (after finds g f) (by_level_names f (Closed.call t args level))
          (map (by_level_names f) (uses_of (before finds g) (Closed.call t args level)))) u.2
          (call_forth_uses finds g f w u.0 args level u.1 (uses_of (before finds g) (Closed.call u.0.name args level))
          (key-uses (before finds g) (Closed.call u.0.name args level)))
      go (Closed.terminal t) h = refl
      go (Closed.repeat op x) h = refl
      go (Closed.group xs) h = refl
      go (Closed.choose x) h = refl
      go (Closed.name m n x) h = refl
      go Closed.lookahead h = refl
      go Closed.lookbehind h = refl
      go Closed.faulty h = refl

  all_uses_forth : (ys : List Closed) → AreIn ys → AreUsesOf (KeyUses (after finds g f)) (map (by_level_names f) ys)
      (map (by_level_names f) (flat_map (uses_of (before finds g)) ys))
  all_uses_forth [] i = refl
  all_uses_forth (y ∷ ys) i = (
    map (by_level_names f) (uses_of (before finds g) y),
    map (by_level_names f) (flat_map (uses_of (before finds g)) ys),
    map-join (by_level_names f) (uses_of (before finds g) y) (flat_map (uses_of (before finds g)) ys),
    uses_forth y (i y (inl refl)),
    all_uses_forth ys (λ x j. i x (inr j)),
  )

  -- that is all that they use there
  uses_there : (ys us : List Closed) → AreIn ys → AreUsesOf (KeyUses (after finds g f)) (map (by_level_names f) ys) us
      → us ≡ map (by_level_names f) (flat_map (uses_of (before finds g)) ys)
  uses_there ys us i u =
      uses_one (KeyUses (after finds g f)) (key_uses_one (after finds g f)) (map (by_level_names f) ys) us
      (map (by_level_names f) (flat_map (uses_of (before finds g)) ys)) u (all_uses_forth ys i)

  used_are_in : (ys : List Closed) → AreIn ys → AreIn (flat_map (uses_of (before finds g)) ys)
  used_are_in ys i x j =
      let u = among_flat_map (uses_of (before finds g)) ys x j in
      used_in (before finds g) u.0 (uses_of (before finds g) u.0) (i u.0 u.1) (key-uses (before finds g) u.0) x u.2

  -- one of a list under the names, where it is in the expansion
  among_back : (ys : List Closed) (x : Closed) → AreIn ys → IsIn x → Among (map (by_level_names f) ys) (by_level_names f x) → Among ys x
  among_back ys x i j h =
      let u = among_map (by_level_names f) ys (by_level_names f x) h in
      subst (Among ys) (apart_in u.0 x (i u.0 u.1) j u.2) u.1

  -- keys that follow there follow here
  record HasFollowersHere (known more : List Closed) : Type 0 where
    others : List Closed
    more_is : more ≡ map (by_level_names f) others
    follow : FollowByUse (KeyUses (before finds g)) known others
    are_in : AreIn others

  follow_back : (known more : List Closed) → AreIn known
      → FollowByUse (KeyUses (after finds g f)) (map (by_level_names f) known) more → HasFollowersHere known more
  follow_back known [] i h = record { others = []; more_is = refl; follow = tt; are_in = λ x j. absurd j }
  follow_back known (y ∷ ys) i ((us, u, n), h) =
      let same : us ≡ map (by_level_names f) (flat_map (uses_of (before finds g)) known) = uses_there known us i u in
      let v = split_map (by_level_names f) (flat_map (uses_of (before finds g)) known) n.before n.after y (sym same ∙ n.parts) in
      with_split n same v (λ k. follow_back (known ++ v.value ∷ []) ys (k v)
      (subst (λ l. FollowByUse (KeyUses (after finds g f)) l ys)
      (ap (λ z. map (by_level_names f) known ++ z ∷ []) (sym v.value_is) ∙ sym (map-join (by_level_names f) known (v.value ∷ []))) h))
    where
      here : List Closed
      here = flat_map (uses_of (before finds g)) known

      Split : IsFirstNew (map (by_level_names f) known) us y → Type 0
      Split n = IsSplitMap (by_level_names f) here n.before y

      value_in : (n : IsFirstNew (map (by_level_names f) known) us y) (v : Split n) → IsIn v.value
      value_in n v =
          used_are_in known i v.value (subst (λ l. Among l v.value) (sym v.parts)
          (among_right v.before (v.value ∷ v.after) v.value (inl refl)))

      more_in : (n : IsFirstNew (map (by_level_names f) known) us y) (v : Split n) → AreIn (known ++ v.value ∷ [])
      more_in n v x j = go (among_parts known (v.value ∷ []) x j)
        where
          go : Among known x ⊎ Among (v.value ∷ []) x → IsIn x
          go (inl k) = i x k
          go (inr (inl e)) = subst IsIn e (value_in n v)
          go (inr (inr k)) = absurd k

      first_here : (n : IsFirstNew (map (by_level_names f) known) us y) (v : Split n) → IsFirstNew known here v.value
      first_here n v = record {
        before = v.before;
        after = v.after;
        parts = v.parts;
        passed = λ z j. among_back known z i
            (used_are_in known i z (subst (λ l. Among l z) (sym v.parts) (among_left v.before (v.value ∷ v.after) z j)))
            (n.passed (by_level_names f z) (subst (λ l. Among l (by_level_names f z)) v.before_is
            (map_among (by_level_names f) v.before z j)));
        new = λ j. n.new (subst (Among (map (by_level_names f) known)) v.value_is (map_among (by_level_names f) known v.value j));
      }

      with_split : (n : IsFirstNew (map (by_level_names f) known) us y)
          → us ≡ map (by_level_names f) here → (v : Split n)
          → (((v : Split n) → AreIn (known ++ v.value ∷ [])) → HasFollowersHere (known ++ v.value ∷ []) ys)
          → HasFollowersHere known (y ∷ ys)
      with_split n same v later =
          let r = later (more_in n) in
          record {
            others = v.value ∷ r.others;
            more_is = ap (λ l. y ∷ l) r.more_is ∙ ap (λ z. z ∷ map (by_level_names f) r.others) (sym v.value_is);
            follow = ((here, uses-all (before finds g) known, first_here n v), r.follow);
            are_in = λ x j. go x r j;
          }
        where
          go : (x : Closed) → (r : HasFollowersHere (known ++ v.value ∷ []) ys) → Among (v.value ∷ r.others) x → IsIn x
          go x r (inl e) = subst IsIn e (value_in n v)
          go x r (inr j) = r.are_in x j

  -- written rules

  abbrev named : Rule → List ℕ → List Closed
  named r js = map (λ j. Closed.call (f r.name j) Closeds.none None) js

  abbrev own_keys : EnabledRule → List Closed
  own_keys q = unless_macro q.parameters (rule_at_levels q)

  unless_nil : (ps : List Text) → unless_macro ps [] ≡ []
  unless_nil [] = refl
  unless_nil (p ∷ ps) = refl

  unless_join : (ps : List Text) (xs ys : List Closed) → unless_macro ps xs ++ unless_macro ps ys ≡ unless_macro ps (xs ++ ys)
  unless_join [] xs ys = refl
  unless_join (p ∷ ps) xs ys = refl

  unless_map : (ps : List Text) (xs : List Closed)
      → unless_macro ps (map (by_level_names f) xs) ≡ map (by_level_names f) (unless_macro ps xs)
  unless_map [] xs = refl
  unless_map (p ∷ ps) xs = refl

  -- the rules of the levels of a rule
  levels_listed : (r : Rule) (js : List ℕ)
      → flat_map own_keys (map rule_between (map (rule_at_level f r) js)) ≡ unless_macro r.parameters (named r js)
  levels_listed r [] = sym (unless_nil r.parameters)
  levels_listed r (j ∷ js) =
      ap (λ l. unless_macro r.parameters l ++ flat_map own_keys (map rule_between (map (rule_at_level f r) js)))
      (flat_keys (rule_between (rule_at_level f r j)) (flat_at_level f r j))
      ∙ ap (λ l. unless_macro r.parameters (Closed.call (f r.name j) Closeds.none None ∷ []) ++ l) (levels_listed r js)
      ∙ unless_join r.parameters (Closed.call (f r.name j) Closeds.none None ∷ []) (named r js)

  tighter_named : (r : Rule) (js : List ℕ)
      → map (by_level_names f) (map (λ j. Closed.call r.name Closeds.none (Some j)) js) ≡ named r js
  tighter_named r [] = refl
  tighter_named r (j ∷ js) = ap (λ l. Closed.call (f r.name j) Closeds.none None ∷ l) (tighter_named r js)

  all_named : (r : Rule) → has_levels (rule_between r) ≡ true → HasLevel (rule_between r) (loosest (rule_between r)) → (js : List ℕ)
      → front js ≡ loosest (rule_between r)
      → map (by_level_names f) (Closed.call r.name Closeds.none (loosest (rule_between r))
      ∷ map (λ j. Closed.call r.name Closeds.none (Some j)) (after_first js)) ≡ named r js
  all_named r e h [] none =
      let flat : has_levels (rule_between r) ≡ false = subst (HasLevel (rule_between r)) (sym none) h in
      absurd (true≢false (sym e ∙ flat))
  all_named r e h (j ∷ js) first =
      ap (λ l. map (by_level_names f) (Closed.call r.name Closeds.none l
      ∷ map (λ k. Closed.call r.name Closeds.none (Some k)) js)) (sym first)
      ∙ ap (λ l. Closed.call (f r.name j) Closeds.none None ∷ l) (tighter_named r js)

  pub rule_forth : (r : Rule) → Among (rules_of g.items) r
      → flat_map own_keys (map rule_between (leveled_rules f r)) ≡ map (by_level_names f) (own_keys (rule_between r))
  rule_forth r i = go (has_levels (rule_between r)) refl
    where
      itself : (ps : List Text) → unless_macro ps (Closed.call r.name Closeds.none None ∷ [])
          ≡ map (by_level_names f) (unless_macro ps (Closed.call r.name Closeds.none None ∷ []))
      itself [] = refl
      itself (p ∷ ps) = refl

      go : (b : Bool) → has_levels (rule_between r) ≡ b
          → flat_map own_keys (map rule_between (cond b (map (rule_at_level f r) (levels_in_order (rule_between r))) (r ∷ [])))
          ≡ map (by_level_names f) (own_keys (rule_between r))
      go false e =
          append-nil (own_keys (rule_between r)) ∙ ap (unless_macro r.parameters) (flat_keys (rule_between r) e)
          ∙ itself r.parameters
          ∙ ap (λ l. map (by_level_names f) (unless_macro r.parameters l)) (sym (flat_keys (rule_between r) e))
      go true e =
          levels_listed r (levels_in_order (rule_between r))
          ∙ ap (unless_macro r.parameters)
          (sym (all_named r e (has_loosest g w.right r i) (levels_in_order (rule_between r)) (falling-front (levels (rule_between r)))))
          ∙ unless_map r.parameters (rule_at_levels (rule_between r))

  rules_forth : (rs : List Rule) → ((r : Rule) → Among rs r → Among (rules_of g.items) r)
      → flat_map own_keys (map rule_between (flat_map (leveled_rules f) rs))
      ≡ map (by_level_names f) (flat_map own_keys (map rule_between rs))
  rules_forth [] all = refl
  rules_forth (r ∷ rs) all =
      ap (flat_map own_keys) (map-join rule_between (leveled_rules f r) (flat_map (leveled_rules f) rs))
      ∙ flat_map-append own_keys (map rule_between (leveled_rules f r)) (map rule_between (flat_map (leveled_rules f) rs))
      ∙ ap (λ l. l ++ flat_map own_keys (map rule_between (flat_map (leveled_rules f) rs))) (rule_forth r (all r (inl refl)))
      ∙ ap (λ l. map (by_level_names f) (own_keys (rule_between r)) ++ l) (rules_forth rs (λ q i. all q (inr i)))
      ∙ sym (map-join (by_level_names f) (own_keys (rule_between r)) (flat_map own_keys (map rule_between rs)))

  pub written_forth : written_keys (after finds g f) ≡ map (by_level_names f) (written_keys (before finds g))
  written_forth = ap (flat_map own_keys) (leveled_rules_are finds g f) ∙ rules_forth (rules_of g.items) (λ r i. i)

  pub written_in : AreIn (written_keys (before finds g))
  written_in x i =
      let u = among_flat_map own_keys (before finds g).rules x i in go u.0 u.1 u.0.parameters refl u.2
    where
      go : (r : EnabledRule) → Among (before finds g).rules r → (ps : List Text) → r.parameters ≡ ps
          → Among (unless_macro ps (rule_at_levels r)) x → IsIn x
      go r j (p ∷ ps) e h = absurd h
      go r j [] e (inl same) =
          let is = w.resolved.rules r j in
          (zero, inr (r, loosest r, is, e, loosest_there finds g f w r.name r is, ap Nonterminal.closed (sym same)))
      go r j [] e (inr h) =
          let u = among_map (λ k. Closed.call r.name Closeds.none (Some k)) (after_first (levels_in_order r)) x h in
          (zero, inr (r, Some u.0, w.resolved.rules r j, e, tighter-among r u.0 u.1, ap Nonterminal.closed (sym u.2)))

  -- the order

  -- What is in order there is so here, under the names of the levels.
  pub record IsOrderHere (more : List Closed) : Type 0 where
    pub others : List Closed
    pub more_is : more ≡ map (by_level_names f) others
    pub in_order : AreKeysByUse (before finds g) others
    pub are_in : AreIn others

  pub order_back : (more : List Closed) → AreKeysByUse (after finds g f) more → IsOrderHere more
  order_back more v =
      let r = follow_back (written_keys (before finds g)) more written_in
      (subst (λ l. FollowByUse (KeyUses (after finds g f)) l more) written_forth v.follow) in
      record {
        others = r.others;
        more_is = r.more_is;
        in_order = record {
          follow = r.follow;
          no_more = (
            flat_map (uses_of (before finds g)) (written_keys (before finds g) ++ r.others),
            uses-all (before finds g) (written_keys (before finds g) ++ r.others),
            λ x i. no_more r x i,
          );
        };
        are_in = r.are_in;
      }
    where
      no_more : (r : HasFollowersHere (written_keys (before finds g)) more) (x : Closed)
          → Among (flat_map (uses_of (before finds g)) (written_keys (before finds g) ++ r.others)) x
          → Among (written_keys (before finds g) ++ r.others) x
      no_more r x i =
          let here : List Closed = written_keys (before finds g) ++ r.others in
          let whole : written_keys (after finds g f) ++ more ≡ map (by_level_names f) here =
          ap (λ l. l ++ more) written_forth ∙ ap (λ l. map (by_level_names f) (written_keys (before finds g)) ++ l) r.more_is
          ∙ sym (map-join (by_level_names f) (written_keys (before finds g)) r.others) in
          let same : v.no_more.0 ≡ map (by_level_names f) (flat_map (uses_of (before finds g)) here) =
          uses_there here v.no_more.0 here_in
          (subst (λ l. AreUsesOf (KeyUses (after finds g f)) l v.no_more.0) whole v.no_more.1) in
          among_back here x here_in (used_are_in here here_in x i)
          (subst (λ l. Among l (by_level_names f x)) whole
          (v.no_more.2 (by_level_names f x) (subst (λ l. Among l (by_level_names f x)) (sym same)
          (map_among (by_level_names f) (flat_map (uses_of (before finds g)) here) x i))))
        where
          here_in : AreIn (written_keys (before finds g) ++ r.others)
          here_in z j = go (among_parts (written_keys (before finds g)) r.others z j)
            where
              go : Among (written_keys (before finds g)) z ⊎ Among r.others z → IsIn z
              go (inl k) = written_in z k
              go (inr k) = r.are_in z k
