-- The keys of a grammar can be named once each level has a rule of its own; for the law of what names of keys rest on.
use Rattle.std.specs.Str.{bytes_eq}
use Rattle.std.proofs.Common.{◌≡◌, ◌≢◌, ℕ, suc, ◌+◌, ◌<◌, ◌≤◌, List, [], ◌∷◌, ◌++◌, length}
use Rattle.std.proofs.Common.{refl, ap, sym, ◌∙◌, subst, cond}
use Rattle.std.proofs.Common.{Bool, true, false, inl, inr, ◌⊎◌, arith}
use Rattle.std.specs.Prelude.{Option, Some, None, filter, flat_map, map, if◌then◌else◌}
use Rattle.std.proofs.lemmas.Bool.{true≢false}
use Rattle.std.proofs.lemmas.List.{map-append}
use Rattle.lalrpop_grammar_symbols.specs.Symbols.{Text}
use Rattle.lalrpop_grammar.specs.WrittenGrammar.{Rule, Grammar, rules_of}
use Rattle.lalrpop_grammar_language.specs.Among.{Among}
use Rattle.lalrpop_grammar_language.specs.Enabled.{EnabledRule}
use Rattle.lalrpop_grammar_language.specs.Levels.{has_levels, levels, loosest}
use Rattle.lalrpop_grammar_language.specs.Starts.{has_none}
use Rattle.lalrpop_grammar_language.specs.Expansion.{HasLevel}
use Rattle.lalrpop_grammar_language.proofs.ComparisonLemmas.{same_text-refl}
use Rattle.lalrpop_norm_theory.specs.Between.{grammar_between, rule_between}
use Rattle.lalrpop_norm_theory.specs.Keys.{with_number, before_tilde}
use Rattle.lalrpop_grammar_language.proofs.AmongLemmas.{flat_map_among}
use Rattle.lalrpop_grammar_language.proofs.AmongLemmas.{map_among}
use Rattle.lalrpop_norm_theory.specs.LevelRules.{level_name}
use Rattle.lalrpop_norm_theory.specs.LeveledGrammar.{leveled_grammar, leveled_rules, levels_in_order, rule_at_level}
use Rattle.lalrpop_norm_theory.specs.LevelNames.{after_first, AreNumberedInOrder, HasNoTildes, numbered_text}
use Rattle.lalrpop_norm_theory.specs.LevelNames.{plain_levels, plain_levels_of, tighter_levels, times_taken}
use Rattle.lalrpop_norm_theory.specs.LevelLaws.{IsLevelable}
use Rattle.lalrpop_norm_theory.proofs.LevelAttrLemmas.{key_parameters}
use Rattle.lalrpop_norm_theory.proofs.LeveledRuleLemmas.{leveled_rules_are, names_differ, rule_key, rule_of_key}
use Rattle.lalrpop_norm_theory.proofs.LevelOrderLemmas.{falling-has, falling-only, loosest-among, loosest_or_tighter}
use Rattle.lalrpop_norm_theory.proofs.LevelNameLemmas.{after}
use Rattle.lalrpop_norm_theory.proofs.PackedNameLemmas.{macro_numbered, number_cut, numbered_as, numbered_stays}
use Rattle.lalrpop_norm_theory.proofs.RightLevelLemmas.{has_loosest}
use Rattle.lalrpop_norm_precedence.proofs.OrderLemmas.{Falls, falling-falls}
use Rattle.lalrpop_norm_precedence.proofs.RankLevelLemmas.{flat_order}
use Rattle.lalrpop_norm_macros.specs.KeyNames.{HasNumberBelow, IsLevelName, IsNameable, times_by_rules}
use Rattle.lalrpop_norm_macros.specs.OrderedNames.{rule_text, rule_texts}
use Rattle.lalrpop_norm_macros.proofs.FoundNamingLemmas.{texts_between}
use Rattle.lalrpop_norm_macros.proofs.RuleTextLemmas.{plain_text_is, text_of, text_taken}

-- how often a text is taken by several lists

times_joined : (t : Text) (xs ys : List Text) → times_taken t (xs ++ ys) ≡ times_taken t xs + times_taken t ys
times_joined t [] ys = let h : times_taken t ys ≡ 0 + times_taken t ys = omega arith in h
times_joined t (x ∷ xs) ys = go (bytes_eq t x) (times_joined t xs ys)
  where
    go : (b : Bool) → times_taken t (xs ++ ys) ≡ times_taken t xs + times_taken t ys →
        length (cond b (x ∷ filter (bytes_eq t) (xs ++ ys)) (filter (bytes_eq t) (xs ++ ys)))
        ≡ length (cond b (x ∷ filter (bytes_eq t) xs) (filter (bytes_eq t) xs)) + times_taken t ys
    go true h = omega (arith, h)
    go false h = h

moved : (t n : Text) (taken rest : List Text) →
    times_taken t (n ∷ taken) + times_taken t rest ≡ times_taken t taken + times_taken t (n ∷ rest)
moved t n taken rest = go (bytes_eq t n)
  where
    go : (b : Bool) → length (cond b (n ∷ filter (bytes_eq t) taken) (filter (bytes_eq t) taken)) + times_taken t rest
        ≡ times_taken t taken + length (cond b (n ∷ filter (bytes_eq t) rest) (filter (bytes_eq t) rest))
    go true = omega arith
    go false = refl

some_taken : (t : Text) (rest : List Text) → 0 < times_taken t (t ∷ rest)
some_taken t rest =
    let h : times_taken t (t ∷ rest) ≡ suc (times_taken t rest) =
    ap (λ b. length (cond b (t ∷ filter (bytes_eq t) rest) (filter (bytes_eq t) rest))) (same_text-refl t) in
    omega (arith, h)

-- the number of a level in order

abbrev level_texts : List (Text × ℕ) → List Text
level_texts ks = map (λ k. numbered_text k.0 k.1) ks

record IsNumberedBelow (f : Text → ℕ → Text) (taken : List Text) (ks : List (Text × ℕ)) (k : Text × ℕ) : Type 0 where
  number : ℕ
  is : f k.0 k.1 ≡ with_number (numbered_text k.0 k.1) number
  below : number < times_taken (numbered_text k.0 k.1) taken + times_taken (numbered_text k.0 k.1) (level_texts ks)

numbered_below : (f : Text → ℕ → Text) (taken : List Text) (ks : List (Text × ℕ)) → AreNumberedInOrder f taken ks →
    (k : Text × ℕ) → Among ks k → IsNumberedBelow f taken ks k
numbered_below f taken [] w k i = absurd i
numbered_below f taken (l ∷ ks) w k (inl e) =
    subst (IsNumberedBelow f taken (l ∷ ks)) e (record {
      number = times_taken (numbered_text l.0 l.1) taken;
      is = w.0;
      below = let h = some_taken (numbered_text l.0 l.1) (level_texts ks) in omega (arith, h);
    })
numbered_below f taken (l ∷ ks) w k (inr i) =
    let u = numbered_below f (numbered_text l.0 l.1 ∷ taken) ks w.1 k i in
    let same = moved (numbered_text k.0 k.1) (numbered_text l.0 l.1) taken (level_texts ks) in
    record { number = u.number; is = u.is; below = let a = u.below in omega (arith, a, same) }

-- the texts of a leveled rule

clear_text : (ps : List Text) (n : Text) → before_tilde n ≡ n → rule_text ps n ≡ n
clear_text [] n h = h
clear_text (p ∷ ps) n h = refl

module _ (finds : Text → Text → Option Bool) (g : Grammar) (f : Text → ℕ → Text) (w : IsLevelable finds g f)
    (clear : HasNoTildes g) where
  -- a tighter level of a rule that is no macro is listed
  level_listed : (r : Rule) (j : ℕ) → Among (rules_of g.items) r → r.parameters ≡ [] → Among (tighter_levels r) j →
      Among {A = Text × ℕ} (plain_levels g) (r.name, j)
  level_listed r j i none t = flat_map_among plain_levels_of (rules_of g.items) r (r.name, j) i (in_levels r.parameters none)
    where
      in_levels : (ps : List Text) → ps ≡ [] →
          Among {A = Text × ℕ} (if has_none ps then map (λ l. (r.name, l)) (tighter_levels r) else []) (r.name, j)
      in_levels [] e = map_among (λ l. (r.name, l)) (tighter_levels r) j t
      in_levels (p ∷ ps) e = cc

  -- and has its text
  tighter_text : (r : Rule) (j : ℕ) → Among (rules_of g.items) r → r.parameters ≡ [] → Among (tighter_levels r) j →
      before_tilde (f r.name j) ≡ numbered_text r.name j
  tighter_text r j i none t =
      let u = numbered_as f (map (λ a. a.name) (rules_of g.items)) (plain_levels g) w.names.plain (r.name, j)
      (level_listed r j i none t) in
      ap before_tilde u.1 ∙ number_cut (numbered_text r.name j) u.0 (numbered_stays r.name j (clear r i))

  -- the loosest level has the rule's name
  first_named : (r : Rule) (j : ℕ) (js : List ℕ) → Among (rules_of g.items) r → levels_in_order (rule_between r) ≡ j ∷ js →
      f r.name j ≡ r.name
  first_named r j js i is =
      go (loosest_or_tighter (rule_between r) j
      (falling-only (levels (rule_between r)) j (subst (λ l. Among l j) (sym is) (inl refl))))
    where
      go : (loosest (rule_between r) ≡ Some j) ⊎ Among (after_first (levels_in_order (rule_between r))) j → f r.name j ≡ r.name
      go (inl e) = ap (level_name f r.name) (sym e) ∙ w.names.loosest_kept r i
      go (inr k) =
          let falls : Falls (j ∷ js) = subst Falls is (falling-falls (levels (rule_between r))) in
          let below : j < j = falls.0 j (subst (λ l. Among (after_first l) j) is k) in
          absurd (omega (arith, below))

  -- the texts of a rule's levels

  abbrev level_rules : Rule → List ℕ → List Text
  level_rules r js = rule_texts (map (rule_at_level f r) js)

  plain_texts : (r : Rule) → Among (rules_of g.items) r → r.parameters ≡ [] → (js : List ℕ) →
      ((j : ℕ) → Among js j → Among (tighter_levels r) j) →
      level_rules r js ≡ level_texts (map (λ j. (r.name, j)) js)
  plain_texts r i none [] there = refl
  plain_texts r i none (j ∷ js) there =
      ap (λ ps. rule_text ps (f r.name j) ∷ level_rules r js) none
      ∙ ap (λ t. t ∷ level_rules r js) (tighter_text r j i none (there j (inl refl)))
      ∙ ap (λ l. numbered_text r.name j ∷ l) (plain_texts r i none js (λ k h. there k (inr h)))

  -- a rule and its tighter levels take their texts, if it is no macro
  abbrev TakesLevels : Rule → Text → Type 0
  TakesLevels r t = times_taken t (r.name ∷ []) + times_taken t (level_texts (plain_levels_of r))
      ≤ times_taken t (rule_texts (leveled_rules f r))

  at_levels : (r : Rule) (t : Text) (j : ℕ) (js : List ℕ) → Among (rules_of g.items) r →
      levels_in_order (rule_between r) ≡ j ∷ js → (ps : List Text) → r.parameters ≡ ps →
      times_taken t (r.name ∷ []) + times_taken t (level_texts (if has_none ps then map (λ l. (r.name, l)) (tighter_levels r) else []))
      ≤ times_taken t (level_rules r (j ∷ js))
  at_levels r t j js i is ps e = go ps e
    where
      front : level_rules r (j ∷ js) ≡ r.name ∷ level_rules r js
      front =
          ap (λ n. rule_text r.parameters n ∷ level_rules r js) (first_named r j js i is)
          ∙ ap (λ n. n ∷ level_rules r js) (clear_text r.parameters r.name (clear r i))

      whole : times_taken t (level_rules r (j ∷ js)) ≡ times_taken t (r.name ∷ []) + times_taken t (level_rules r js)
      whole = ap (times_taken t) front ∙ times_joined t (r.name ∷ []) (level_rules r js)

      tail : tighter_levels r ≡ js
      tail = ap after_first is

      go : (ps : List Text) → r.parameters ≡ ps →
          times_taken t (r.name ∷ [])
          + times_taken t (level_texts (if has_none ps then map (λ l. (r.name, l)) (tighter_levels r) else []))
          ≤ times_taken t (level_rules r (j ∷ js))
      go [] none =
          let texts = plain_texts r i none js (λ k h. subst (λ l. Among l k) (sym tail) h) in
          let same : times_taken t (level_texts (map (λ l. (r.name, l)) (tighter_levels r))) ≡ times_taken t (level_rules r js) =
          ap (λ l. times_taken t (level_texts (map (λ k. (r.name, k)) l))) tail ∙ ap (times_taken t) (sym texts) in
          omega (arith, whole, same)
      go (p ∷ ps) some = omega (arith, whole)

  takes_levels : (r : Rule) (t : Text) → Among (rules_of g.items) r → TakesLevels r t
  takes_levels r t i = go (has_levels (rule_between r)) refl
    where
      no_tighter : levels_in_order (rule_between r) ≡ [] → level_texts (plain_levels_of r) ≡ []
      no_tighter e = by (has_none r.parameters)
        where
          by : (b : Bool) → level_texts (if b then map (λ l. (r.name, l)) (tighter_levels r) else []) ≡ []
          by true = ap (λ js. level_texts (map (λ l. (r.name, l)) (after_first js))) e
          by false = refl

      some_level : has_levels (rule_between r) ≡ true → (o : Option ℕ) → loosest (rule_between r) ≡ o →
          HasLevel (rule_between r) o → levels_in_order (rule_between r) ≡ [] → ⊥
      some_level e None is h none = true≢false (sym e ∙ h)
      some_level e (Some m) is h none =
          subst (λ l. Among l m) none (falling-has (levels (rule_between r)) m (loosest-among (rule_between r) m is))

      leveled : has_levels (rule_between r) ≡ true → (js : List ℕ) → levels_in_order (rule_between r) ≡ js →
          times_taken t (r.name ∷ []) + times_taken t (level_texts (plain_levels_of r)) ≤ times_taken t (level_rules r js)
      leveled e [] is =
          absurd (some_level e (loosest (rule_between r)) refl (has_loosest g w.right r i) is)
      leveled e (j ∷ js) is = at_levels r t j js i is r.parameters refl

      go : (b : Bool) → has_levels (rule_between r) ≡ b →
          times_taken t (r.name ∷ []) + times_taken t (level_texts (plain_levels_of r))
          ≤ times_taken t (rule_texts (if b then map (rule_at_level f r) (levels_in_order (rule_between r)) else r ∷ []))
      go true e = leveled e (levels_in_order (rule_between r)) refl
      go false e =
          let none : times_taken t (level_texts (plain_levels_of r)) ≡ 0 =
          ap (times_taken t) (no_tighter (flat_order (rule_between r) e)) in
          let one : times_taken t (rule_texts (r ∷ [])) ≡ times_taken t (r.name ∷ []) =
          ap (λ n. times_taken t (n ∷ [])) (clear_text r.parameters r.name (clear r i)) in
          omega (arith, none, one)

  -- so do all rules
  all_take : (t : Text) (rs : List Rule) → ((r : Rule) → Among rs r → Among (rules_of g.items) r) →
      times_taken t (map (λ r. r.name) rs) + times_taken t (level_texts (flat_map plain_levels_of rs))
      ≤ times_taken t (rule_texts (flat_map (leveled_rules f) rs))
  all_take t [] there = omega arith
  all_take t (r ∷ rs) there =
      let one = takes_levels r t (there r (inl refl)) in
      let rest = all_take t rs (λ q i. there q (inr i)) in
      let names = times_joined t (r.name ∷ []) (map (λ q. q.name) rs) in
      let levels : times_taken t (level_texts (plain_levels_of r ++ flat_map plain_levels_of rs))
      ≡ times_taken t (level_texts (plain_levels_of r)) + times_taken t (level_texts (flat_map plain_levels_of rs)) =
      ap (times_taken t) (map-append (λ k. numbered_text k.0 k.1) (plain_levels_of r) (flat_map plain_levels_of rs))
      ∙ times_joined t (level_texts (plain_levels_of r)) (level_texts (flat_map plain_levels_of rs)) in
      let whole : times_taken t (rule_texts (leveled_rules f r ++ flat_map (leveled_rules f) rs))
      ≡ times_taken t (rule_texts (leveled_rules f r)) + times_taken t (rule_texts (flat_map (leveled_rules f) rs)) =
      ap (times_taken t) (map-append (λ q. rule_text q.parameters q.name) (leveled_rules f r) (flat_map (leveled_rules f) rs))
      ∙ times_joined t (rule_texts (leveled_rules f r)) (rule_texts (flat_map (leveled_rules f) rs)) in
      omega (arith, one, rest, names, levels, whole)

  by_rules : (t : Text) →
      times_taken t (map (λ r. r.name) (rules_of g.items)) + times_taken t (level_texts (plain_levels g))
      ≤ times_by_rules (after finds g f) t
  by_rules t =
      let all = all_take t (rules_of g.items) (λ r i. i) in
      let same : times_taken t (rule_texts (flat_map (leveled_rules f) (rules_of g.items))) ≡ times_by_rules (after finds g f) t =
      ap (times_taken t) (texts_between (flat_map (leveled_rules f) (rules_of g.items))
      ∙ ap (map text_of) (sym (leveled_rules_are finds g f))) in
      omega (arith, all, same)

  -- the rules of the leveled grammar

  -- a rule that has its written name
  written_number : (q : EnabledRule) → Among (after finds g f).rules q → q.parameters ≡ [] → before_tilde q.name ≡ q.name →
      HasNumberBelow (after finds g f) q
  written_number q i none e = record {
    number = 0;
    is = sym e;
    below = subst (λ t. 0 < times_by_rules (after finds g f) t) (plain_text_is q none) (text_taken (after finds g f) q i);
  }

  level_number : (q : EnabledRule) (r : Rule) (j : ℕ) → Among (rules_of g.items) r → r.parameters ≡ [] →
      Among (tighter_levels r) j → q.name ≡ f r.name j → HasNumberBelow (after finds g f) q
  level_number q r j i none t e =
      let u = numbered_below f (map (λ a. a.name) (rules_of g.items)) (plain_levels g) w.names.plain (r.name, j)
      (level_listed r j i none t) in
      let text : before_tilde q.name ≡ numbered_text r.name j = ap before_tilde e ∙ tighter_text r j i none t in
      let most = by_rules (numbered_text r.name j) in
      let below = u.below in
      record {
        number = u.number;
        is = e ∙ u.is ∙ ap (λ s. with_number s u.number) (sym text);
        below = subst (λ s. u.number < times_by_rules (after finds g f) s) (sym text) (omega (arith, most, below));
      }

  -- the name of a rule: a written one's, or that of a tighter level
  data IsNameOf (r : Rule) (n : Text) : Type 0 where
    written : n ≡ r.name → IsNameOf r n
    tighter : (j : ℕ) → Among (tighter_levels r) j → n ≡ f r.name j → IsNameOf r n

  name_of_level : (r : Rule) (level : Option ℕ) → Among (rules_of g.items) r → HasLevel (rule_between r) level →
      IsNameOf r (rule_between (rule_of_key f r level)).name
  name_of_level r None i h = IsNameOf.written refl
  name_of_level r (Some j) i h = go (loosest_or_tighter (rule_between r) j h)
    where
      go : (loosest (rule_between r) ≡ Some j) ⊎ Among (after_first (levels_in_order (rule_between r))) j → IsNameOf r (f r.name j)
      go (inl e) = IsNameOf.written (ap (level_name f r.name) (sym e) ∙ w.names.loosest_kept r i)
      go (inr t) = IsNameOf.tighter j t refl

  number_of : (q : EnabledRule) → Among (after finds g f).rules q → q.parameters ≡ [] → HasNumberBelow (after finds g f) q
  number_of q i none =
      let u = rule_key finds g f q i in
      let k = u.2 in
      let same : rule_between (rule_of_key f k.rule k.level) ≡ q = ap rule_between k.is_it ∙ u.1 in
      let ps : k.rule.parameters ≡ [] = sym (key_parameters f k.rule k.level) ∙ ap (λ e. e.parameters) same ∙ none in
      go k.rule k.among ps (subst (λ e. IsNameOf k.rule e.name) same (name_of_level k.rule k.level k.among k.has_level))
    where
      go : (r : Rule) → Among (rules_of g.items) r → r.parameters ≡ [] → IsNameOf r q.name → HasNumberBelow (after finds g f) q
      go r j ps (IsNameOf.written e) = written_number q i none (subst (λ n. before_tilde n ≡ n) (sym e) (clear r j))
      go r j ps (IsNameOf.tighter l t e) = level_number q r l j ps t e

  macro_of : (q : EnabledRule) → Among (after finds g f).rules q → q.parameters ≢ [] →
      (before_tilde q.name ≡ q.name) ⊎ IsLevelName q.name
  macro_of q i some =
      let u = rule_key finds g f q i in
      let k = u.2 in
      let same : rule_between (rule_of_key f k.rule k.level) ≡ q = ap rule_between k.is_it ∙ u.1 in
      go k.rule k.among
      (λ none. some (ap (λ e. e.parameters) (sym same) ∙ key_parameters f k.rule k.level ∙ none))
      (subst (λ e. IsNameOf k.rule e.name) same (name_of_level k.rule k.level k.among k.has_level))
    where
      go : (r : Rule) → Among (rules_of g.items) r → r.parameters ≢ [] → IsNameOf r q.name →
          (before_tilde q.name ≡ q.name) ⊎ IsLevelName q.name
      go r j ps (IsNameOf.written e) = inl (subst (λ n. before_tilde n ≡ n) (sym e) (clear r j))
      go r j ps (IsNameOf.tighter l t e) =
          let v = macro_numbered g f w.names r l j ps t in
          inr (record { base = r.name; level = l; number = v.0; plain = clear r j; is = e ∙ v.1 })

  -- the law
  pub leveled_nameable : IsNameable (grammar_between finds (leveled_grammar f g))
  leveled_nameable = record { rules = names_differ finds g f w.names; numbers = number_of; macros = macro_of }
