-- What a call uses in a grammar with levels it uses, under the names of the levels, in that in which each level has a rule of its own;
-- for the law of names that are given by use.
use Rattle.std.proofs.Common.{◌≡◌, ℕ, List, [], ◌∷◌, ◌++◌, refl, ap, sym, ◌∙◌, subst, cond, Bool, true, false, inl, inr, length}
use Rattle.std.proofs.Common.{append-nil, append_assoc}
use Rattle.std.specs.Prelude.{Option, Some, None, map, filter, flat_map, zip, is_some, ◌==◌}
use Rattle.std.proofs.lemmas.Bool.{eqb-true, eq-eqb, true≢false}
use Rattle.lalrpop_grammar_symbols.specs.Symbols.{Text, Terminal, Op, Closed, Closeds}
use Rattle.lalrpop_grammar.specs.WrittenGrammar.{Alternative, Rule, Grammar}
use Rattle.lalrpop_grammar_language.specs.Among.{Among}
use Rattle.lalrpop_grammar_language.specs.Enabled.{EnabledGrammar, EnabledRule, Choice, choice_of}
use Rattle.lalrpop_grammar_language.specs.Levels.{Rank, has_levels, ranked_choices, tighter}
use Rattle.lalrpop_grammar_language.specs.Admitting.{rank_level}
use Rattle.lalrpop_grammar_language.specs.Expansion.{HasLevel}
use Rattle.lalrpop_norm_theory.specs.Between.{rule_between, with_origins}
use Rattle.lalrpop_norm_theory.specs.KeyTables.{keys_in, keys_in_all}
use Rattle.lalrpop_norm_theory.specs.LevelRules.{level_name, by_level_names, all_by_level_names}
use Rattle.lalrpop_norm_theory.specs.LeveledGrammar.{has_rank_level, level_alternatives, leveled_alternative, pass_down_to, pass_downs}
use Rattle.lalrpop_norm_theory.specs.LeveledGrammar.{ranked_alternatives}
use Rattle.lalrpop_norm_theory.specs.LevelLaws.{IsLevelable}
use Rattle.lalrpop_norm_theory.specs.UsedKeys.{CallUses, ChoiceUses, ChoicesUse, call_at_level, tighter_call}
use Rattle.lalrpop_norm_theory.proofs.LevelLemmas.{no_rank, ranked_flat}
use Rattle.lalrpop_norm_theory.proofs.LevelOrderLemmas.{one_rule}
use Rattle.lalrpop_norm_theory.proofs.LeveledRuleLemmas.{key_rule, level_of_leveled, map-join}
use Rattle.lalrpop_norm_theory.proofs.LevelAttrLemmas.{flat_key, key_parameters}
use Rattle.lalrpop_norm_theory.proofs.LevelBindingLemmas.{renamed_length}
use Rattle.lalrpop_norm_theory.proofs.LevelChoiceLemmas.{alternative_there, choice_between, choice_listed, firsts, pass_down_there}
use Rattle.lalrpop_norm_theory.proofs.LevelChoiceLemmas.{ranked_choice}
use Rattle.lalrpop_norm_theory.proofs.LevelClosingLemmas.{leveled_side, pass_side, unleveled_side}
use Rattle.lalrpop_norm_theory.proofs.LevelFitLemmas.{IsCallOf, StandsThere, fits_here, fits_there, holds_there, level_rule, side_here}
use Rattle.lalrpop_norm_theory.proofs.LevelNameLemmas.{before, after, own_rule}
use Rattle.lalrpop_norm_theory.proofs.WellLeveledLemmas.{all_well_sound}

-- keys in a symbol under the names of the levels
mutual
  keys-by_level : (f : Text → ℕ → Text) (x : Closed) → keys_in (by_level_names f x) ≡ map (by_level_names f) (keys_in x)
  keys-by_level f (Closed.terminal (Terminal.quoted t)) = refl
  keys-by_level f (Closed.terminal (Terminal.regex t)) = refl
  keys-by_level f (Closed.terminal (Terminal.bare n)) = refl
  keys-by_level f (Closed.terminal Terminal.error) = refl
  keys-by_level f (Closed.call n args level) = refl
  keys-by_level f (Closed.repeat Op.plus x) = ap (λ l. Closed.repeat Op.plus (by_level_names f x) ∷ l) (keys-by_level f x)
  keys-by_level f (Closed.repeat Op.star x) =
      ap (λ l. Closed.repeat Op.star (by_level_names f x) ∷ Closed.repeat Op.plus (by_level_names f x) ∷ l) (keys-by_level f x)
  keys-by_level f (Closed.repeat Op.question x) = ap (λ l. Closed.repeat Op.question (by_level_names f x) ∷ l) (keys-by_level f x)
  keys-by_level f (Closed.group xs) = ap (λ l. Closed.group (all_by_level_names f xs) ∷ l) (all-keys-by_level f xs)
  keys-by_level f (Closed.choose x) = keys-by_level f x
  keys-by_level f (Closed.name m n x) = keys-by_level f x
  keys-by_level f Closed.lookahead = refl
  keys-by_level f Closed.lookbehind = refl
  keys-by_level f Closed.faulty = refl

  all-keys-by_level : (f : Text → ℕ → Text) (xs : Closeds)
      → keys_in_all (all_by_level_names f xs) ≡ map (by_level_names f) (keys_in_all xs)
  all-keys-by_level f Closeds.none = refl
  all-keys-by_level f (Closeds.more x xs) =
      ap (λ l. l ++ keys_in_all (all_by_level_names f xs)) (keys-by_level f x)
      ∙ ap (λ l. map (by_level_names f) (keys_in x) ++ l) (all-keys-by_level f xs)
      ∙ sym (map-join (by_level_names f) (keys_in x) (keys_in_all xs))

listed-keys-by_level : (f : Text → ℕ → Text) (xs : List Closed)
    → flat_map keys_in (map (by_level_names f) xs) ≡ map (by_level_names f) (flat_map keys_in xs)
listed-keys-by_level f [] = refl
listed-keys-by_level f (x ∷ xs) =
    ap (λ l. l ++ flat_map keys_in (map (by_level_names f) xs)) (keys-by_level f x)
    ∙ ap (λ l. map (by_level_names f) (keys_in x) ++ l) (listed-keys-by_level f xs)
    ∙ sym (map-join (by_level_names f) (keys_in x) (flat_map keys_in xs))

-- alternatives with their ranks

abbrev unranked : Choice → Choice × Option Rank
unranked c = (c, None)

abbrev alternative_here : Alternative × Option Rank → Choice × Option Rank
alternative_here p = (choice_between p.0, p.1)

abbrev alternative_at_level : (Text → ℕ → Text) → Rule → Alternative × Option Rank → Choice × Option Rank
alternative_at_level f r p = unranked (choice_between (leveled_alternative f r p))

unranked_all : (as_ : List Alternative) → map unranked (map choice_of (with_origins as_)) ≡ map (λ a. unranked (choice_between a)) as_
unranked_all [] = refl
unranked_all (a ∷ as_) = ap (λ l. unranked (choice_between a) ∷ l) (unranked_all as_)

leveled_all : (f : Text → ℕ → Text) (r : Rule) (ps : List (Alternative × Option Rank))
    → map (λ a. unranked (choice_between a)) (map (leveled_alternative f r) ps) ≡ map (alternative_at_level f r) ps
leveled_all f r [] = refl
leveled_all f r (p ∷ ps) = ap (λ l. alternative_at_level f r p ∷ l) (leveled_all f r ps)

-- alternatives beside the ranks of their choices are these choices
zip_back : (as_ : List Alternative) (ps : List (Choice × Option Rank)) → map (λ p. p.0) ps ≡ map choice_of (with_origins as_)
    → map alternative_here (zip as_ (map (λ p. p.1) ps)) ≡ ps
zip_back [] [] e = refl
zip_back [] (p ∷ ps) e = cc
zip_back (a ∷ as_) [] e = cc
zip_back (a ∷ as_) (p ∷ ps) e =
    let front : p.0 ≡ choice_between a = cc in
    let rest : map (λ q. q.0) ps ≡ map choice_of (with_origins as_) = cc in
    ap (λ (c : Choice). (c, p.1) ∷ map alternative_here (zip as_ (map (λ q. q.1) ps))) (sym front)
    ∙ ap (λ l. p ∷ l) (zip_back as_ ps rest)

ranked_here : (r : Rule) → map alternative_here (ranked_alternatives r) ≡ ranked_choices (rule_between r)
ranked_here r = zip_back r.alternatives (ranked_choices (rule_between r)) (firsts (rule_between r))

-- what alternatives use, one list behind another
uses_join : (g : EnabledGrammar) (n : Text) (args : Closeds) (level : Option ℕ) (r : EnabledRule)
    (cs ds : List (Choice × Option Rank)) (us vs : List Closed) → ChoicesUse g n args level r cs us
    → ChoicesUse g n args level r ds vs → ChoicesUse g n args level r (cs ++ ds) (us ++ vs)
uses_join g n args level r [] ds us vs e w = subst (λ l. ChoicesUse g n args level r ds (l ++ vs)) (sym e) w
uses_join g n args level r (c ∷ cs) ds us vs (m, s, e, u, v) w =
    (m, s ++ vs, ap (λ l. l ++ vs) e ∙ append_assoc m s vs, u, uses_join g n args level r cs ds s vs v w)

module _ (finds : Text → Text → Option Bool) (g : Grammar) (f : Text → ℕ → Text) (w : IsLevelable finds g f) where
  -- one alternative
  one_forth : (r : Rule) (args : Closeds) (level : Option ℕ) → IsCallOf finds g r args level → (p : Choice × Option Rank) (c : Choice)
      → Among (ranked_choices (rule_between r)) p → rank_level p.1 ≡ level → is_some p.1 ≡ has_levels (rule_between r)
      → Among (level_rule f r level).choices c → StandsThere finds g f r args level p c → (us : List Closed)
      → ChoiceUses (before finds g) r.name args level (rule_between r) p us
      → ChoiceUses (after finds g f) (level_name f r.name level) (all_by_level_names f args) None (level_rule f r level) (c, None)
      (map (by_level_names f) us)
  one_forth r args level call p c there ranked leveled i s us (inl (chosen, e)) =
      inl (
        (fits_there finds g f w r args level call c i (holds_there finds g f r args level p c s chosen.0.holds), refl),
        ap (map (by_level_names f)) e ∙ sym (listed-keys-by_level f (side_here finds g r args p)) ∙ sym (ap (flat_map keys_in) s.side),
      )
  one_forth r args level call p c there ranked leveled i s us (inr (none, e)) =
      inr (
        λ chosen. none (fits_here finds g f w r args level call p c there leveled s chosen.0.holds, ranked),
        ap (map (by_level_names f)) e,
      )

  -- the alternatives of a rule without levels
  flat_forth : (r : Rule) (args : Closeds) → IsCallOf finds g r args None → (cs : List (Choice × Option Rank))
      → ((c : Choice × Option Rank) → Among cs c → Among (ranked_choices (rule_between r)) c) → (us : List Closed)
      → ChoicesUse (before finds g) r.name args None (rule_between r) cs us
      → ChoicesUse (after finds g f) r.name (all_by_level_names f args) None (rule_between r) cs (map (by_level_names f) us)
  flat_forth r args call [] all us e = ap (map (by_level_names f)) e
  flat_forth r args call (c ∷ cs) all us (m, s, e, u, v) = (
    map (by_level_names f) m,
    map (by_level_names f) s,
    ap (map (by_level_names f)) e ∙ map-join (by_level_names f) m s,
    subst (λ d. ChoiceUses (after finds g f) r.name (all_by_level_names f args) None (rule_between r) d (map (by_level_names f) m))
        (sym pair)
        (one_forth r args None call (c.0, None) c.0 (subst (Among (ranked_choices (rule_between r))) pair (all c (inl refl))) refl
        (sym call.has_level) listed stands m
        (subst (λ d. ChoiceUses (before finds g) r.name args None (rule_between r) d m) pair u)),
    flat_forth r args call cs (λ d i. all d (inr i)) s v,
  )
    where
      pair : c ≡ (c.0, None)
      pair = ap (λ (o : Option Rank). (c.0, o)) (no_rank (rule_between r) c call.has_level (all c (inl refl)))

      listed : Among (rule_between r).choices c.0
      listed = choice_listed (rule_between r) c (all c (inl refl))

      stands : StandsThere finds g f r args None (c.0, None) c.0
      stands = record {
        origin = refl;
        condition = refl;
        action = refl;
        side = unleveled_side finds g f w r call.among call.has_level args call.many c.0 listed;
      }

  -- the alternatives of a level
  level_forth : (r : Rule) (args : Closeds) (j : ℕ) → IsCallOf finds g r args (Some j) → (ps : List (Alternative × Option Rank))
      → ((p : Alternative × Option Rank) → Among ps p → Among (ranked_alternatives r) p) → (us : List Closed)
      → ChoicesUse (before finds g) r.name args (Some j) (rule_between r) (map alternative_here ps) us
      → ChoicesUse (after finds g f) (f r.name j) (all_by_level_names f args) None (level_rule f r (Some j))
      (map (alternative_at_level f r) (filter (λ p. has_rank_level j p.1) ps)) (map (by_level_names f) us)
  level_forth r args j call [] all us e = ap (map (by_level_names f)) e
  level_forth r args j call ((a, None) ∷ ps) all us (m, s, e, u, v) =
      subst (λ l. ChoicesUse (after finds g f) (f r.name j) (all_by_level_names f args) None (level_rule f r (Some j))
      (map (alternative_at_level f r) (filter (λ p. has_rank_level j p.1) ps)) (map (by_level_names f) l)) (sym (e ∙ ap (λ l. l ++ s) (none u)))
      (level_forth r args j call ps (λ p i. all p (inr i)) s v)
    where
      none : ChoiceUses (before finds g) r.name args (Some j) (rule_between r) (choice_between a, None) m → m ≡ []
      none (inl (chosen, k)) = let wrong : None ≡ Some j = chosen.1 in cc
      none (inr (out, k)) = k
  level_forth r args j call ((a, Some k) ∷ ps) all us (m, s, e, u, v) =
      go (k.level == j) refl (level_forth r args j call ps (λ p i. all p (inr i)) s v)
    where
      others : List (Choice × Option Rank)
      others = map (alternative_at_level f r) (filter (λ p. has_rank_level j p.1) ps)

      AtLevel : List (Choice × Option Rank) → List Closed → Type 0
      AtLevel cs l =
          ChoicesUse (after finds g f) (f r.name j) (all_by_level_names f args) None (level_rule f r (Some j)) cs (map (by_level_names f) l)

      there : Among (ranked_alternatives r) (a, Some k)
      there = all (a, Some k) (inl refl)

      mine : k.level ≡ j → ChoiceUses (after finds g f) (f r.name j) (all_by_level_names f args) None (level_rule f r (Some j))
          (alternative_at_level f r (a, Some k)) (map (by_level_names f) m)
      mine h =
          one_forth r args (Some j) call (choice_between a, Some k) (choice_between (leveled_alternative f r (a, Some k)))
          (ranked_choice r a (Some k) there) (ap Some h) (sym (level_of_leveled (rule_between r) j call.has_level))
          (subst (λ l. Among (level_rule f r (Some l)).choices (choice_between (leveled_alternative f r (a, Some k)))) h
          (alternative_there f r a k there)) (record {
            origin = refl;
            condition = refl;
            action = refl;
            side = leveled_side finds g f w r call.among args call.many a k there j;
          }) m u

      none : (k.level ≡ j → ⊥) → ChoiceUses (before finds g) r.name args (Some j) (rule_between r) (choice_between a, Some k) m
          → m ≡ []
      none far (inl (chosen, h)) =
          let same : Some k.level ≡ Some j = chosen.1 in let level_is : k.level ≡ j = cc in absurd (far level_is)
      none far (inr (out, h)) = h

      go : (b : Bool) → (k.level == j) ≡ b → AtLevel others s
          → AtLevel (map (alternative_at_level f r) (cond b ((a, Some k) ∷ filter (λ p. has_rank_level j p.1) ps)
          (filter (λ p. has_rank_level j p.1) ps))) us
      go true h later = (
        map (by_level_names f) m,
        map (by_level_names f) s,
        ap (map (by_level_names f)) e ∙ map-join (by_level_names f) m s,
        mine (eqb-true k.level j h),
        later,
      )
      go false h later =
          subst (AtLevel others) (sym (e ∙ ap (λ l. l ++ s) (none (λ same. true≢false (sym (eq-eqb k.level j same) ∙ h)) u))) later

  -- the pass to the next tighter level
  pass_forth_uses : (r : Rule) (args : Closeds) (j : ℕ) → IsCallOf finds g r args (Some j) → (o : Option ℕ)
      → tighter (rule_between r) j ≡ o
      → ChoicesUse (after finds g f) (f r.name j) (all_by_level_names f args) None (level_rule f r (Some j))
      (map (λ a. unranked (choice_between a)) (pass_downs f r o)) (map (by_level_names f) (call_at_level r.name args o))
  pass_forth_uses r args j call None e = refl
  pass_forth_uses r args j call (Some to) e = (
    Closed.call (f r.name to) (all_by_level_names f args) None ∷ [],
    [],
    refl,
    inl (
      (
        fits_there finds g f w r args (Some j) call (choice_between (pass_down_to f r to)) (pass_down_there f r j to e) tt,
        refl,
      ),
      sym (ap (flat_map keys_in)
          (pass_side finds g f w r call.among args call.many (all_well_sound (before finds g) args call.well) j to call.has_level e)),
    ),
    refl,
  )

  -- all choices of a level's rule
  level_choices : (r : Rule) (j : ℕ) → HasLevel (rule_between r) (Some j) → ranked_choices (level_rule f r (Some j))
      ≡ map (alternative_at_level f r) (filter (λ p. has_rank_level j p.1) (ranked_alternatives r))
      ++ map (λ a. unranked (choice_between a)) (pass_downs f r (tighter (rule_between r) j))
  level_choices r j h =
      ranked_flat (level_rule f r (Some j)) (flat_key f r (Some j) h)
      ∙ unranked_all (level_alternatives f r j ++ pass_downs f r (tighter (rule_between r) j))
      ∙ map-join (λ a. unranked (choice_between a)) (level_alternatives f r j) (pass_downs f r (tighter (rule_between r) j))
      ∙ ap (λ l. l ++ map (λ a. unranked (choice_between a)) (pass_downs f r (tighter (rule_between r) j)))
      (leveled_all f r (filter (λ p. has_rank_level j p.1) (ranked_alternatives r)))

  -- a call of a rule at one of its levels
  all_forth : (r : Rule) (args : Closeds) (level : Option ℕ) → IsCallOf finds g r args level → (mine : List Closed)
      → ChoicesUse (before finds g) r.name args level (rule_between r) (ranked_choices (rule_between r)) mine
      → ChoicesUse (after finds g f) (level_name f r.name level) (all_by_level_names f args) None (level_rule f r level)
      (ranked_choices (level_rule f r level)) (map (by_level_names f) (mine ++ tighter_call (rule_between r) r.name args level))
  all_forth r args None call mine u =
      subst (λ l. ChoicesUse (after finds g f) r.name (all_by_level_names f args) None (rule_between r) (ranked_choices (rule_between r))
      (map (by_level_names f) l)) (sym (append-nil mine))
      (flat_forth r args call (ranked_choices (rule_between r)) (λ c i. i) mine u)
  all_forth r args (Some j) call mine u =
      let there : ChoicesUse (before finds g) r.name args (Some j) (rule_between r) (map alternative_here (ranked_alternatives r)) mine =
      subst (λ cs. ChoicesUse (before finds g) r.name args (Some j) (rule_between r) cs mine) (sym (ranked_here r)) u in
      subst (λ l. ChoicesUse (after finds g f) (f r.name j) (all_by_level_names f args) None (level_rule f r (Some j))
      (ranked_choices (level_rule f r (Some j))) l)
      (sym (map-join (by_level_names f) mine (tighter_call (rule_between r) r.name args (Some j))))
      (subst (λ cs. ChoicesUse (after finds g f) (f r.name j) (all_by_level_names f args) None (level_rule f r (Some j)) cs
      (map (by_level_names f) mine ++ map (by_level_names f) (tighter_call (rule_between r) r.name args (Some j))))
      (sym (level_choices r j call.has_level))
      (uses_join (after finds g f) (f r.name j) (all_by_level_names f args) None (level_rule f r (Some j))
      (map (alternative_at_level f r) (filter (λ p. has_rank_level j p.1) (ranked_alternatives r)))
      (map (λ a. unranked (choice_between a)) (pass_downs f r (tighter (rule_between r) j)))
      (map (by_level_names f) mine) (map (by_level_names f) (tighter_call (rule_between r) r.name args (Some j)))
      (level_forth r args j call (ranked_alternatives r) (λ p i. i) mine there)
      (pass_forth_uses r args j call (tighter (rule_between r) j) refl)))

  -- what it uses, it uses there under the names of the levels
  pub call_forth_uses : (r : Rule) (args : Closeds) (level : Option ℕ) → IsCallOf finds g r args level → (us : List Closed)
      → CallUses (before finds g) r.name args level us
      → CallUses (after finds g f) (level_name f r.name level) (all_by_level_names f args) None (map (by_level_names f) us)
  call_forth_uses r args level call us (CallUses.of_none none e) =
      absurd (none (rule_between r) (record { is_rule = own_rule finds g f w r call.among; arguments = call.many }))
  call_forth_uses r args level call us (CallUses.of_rule q mine c u e) =
      let same : q ≡ rule_between r =
      one_rule (before finds g) r.name q (rule_between r) c.is_rule (own_rule finds g f w r call.among) in
      let here : ChoicesUse (before finds g) r.name args level (rule_between r) (ranked_choices (rule_between r)) mine =
      subst (λ p. ChoicesUse (before finds g) r.name args level p (ranked_choices p) mine) same u in
      let whole : us ≡ mine ++ tighter_call (rule_between r) r.name args level =
      e ∙ ap (λ p. mine ++ tighter_call p r.name args level) same in
      CallUses.of_rule (level_rule f r level) (map (by_level_names f) (mine ++ tighter_call (rule_between r) r.name args level)) (record {
        is_rule = key_rule finds g f w.names r level call.among call.has_level;
        arguments = renamed_length f args ∙ call.many ∙ ap length (sym (key_parameters f r level));
      }) (all_forth r args level call mine here)
      (ap (map (by_level_names f)) whole
      ∙ sym (append-nil (map (by_level_names f) (mine ++ tighter_call (rule_between r) r.name args level))))
