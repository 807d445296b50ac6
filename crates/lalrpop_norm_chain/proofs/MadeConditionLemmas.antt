-- Conditions of the calls that are made stay through resolving and levels; for the faults of macros.
use Rattle.std.proofs.Common.{◌≡◌, ℕ, List, refl, ap, sym, ◌∙◌, subst, Bool, inl, inr}
use Rattle.std.specs.Prelude.{Option, Some, None, map, option_map, ◌↔◌}
use Rattle.lalrpop_grammar_symbols.specs.Symbols.{Text, Closed, Closeds}
use Rattle.lalrpop_grammar.specs.WrittenGrammar.{Condition, Rule, Grammar, rules_of}
use Rattle.lalrpop_grammar_language.specs.Among.{Among}
use Rattle.lalrpop_grammar_language.specs.Enabled.{EnabledGrammar, EnabledRule, Choice, IsRule}
use Rattle.lalrpop_grammar_language.specs.Levels.{Rank, ranked_choices}
use Rattle.lalrpop_grammar_language.specs.Closing.{parameter_value}
use Rattle.lalrpop_grammar_language.specs.Admitting.{bind, rank_level}
use Rattle.lalrpop_grammar_language.specs.Expansion.{Nonterminal, HasLevel, IsRoot, InExpansion}
use Rattle.lalrpop_grammar_language.proofs.PlaceLemmas.{among_map}
use Rattle.lalrpop_norm_theory.specs.Between.{rule_between, grammar_between}
use Rattle.lalrpop_grammar_language.proofs.AmongLemmas.{map_among}
use Rattle.lalrpop_norm_theory.specs.LevelRules.{level_name, by_level_names, all_by_level_names}
use Rattle.lalrpop_norm_theory.specs.Resolving.{DefinedNames, defined_names}
use Rattle.lalrpop_norm_theory.specs.Resolving.{resolved_grammar}
use Rattle.lalrpop_norm_theory.proofs.RuleChangeLemmas.{changed_rule, changed_pair, KeepsRanks}
use Rattle.lalrpop_norm_theory.proofs.RuleChangeLemmas.{HasChangedRules, levels_kept, ranked_kept, same_levels, rule_after}
use Rattle.lalrpop_norm_theory.proofs.RuleChangeLemmas.{rule_before}
use Rattle.lalrpop_norm_theory.proofs.ResolvingLemmas.{rules_resolved, bares_resolved, resolving_chains, name_change, all_changed}
use Rattle.lalrpop_norm_theory.specs.LeveledGrammar.{leveled_alternative, rule_at_level}
use Rattle.lalrpop_norm_theory.specs.LevelLaws.{nonterminal_by_level, IsLevelable}
use Rattle.lalrpop_norm_theory.proofs.LevelBindingLemmas.{renamed_value}
use Rattle.lalrpop_norm_theory.proofs.LevelChoiceLemmas.{choice_between, ranked_choice, ranked_alternative, choice_listed}
use Rattle.lalrpop_norm_theory.proofs.LevelChoiceLemmas.{IsLevelChoice, level_choice, alternative_there}
use Rattle.lalrpop_norm_theory.proofs.LevelFitLemmas.{IsCallOf, flat_written}
use Rattle.lalrpop_norm_theory.proofs.LevelExpansionLemmas.{call_of, well_in, root_forth, root_back}
use Rattle.lalrpop_norm_theory.proofs.WellLeveledLemmas.{IsWellOrFaulty}
use Rattle.lalrpop_norm_theory.proofs.KeyTableLemmas.{chain_reached}
use Rattle.lalrpop_norm_theory.proofs.LevelNameLemmas.{before, after, own_rule}
use Rattle.lalrpop_norm_theory.proofs.LevelOrderLemmas.{one_rule}
use Rattle.lalrpop_norm_theory.proofs.LevelAttrLemmas.{flat_key}
use Rattle.lalrpop_norm_theory.proofs.LeveledRuleLemmas.{rule_of_key, key_rule}
use Rattle.lalrpop_norm_theory.proofs.ChainLemmas.{same_chains}
use Rattle.lalrpop_norm_chain.specs.MadeConditions.{IsMade, HasConditionWhere}

-- resolving, as a change of rules

-- resolving keeps the attributes that say ranks
pub ranks_stay : (d : DefinedNames) → KeepsRanks (name_change d).attributes
ranks_stay d = record { marks = λ l. refl; level = λ l. refl; side = λ l. refl }

-- a grammar whose rules are changed so; how names are spelled isn't asked
module _ (finds : Text → Text → Option Bool) (g : Grammar) where
  abbrev d : DefinedNames
  d = defined_names g

  abbrev here : EnabledGrammar
  here = grammar_between finds g

  abbrev there : EnabledGrammar
  there = grammar_between finds (resolved_grammar g)

  rules_are : there.rules ≡ map (changed_rule (name_change d)) here.rules
  rules_are = ap (map rule_between) (rules_resolved d g.items) ∙ all_changed d (rules_of g.items)

  -- with the written names of the other grammar
  abbrev pub spelled_so : EnabledGrammar
  spelled_so = record here { spelled = there.spelled }

  pub changed : HasChangedRules (name_change d) spelled_so there
  changed = record {
    rules = rules_are;
    bares = bares_resolved d g.items;
    finds = refl;
    spelled = refl;
    ranks = ranks_stay d;
  }

  level_there : (r : EnabledRule) (level : Option ℕ) → HasLevel r level → HasLevel (changed_rule (name_change d) r) level
  level_there r None h = levels_kept (name_change d) (ranks_stay d) r ∙ h
  level_there r (Some l) h = subst (λ (ns : List ℕ). Among ns l) (sym (same_levels (name_change d) (ranks_stay d) r)) h

  level_here : (r : EnabledRule) (level : Option ℕ) → HasLevel (changed_rule (name_change d) r) level → HasLevel r level
  level_here r None h = sym (levels_kept (name_change d) (ranks_stay d) r) ∙ h
  level_here r (Some l) h = subst (λ (ns : List ℕ). Among ns l) (same_levels (name_change d) (ranks_stay d) r) h

  root_there : (x : Closed) → IsRoot here (Nonterminal.closed x) → IsRoot there (Nonterminal.closed x)
  root_there x (inl b) = let e : Nonterminal.closed x ≡ Nonterminal.start b.0 = b.2 in cc
  root_there x (inr b) = inr (
    changed_rule (name_change d) b.0,
    b.1,
    rule_after (name_change d) spelled_so there changed b.0.name b.0 b.2,
    b.3,
    level_there b.0 b.1 b.4,
    b.5,
  )

  root_here : (x : Closed) → IsRoot there (Nonterminal.closed x) → IsRoot here (Nonterminal.closed x)
  root_here x (inl b) = let e : Nonterminal.closed x ≡ Nonterminal.start b.0 = b.2 in cc
  root_here x (inr b) =
      let u = rule_before (name_change d) spelled_so there changed b.0.name b.0 b.2 in
      let name_is : u.0.name ≡ b.0.name = ap (λ (e : EnabledRule). e.name) u.2 in
      inr (
        u.0,
        b.1,
        subst (λ (t : Text). IsRule here t u.0) (sym name_is) u.1,
        ap (λ (e : EnabledRule). e.parameters) u.2 ∙ b.3,
        level_here u.0 b.1 (subst (λ (e : EnabledRule). HasLevel e b.1) (sym u.2) b.4),
        b.5 ∙ ap (λ (t : Text). Nonterminal.closed (Closed.call t Closeds.none b.1)) (sym name_is),
      )

  made_there : (x : Closed) → IsMade here x → IsMade there x
  made_there x (inl r) = inl (root_there x r)
  made_there x (inr c) = inr (c.0, (resolving_chains finds g c.0 x).0 c.1)

  made_here : (x : Closed) → IsMade there x → IsMade here x
  made_here x (inl r) = inl (root_here x r)
  made_here x (inr c) = inr (c.0, (resolving_chains finds g c.0 x).1 c.1)

  pub resolved_condition : (P : Condition → Option Closed → Type 0) → HasConditionWhere here P ↔ HasConditionWhere there P
  resolved_condition P = (
    λ u. record {
      name = u.name;
      args = u.args;
      level = u.level;
      made = made_there (Closed.call u.name u.args u.level) u.made;
      condition = u.condition;
      value = u.value;
      there = record {
        rule = changed_rule (name_change d) u.there.rule;
        is_rule = rule_after (name_change d) spelled_so there changed u.name u.there.rule u.there.is_rule;
        choice = changed_pair (name_change d) u.there.rule u.there.choice;
        among = subst (λ (ps : List (Choice × Option Rank)). Among ps (changed_pair (name_change d) u.there.rule u.there.choice))
            (sym (ranked_kept (name_change d) (ranks_stay d) u.there.rule))
            (map_among (changed_pair (name_change d) u.there.rule) (ranked_choices u.there.rule) u.there.choice u.there.among);
        level_is = u.there.level_is;
        condition = u.there.condition;
        value_is = u.there.value_is;
      };
      holds = u.holds;
    },
    λ u. back u (rule_before (name_change d) spelled_so there changed u.name u.there.rule u.there.is_rule),
  )
    where
      back : (u : HasConditionWhere there P) →
          (r : EnabledRule) × IsRule spelled_so u.name r × (changed_rule (name_change d) r ≡ u.there.rule) → HasConditionWhere here P
      back u (r, i, e) =
          let c = among_map (changed_pair (name_change d) r) (ranked_choices r) u.there.choice
          (subst (λ (ps : List (Choice × Option Rank)). Among ps u.there.choice) (ranked_kept (name_change d) (ranks_stay d) r)
          (subst (λ (q : EnabledRule). Among (ranked_choices q) u.there.choice) (sym e) u.there.among)) in
          record {
            name = u.name;
            args = u.args;
            level = u.level;
            made = made_here (Closed.call u.name u.args u.level) u.made;
            condition = u.condition;
            value = u.value;
            there = record {
              rule = r;
              is_rule = i;
              choice = c.0;
              among = c.1;
              level_is = ap (λ (p : Choice × Option Rank). rank_level p.1) c.2 ∙ u.there.level_is;
              condition = ap (λ (p : Choice × Option Rank). p.0.condition) c.2 ∙ u.there.condition;
              value_is = ap (λ (q : EnabledRule). parameter_value (bind q u.args) u.condition.parameter) e ∙ u.there.value_is;
            };
            holds = u.holds;
          }

-- levels

-- the fact doesn't ask how levels are called
abbrev pub IsBlindToLevels : (Condition → Option Closed → Type 0) → Type 0
IsBlindToLevels P =
    (f : Text → ℕ → Text) (t : Condition) (v : Option Closed) → P t v ↔ P t (option_map (by_level_names f) v)

module _ (finds : Text → Text → Option Bool) (g : Grammar) (f : Text → ℕ → Text) (w : IsLevelable finds g f)
    (P : Condition → Option Closed → Type 0) (blind : IsBlindToLevels P) where
  made_forth : (x : Closed) → IsMade (before finds g) x → IsMade (after finds g f) (by_level_names f x)
  made_forth x (inl r) = inl (root_forth finds g f w (Nonterminal.closed x) r)
  made_forth x (inr c) = inr (c.0, (same_chains finds g f w).there c.0 x c.1)

  made_back : (y : Closed) → IsMade (after finds g f) y → (x : Closed) × IsMade (before finds g) x × (y ≡ by_level_names f x)
  made_back y (inl r) = let u = root_back finds g f w (Nonterminal.closed y) r in go u.0 u.1 u.2
    where
      go : (x : Nonterminal) → IsRoot (before finds g) x → Nonterminal.closed y ≡ nonterminal_by_level f x →
          (x : Closed) × IsMade (before finds g) x × (y ≡ by_level_names f x)
      go (Nonterminal.start n) q e = cc
      go (Nonterminal.closed x) q e = let same : y ≡ by_level_names f x = cc in (x, inl q, same)
  made_back y (inr c) = let u = (same_chains finds g f w).no_other c.0 y c.1 in (u.0, inr (c.0, u.1), u.2)

  made_in : (x : Closed) → IsMade (before finds g) x → InExpansion (before finds g) (Nonterminal.closed x)
  made_in x (inl r) = (0, r)
  made_in x (inr c) = chain_reached (before finds g) c.0 x c.1

  -- the written rule of a call that is made
  rule_of_made : (n : Text) (args : Closeds) (level : Option ℕ) → IsMade (before finds g) (Closed.call n args level) →
      (r : Rule) × IsCallOf finds g r args level × (r.name ≡ n)
  rule_of_made n args level m =
      go (well_in finds g f w (Nonterminal.closed (Closed.call n args level)) (made_in (Closed.call n args level) m))
    where
      go : IsWellOrFaulty (before finds g) (Closed.call n args level) → (r : Rule) × IsCallOf finds g r args level × (r.name ≡ n)
      go (inl e) = cc
      go (inr h) = call_of finds g n args level h

  value_there : (r : Rule) (level : Option ℕ) (args : Closeds) (n : Text) →
      parameter_value (bind (rule_between (rule_of_key f r level)) (all_by_level_names f args)) n
      ≡ option_map (by_level_names f) (parameter_value (bind (rule_between r) args) n)
  value_there r None args n = renamed_value f r.parameters args n
  value_there r (Some j) args n = renamed_value f r.parameters args n

  -- a condition of an alternative, in the rule of its level
  choice_forth : (r : Rule) (level : Option ℕ) → HasLevel (rule_between r) level → (c : Choice) (rank : Option Rank) →
      Among (ranked_choices (rule_between r)) (c, rank) → rank_level rank ≡ level →
      (o : Choice) × Among (rule_between (rule_of_key f r level)).choices o × (o.condition ≡ c.condition)
  choice_forth r None h c rank i e = (c, choice_listed (rule_between r) (c, rank) i, refl)
  choice_forth r (Some j) h c None i e = cc
  choice_forth r (Some j) h c (Some k) i e =
      let level_is : k.level ≡ j = cc in
      let a = ranked_alternative r (c, Some k) i in (
        choice_between (leveled_alternative f r (a.0, Some k)),
        subst (λ (l : ℕ). Among (rule_between (rule_at_level f r l)).choices (choice_between (leveled_alternative f r (a.0, Some k))))
            level_is (alternative_there f r a.0 k a.1),
        ap (λ (x : Choice). x.condition) a.2,
      )

  choice_back : (r : Rule) (level : Option ℕ) → HasLevel (rule_between r) level → (o : Choice) (t : Condition) →
      Among (rule_between (rule_of_key f r level)).choices o → o.condition ≡ Some t →
      (p : Choice × Option Rank) × Among (ranked_choices (rule_between r)) p × (rank_level p.1 ≡ level) × (p.0.condition ≡ Some t)
  choice_back r None h o t i e = ((o, None), flat_written (rule_between r) h o i, refl, e)
  choice_back r (Some j) h o t i e = go (level_choice f r j o i)
    where
      go : IsLevelChoice f r j o →
          (p : Choice × Option Rank) × Among (ranked_choices (rule_between r)) p × (rank_level p.1 ≡ Some j) ×
          (p.0.condition ≡ Some t)
      go (IsLevelChoice.alternative a k there is same) =
          ((choice_between a, Some k), ranked_choice r a (Some k) there, ap Some is, ap (λ (x : Choice). x.condition) same ∙ e)
      go (IsLevelChoice.pass_down to u same) = let none : None ≡ Some t = ap (λ (x : Choice). x.condition) same ∙ e in cc

  condition_forth : HasConditionWhere (before finds g) P → HasConditionWhere (after finds g f) P
  condition_forth u =
      let r = rule_of_made u.name u.args u.level u.made in
      let rule_is : u.there.rule ≡ rule_between r.0 =
      one_rule (before finds g) u.name u.there.rule (rule_between r.0) u.there.is_rule
      (subst (λ (t : Text). IsRule (before finds g) t (rule_between r.0)) r.2 (own_rule finds g f w r.0 r.1.among)) in
      let o = choice_forth r.0 u.level r.1.has_level u.there.choice.0 u.there.choice.1
      (subst (λ (e : EnabledRule). Among (ranked_choices e) u.there.choice) rule_is u.there.among) u.there.level_is in
      let q = rule_between (rule_of_key f r.0 u.level) in
      let named : IsRule (after finds g f) (level_name f r.0.name u.level) q =
      key_rule finds g f w.names r.0 u.level r.1.among r.1.has_level in
      record {
        name = level_name f u.name u.level;
        args = all_by_level_names f u.args;
        level = None;
        made = made_forth (Closed.call u.name u.args u.level) u.made;
        condition = u.condition;
        value = option_map (by_level_names f) u.value;
        there = record {
          rule = q;
          is_rule = subst (λ (t : Text). IsRule (after finds g f) (level_name f t u.level) q) r.2 named;
          choice = (o.0, None);
          among = flat_written q (flat_key f r.0 u.level r.1.has_level) o.0 o.1;
          level_is = refl;
          condition = o.2 ∙ u.there.condition;
          value_is = value_there r.0 u.level u.args u.condition.parameter
              ∙ ap (option_map (by_level_names f))
              (ap (λ (e : EnabledRule). parameter_value (bind e u.args) u.condition.parameter) (sym rule_is) ∙ u.there.value_is);
        };
        holds = (blind f u.condition u.value).0 u.holds;
      }

  condition_back : HasConditionWhere (after finds g f) P → HasConditionWhere (before finds g) P
  condition_back u = let x = made_back (Closed.call u.name u.args u.level) u.made in go x.0 x.1 x.2
    where
      of_call : (n : Text) (args : Closeds) (level : Option ℕ) → IsMade (before finds g) (Closed.call n args level) →
          u.name ≡ level_name f n level → u.args ≡ all_by_level_names f args → HasConditionWhere (before finds g) P
      of_call n args level m name_is args_are =
          let r = rule_of_made n args level m in
          let q = rule_between (rule_of_key f r.0 level) in
          let named : IsRule (after finds g f) (level_name f r.0.name level) q =
          key_rule finds g f w.names r.0 level r.1.among r.1.has_level in
          let rule_is : u.there.rule ≡ q =
          one_rule (after finds g f) u.name u.there.rule q u.there.is_rule
          (subst (λ (t : Text). IsRule (after finds g f) t q) (ap (λ (t : Text). level_name f t level) r.2 ∙ sym name_is) named) in
          let listed : Among q.choices u.there.choice.0 =
          choice_listed q u.there.choice
          (subst (λ (e : EnabledRule). Among (ranked_choices e) u.there.choice) rule_is u.there.among) in
          let p = choice_back r.0 level r.1.has_level u.there.choice.0 u.condition listed u.there.condition in
          let value_is : option_map (by_level_names f) (parameter_value (bind (rule_between r.0) args) u.condition.parameter) ≡ u.value =
          sym (value_there r.0 level args u.condition.parameter)
          ∙ ap (λ (a : Closeds). parameter_value (bind q a) u.condition.parameter) (sym args_are)
          ∙ ap (λ (e : EnabledRule). parameter_value (bind e u.args) u.condition.parameter) (sym rule_is) ∙ u.there.value_is in
          record {
            name = n;
            args = args;
            level = level;
            made = m;
            condition = u.condition;
            value = parameter_value (bind (rule_between r.0) args) u.condition.parameter;
            there = record {
              rule = rule_between r.0;
              is_rule = subst (λ (t : Text). IsRule (before finds g) t (rule_between r.0)) r.2 (own_rule finds g f w r.0 r.1.among);
              choice = p.0;
              among = p.1;
              level_is = p.2;
              condition = p.3;
              value_is = refl;
            };
            holds = (blind f u.condition (parameter_value (bind (rule_between r.0) args) u.condition.parameter)).1
                (subst (P u.condition) (sym value_is) u.holds);
          }

      go : (x : Closed) → IsMade (before finds g) x → Closed.call u.name u.args u.level ≡ by_level_names f x →
          HasConditionWhere (before finds g) P
      go (Closed.call n args level) m e =
          let name_is : u.name ≡ level_name f n level = cc in
          let args_are : u.args ≡ all_by_level_names f args = cc in
          of_call n args level m name_is args_are
      go (Closed.terminal t) m e = cc
      go (Closed.repeat op x) m e = cc
      go (Closed.group xs) m e = cc
      go (Closed.choose x) m e = cc
      go (Closed.name b n x) m e = cc
      go Closed.lookahead m e = cc
      go Closed.lookbehind m e = cc
      go Closed.faulty m e = cc

  -- conditions of calls that are made are the same
  pub leveled_condition : HasConditionWhere (before finds g) P ↔ HasConditionWhere (after finds g f) P
  leveled_condition = (condition_forth, condition_back)
