-- What a pass tells stands in the written grammar, and where none is told none stands; for the laws of faults.
use Rattle.std.proofs.Common.{◌≡◌, ℕ, List, [], ◌∷◌, ◌++◌, refl, ap, sym, ◌∙◌, subst, Bool}
use Rattle.std.proofs.Common.{inl}
use Rattle.std.specs.Prelude.{Option, Some, None, map, option_map, ◌↔◌}
use Rattle.lalrpop_grammar_symbols.specs.Symbols.{Text, TextSpan, Terminal, Closed}
use Rattle.lalrpop_grammar_symbols.specs.Views.{span_view}
use Rattle.lalrpop_grammar_symbols.specs.declared.names.NonterminalString.{NonterminalString}
use Rattle.lalrpop_grammar.specs.WrittenGrammar.{Condition, InternEntry, Rule, WrittenItem, Grammar, rules_of}
use Rattle.lalrpop_grammar_language.specs.Among.{Among}
use Rattle.lalrpop_grammar_language.specs.Enabled.{EnabledGrammar, enabled_grammar}
use Rattle.lalrpop_grammar_language.specs.Closing.{parameter_value}
use Rattle.lalrpop_grammar_rules.specs.Finding.{IsSearch}
use Rattle.lalrpop_grammar_repr.specs.declared.norm_error.NormError.{NormError}
use Rattle.lalrpop_grammar_repr.specs.declared.norm_error.NormErrorKind.{NormErrorKind}
use Rattle.lalrpop_grammar_repr.specs.declared.norm_error.NormErrorKind.TheVariants as kinds
use Rattle.lalrpop_grammar_repr.specs.declared.session.NormFault.TheVariants as faults
use Rattle.lalrpop_grammar.specs.declared.types.type_repr.TypeRepr.{TypeRepr}
use Rattle.lalrpop_norm_theory.specs.Between.{grammar_between, without_disabled}
use Rattle.lalrpop_norm_theory.specs.Depth.{HasCallChain, IsTooDeep}
use Rattle.lalrpop_norm_theory.specs.Premises.{IsExpanded, HasNoLevels}
use Rattle.lalrpop_norm_theory.proofs.ExpansionListLemmas.{rule_there}
use Rattle.lalrpop_norm_theory.specs.LevelRules.{by_level_names}
use Rattle.lalrpop_norm_theory.specs.NameFaults.{HasRightNames}
use Rattle.lalrpop_norm_theory.proofs.DroppingLemmas.{dropping_chains}
use Rattle.lalrpop_norm_theory.proofs.ResolvingLemmas.{resolving_chains}
use Rattle.lalrpop_norm_theory.proofs.ResolvedLemmas.{right_names_resolve}
use Rattle.lalrpop_norm_theory.specs.LevelFaults.{LevelFault, level_faults, HasRightLevels}
use Rattle.lalrpop_norm_theory.specs.LevelLaws.{IsLevelable}
use Rattle.lalrpop_norm_theory.proofs.LevelFitLemmas.{flat_written}
use Rattle.lalrpop_norm_precedence.specs.LevelErrors.{told_fault, first_fault, error_view, ToldFault}
use Rattle.lalrpop_norm_precedence.specs.LevelExpansions.{IsLevelFault}
use Rattle.lalrpop_norm_theory.proofs.ChainLemmas.{same_deep_calls}
use Rattle.lalrpop_norm_prevalidate.specs.Faults.{HasNoCheckFault}
use Rattle.lalrpop_norm_keys.specs.Arity.{arity_faults, TellsArity}
use Rattle.lalrpop_norm_keys.specs.FoundCalls.{TellsOfMadeCall}
use Rattle.lalrpop_norm_keys.specs.MacroFaults.{ConditionError, condition_error, IsQuotedLiteral, IsUnreadOf, IsConditionError}
use Rattle.lalrpop_norm_keys.specs.MacroFaults.{TellsOfAlternative}
use Rattle.lalrpop_norm_token_check.specs.Checked.{IsTokenChecked}
use Rattle.lalrpop_norm_token_check.specs.Faults.{TokenFaultInExpanded, IsTokenFault}
use Rattle.lalrpop_norm_token_check.specs.Places.{FirstPlaces}
use Rattle.lalrpop_norm_tyinfer.specs.TypeFaults.{HasDisagreeingAlternatives, HasRuleTypes, IsToldTypeFault, IsTypeFault}
use Rattle.lalrpop_norm_tyinfer.specs.TypeFaults.{IsUntypedRule, TypeFault, TypeFaultStands, type_fault}
use Rattle.lalrpop_norm_chain.specs.PremiseLaws.{resolved_part}
use Rattle.lalrpop_norm_theory.specs.CallPlaces.{IsPlaceBelow}
use Rattle.lalrpop_norm_theory.proofs.DeepPlaceLemmas.{deep_call_written}
use Rattle.lalrpop_norm_chain.specs.Chains.{IsMacroChain}
use Rattle.lalrpop_norm_chain.proofs.ChainLemmas.{between_behind}
use Rattle.lalrpop_norm_chain.proofs.FrontLemmas.{same_expanded, block_is, span_is, to}
use Rattle.lalrpop_norm_chain.specs.MadeConditions.{HasConditionWhere, HasWrongCondition}
use Rattle.lalrpop_norm_chain.specs.TokenFaults.{enabled_places}
use Rattle.lalrpop_norm_chain.specs.WrittenTypeFaults.{HasNoTypeAt, IsDisagreeing, IsUntyped}
use Rattle.lalrpop_norm_chain.specs.StandingFaults.{IsRightToNames, IsRightToLevels, IsRightToMacros}
use Rattle.lalrpop_norm_chain.specs.StandingFaults.{IsRightToTokens, IsStandingFault}
use Rattle.lalrpop_norm_chain.specs.FaultLaws.{IsLevelChain}
use Rattle.lalrpop_norm_chain.proofs.LevelFaultLemmas.{level_faults_stay}
use Rattle.lalrpop_norm_chain.proofs.ArityLemmas.{resolved_arity, arity_back, arity_forth}
use Rattle.lalrpop_norm_chain.proofs.MadeConditionLemmas.{IsBlindToLevels, resolved_condition, leveled_condition}
use Rattle.lalrpop_norm_chain.proofs.TokenFaultLemmas.{token_back, token_forth}
use Rattle.lalrpop_norm_chain.proofs.TypeFaultLemmas.{disagreeing, untyped, none_disagrees, none_untyped}

-- levels

first_among : (fs : List LevelFault) (t : ToldFault) → Some t ≡ first_fault fs → Among (map told_fault fs) t
first_among [] t e = cc
first_among (f ∷ fs) t e = let same : t ≡ told_fault f = cc in inl (sym same)

-- where nothing is wrong with names, a fault of levels told of the resolved grammar stands in the written one
pub level_stands : (finds : Text → Text → Option Bool) (deep : Text → Bool) (features : List Text) (limit : ℕ) (w : Grammar)
    (error : NormError) → IsRightToNames features w → IsLevelFault (resolved_part features w) (faults.Norm error) →
    IsStandingFault finds deep features limit w error.kind (span_view error.span)
level_stands finds deep features limit w error right told =
    IsStandingFault.level error.kind (span_view error.span) right
    (first_among (level_faults (without_disabled features w)) (error_view error)
    (told ∙ ap first_fault (level_faults_stay (without_disabled features w))))

-- where the checks and the names are right, and so are levels with names resolved, the grammar is right up to levels
pub right_levels : (features : List Text) (w : Grammar) → HasNoCheckFault w → HasRightNames (without_disabled features w) →
    HasRightLevels (resolved_part features w) → IsRightToLevels features w
right_levels features w checks names levels =
    record { before = record { checks = checks; names = names }; levels = sym (level_faults_stay (without_disabled features w)) ∙ levels }

-- conditions, whatever levels are called

quoted_alike : (f : Text → ℕ → Text) (v : Option Closed) → IsQuotedLiteral v ↔ IsQuotedLiteral (option_map (by_level_names f) v)
quoted_alike f None = (λ a. a, λ a. a)
quoted_alike f (Some (Closed.terminal (Terminal.quoted t))) = (λ a. a, λ a. a)
quoted_alike f (Some (Closed.terminal (Terminal.regex t))) = (λ a. a, λ a. a)
quoted_alike f (Some (Closed.terminal (Terminal.bare n))) = (λ a. a, λ a. a)
quoted_alike f (Some (Closed.terminal Terminal.error)) = (λ a. a, λ a. a)
quoted_alike f (Some (Closed.call n args level)) = (λ a. a, λ a. a)
quoted_alike f (Some (Closed.repeat op x)) = (λ a. a, λ a. a)
quoted_alike f (Some (Closed.group xs)) = (λ a. a, λ a. a)
quoted_alike f (Some (Closed.choose x)) = (λ a. a, λ a. a)
quoted_alike f (Some (Closed.name m n x)) = (λ a. a, λ a. a)
quoted_alike f (Some Closed.lookahead) = (λ a. a, λ a. a)
quoted_alike f (Some Closed.lookbehind) = (λ a. a, λ a. a)
quoted_alike f (Some Closed.faulty) = (λ a. a, λ a. a)

unread_alike : (finds : Text → Text → Option Bool) (deep : Text → Bool) (pattern : Text) (f : Text → ℕ → Text)
    (v : Option Closed) →
    IsUnreadOf finds deep pattern v ↔ IsUnreadOf finds deep pattern (option_map (by_level_names f) v)
unread_alike finds deep pattern f None = (λ a. a, λ a. a)
unread_alike finds deep pattern f (Some (Closed.terminal (Terminal.quoted t))) = (λ a. a, λ a. a)
unread_alike finds deep pattern f (Some (Closed.terminal (Terminal.regex t))) = (λ a. a, λ a. a)
unread_alike finds deep pattern f (Some (Closed.terminal (Terminal.bare n))) = (λ a. a, λ a. a)
unread_alike finds deep pattern f (Some (Closed.terminal Terminal.error)) = (λ a. a, λ a. a)
unread_alike finds deep pattern f (Some (Closed.call n args level)) = (λ a. a, λ a. a)
unread_alike finds deep pattern f (Some (Closed.repeat op x)) = (λ a. a, λ a. a)
unread_alike finds deep pattern f (Some (Closed.group xs)) = (λ a. a, λ a. a)
unread_alike finds deep pattern f (Some (Closed.choose x)) = (λ a. a, λ a. a)
unread_alike finds deep pattern f (Some (Closed.name m n x)) = (λ a. a, λ a. a)
unread_alike finds deep pattern f (Some Closed.lookahead) = (λ a. a, λ a. a)
unread_alike finds deep pattern f (Some Closed.lookbehind) = (λ a. a, λ a. a)
unread_alike finds deep pattern f (Some Closed.faulty) = (λ a. a, λ a. a)

errors_blind : (finds : Text → Text → Option Bool) (deep : Text → Bool) (e : ConditionError) →
    IsBlindToLevels (λ t v. IsConditionError finds deep t v e)
errors_blind finds deep (ConditionError.no_literal p) f t v = (
  λ u. (u.0, λ q. u.1 ((quoted_alike f v).1 q)),
  λ u. (u.0, λ q. u.1 ((quoted_alike f v).0 q)),
)
errors_blind finds deep (ConditionError.no_pattern p) f t v = (
  λ u. (u.0, u.1, (unread_alike finds deep t.against f v).0 u.2),
  λ u. (u.0, u.1, (unread_alike finds deep t.against f v).1 u.2),
)
errors_blind finds deep ConditionError.other f t v = (λ u. u, λ u. u)

searches_blind : IsBlindToLevels (λ t v. IsSearch t.test)
searches_blind f t v = (λ u. u, λ u. u)

-- what is told of a call that is made, without levels

module _ (g : EnabledGrammar) (flat : HasNoLevels g) (deep : Text → Bool) where
  error_there : (error : NormError) → TellsOfMadeCall g deep (faults.Norm error) →
      HasWrongCondition g deep (condition_error error.kind (span_view error.span))
  error_there error t = go t.3.0.condition refl t.3.3
    where
      at : (o : Condition) → t.3.0.condition ≡ Some o →
          IsConditionError g.finds deep o (parameter_value t.3.1 o.parameter) (condition_error error.kind (span_view error.span)) →
          HasWrongCondition g deep (condition_error error.kind (span_view error.span))
      at o e h = record {
        name = t.0;
        args = t.1;
        level = None;
        made = t.2;
        condition = o;
        value = parameter_value t.3.1 o.parameter;
        there = record {
          rule = t.3.2.rule;
          is_rule = t.3.2.is_rule;
          choice = (t.3.0, None);
          among = flat_written t.3.2.rule (flat t.3.2.rule (rule_there g t.0 t.3.2.rule t.3.2.is_rule).0) t.3.0 t.3.2.among;
          level_is = refl;
          condition = e;
          value_is = ap (λ b. parameter_value b o.parameter) (sym t.3.2.binding_is);
        };
        holds = h;
      }

      go : (o : Option Condition) → t.3.0.condition ≡ o → TellsOfAlternative g.finds deep t.3.1 o (faults.Norm error) →
          HasWrongCondition g deep (condition_error error.kind (span_view error.span))
      go None e h = let wrong : faults.Norm error ≡ faults.Memory = h in cc
      go (Some o) e h = at o e h

  limit_there : TellsOfMadeCall g deep faults.ConditionLimit → HasConditionWhere g (λ t v. IsSearch t.test)
  limit_there t = go t.3.0.condition refl t.3.3
    where
      go : (o : Option Condition) → t.3.0.condition ≡ o → TellsOfAlternative g.finds deep t.3.1 o faults.ConditionLimit →
          HasConditionWhere g (λ t v. IsSearch t.test)
      go None e h = let wrong : faults.ConditionLimit ≡ faults.Memory = h in cc
      go (Some o) e h = record {
        name = t.0;
        args = t.1;
        level = None;
        made = t.2;
        condition = o;
        value = parameter_value t.3.1 o.parameter;
        there = record {
          rule = t.3.2.rule;
          is_rule = t.3.2.is_rule;
          choice = (t.3.0, None);
          among = flat_written t.3.2.rule (flat t.3.2.rule (rule_there g t.0 t.3.2.rule t.3.2.is_rule).0) t.3.0 t.3.2.among;
          level_is = refl;
          condition = e;
          value_is = ap (λ b. parameter_value b o.parameter) (sym t.3.2.binding_is);
        };
        holds = h;
      }

-- macros

module _ (finds : Text → Text → Option Bool) (deep : Text → Bool) (features : List Text) (limit : ℕ) (w leveled : Grammar)
    (c : IsLevelChain finds features w leveled) where
  abbrev left : Grammar
  left = without_disabled features w

  levelable : IsLevelable finds (resolved_part features w) c.levels.names
  levelable = record {
    resolved = right_names_resolve finds left c.right_names;
    right = c.right_levels;
    names = c.levels.are_names;
  }

  arity_here : (p : TextSpan) → Among (arity_faults (grammar_between finds leveled) (rules_of leveled.items)) p →
      Among (arity_faults (grammar_between finds left) (rules_of left.items)) p
  arity_here p i =
      subst (λ (l : List TextSpan). Among l p) (resolved_arity finds left)
      (arity_back finds (resolved_part features w) c.levels.names levelable p
      (subst (λ (g : Grammar). Among (arity_faults (grammar_between finds g) (rules_of g.items)) p) c.levels.value i))

  arity_there : (p : TextSpan) → Among (arity_faults (grammar_between finds left) (rules_of left.items)) p →
      Among (arity_faults (grammar_between finds leveled) (rules_of leveled.items)) p
  arity_there p i =
      subst (λ (g : Grammar). Among (arity_faults (grammar_between finds g) (rules_of g.items)) p) (sym c.levels.value)
      (arity_forth finds (resolved_part features w) c.levels.names levelable p
      (subst (λ (l : List TextSpan). Among l p) (sym (resolved_arity finds left)) i))

  -- calls that are too deep
  abbrev Chains : Closed → (k : ℕ) → Type 0
  Chains x k = HasCallChain (enabled_grammar finds features w) k x ↔ HasCallChain (grammar_between finds (resolved_part features w)) k x

  chains_same : (x : Closed) (k : ℕ) → Chains x k
  chains_same x k =
      let a = dropping_chains finds features w c.read k x in
      let b = resolving_chains finds left k x in
      (λ h. b.0 (a.0 h), λ h. a.1 (b.1 h))

  deep_resolved : (x : Closed) → IsTooDeep (grammar_between finds (resolved_part features w)) limit x →
      IsTooDeep (enabled_grammar finds features w) limit x
  deep_resolved x h = record {
    steps = h.steps;
    chain = (chains_same x h.steps).1 h.chain;
    none_short = λ k le a. h.none_short k le ((chains_same x k).0 a);
  }

  resolved_deep : (x : Closed) → IsTooDeep (enabled_grammar finds features w) limit x →
      IsTooDeep (grammar_between finds (resolved_part features w)) limit x
  resolved_deep x h = record {
    steps = h.steps;
    chain = (chains_same x h.steps).0 h.chain;
    none_short = λ k le a. h.none_short k le ((chains_same x k).1 a);
  }

  deep_here : (y : Closed) → IsTooDeep (grammar_between finds leveled) limit y →
      (x : Closed) × IsTooDeep (enabled_grammar finds features w) limit x
  deep_here y h =
      let u = (same_deep_calls finds (resolved_part features w) c.levels.names levelable).no_other limit y
      (subst (λ (g : Grammar). IsTooDeep (grammar_between finds g) limit y) c.levels.value h) in
      (u.0, deep_resolved u.0 u.1)

  deep_there : (x : Closed) → IsTooDeep (enabled_grammar finds features w) limit x →
      (y : Closed) × IsTooDeep (grammar_between finds leveled) limit y
  deep_there x h = (
    by_level_names c.levels.names x,
    subst (λ (g : Grammar). IsTooDeep (grammar_between finds g) limit (by_level_names c.levels.names x)) (sym c.levels.value)
        ((same_deep_calls finds (resolved_part features w) c.levels.names levelable).there limit x (resolved_deep x h)),
  )

  -- conditions
  condition_here : (P : Condition → Option Closed → Type 0) → IsBlindToLevels P →
      HasConditionWhere (grammar_between finds left) P ↔ HasConditionWhere (grammar_between finds leveled) P
  condition_here P blind =
      let a = resolved_condition finds left P in
      let b = leveled_condition finds (resolved_part features w) c.levels.names levelable P blind in (
        λ h. subst (λ (g : Grammar). HasConditionWhere (grammar_between finds g) P) (sym c.levels.value) (b.0 (a.0 h)),
        λ h. a.1 (b.1 (subst (λ (g : Grammar). HasConditionWhere (grammar_between finds g) P) c.levels.value h)),
      )

  pub arity_stands : (error : NormError) → IsRightToLevels features w →
      TellsArity (arity_faults (grammar_between finds leveled) (rules_of leveled.items)) (faults.Norm error) →
      IsStandingFault finds deep features limit w error.kind (span_view error.span)
  arity_stands error right told =
      subst (λ (k : NormErrorKind). IsStandingFault finds deep features limit w k (span_view error.span)) (sym told.0)
      (IsStandingFault.arity (span_view error.span) right (arity_here (span_view error.span) told.1))

  pub depth_stands : (y : Closed) (p : TextSpan) → IsRightToLevels features w → IsTooDeep (grammar_between finds leveled) limit y →
      IsPlaceBelow (grammar_between finds leveled) limit y p →
      IsStandingFault finds deep features limit w (kinds.MacroDepth limit) p
  depth_stands y p right h at =
      let u = deep_call_written finds features w c.levels.names c.read levelable limit y p
      (subst (λ (g : Grammar). IsTooDeep (grammar_between finds g) limit y) c.levels.value h)
      (subst (λ (g : Grammar). IsPlaceBelow (grammar_between finds g) limit y p) c.levels.value at) in
      IsStandingFault.depth u.0 p right u.1 u.2

  pub condition_stands : (error : NormError) → IsRightToLevels features w →
      TellsOfMadeCall (grammar_between finds leveled) deep (faults.Norm error) →
      IsStandingFault finds deep features limit w error.kind (span_view error.span)
  condition_stands error right told =
      IsStandingFault.condition error.kind (span_view error.span) right
      ((condition_here (λ t v. IsConditionError finds deep t v (condition_error error.kind (span_view error.span)))
      (errors_blind finds deep (condition_error error.kind (span_view error.span)))).1
      (error_there (grammar_between finds leveled) c.levels.flat deep error told))

  pub limit_stands : TellsOfMadeCall (grammar_between finds leveled) deep faults.ConditionLimit →
      HasConditionWhere (grammar_between finds left) (λ t v. IsSearch t.test)
  limit_stands told =
      (condition_here (λ t v. IsSearch t.test) searches_blind).1 (limit_there (grammar_between finds leveled) c.levels.flat deep told)

  no_member : (l : List TextSpan) → ((p : TextSpan) → Among l p → ⊥) → l ≡ []
  no_member [] h = refl
  no_member (p ∷ l) h = absurd (h p (inl refl))

  pub right_macros : IsRightToLevels features w → arity_faults (grammar_between finds leveled) (rules_of leveled.items) ≡ [] →
      ((y : Closed) → IsTooDeep (grammar_between finds leveled) limit y → ⊥) →
      ((e : ConditionError) → HasWrongCondition (grammar_between finds leveled) deep e → ⊥) →
      IsRightToMacros finds deep features limit w
  right_macros right arity depth conditions = record {
    before = right;
    arity = no_member (arity_faults (grammar_between finds left) (rules_of left.items))
        (λ p i. subst (λ (l : List TextSpan). Among l p) arity (arity_there p i));
    depth = λ x h. let u = deep_there x h in depth u.0 u.1;
    conditions = λ e h. conditions e
        ((condition_here (λ t v. IsConditionError finds deep t v e) (errors_blind finds deep e)).0 h);
  }

-- tokens and types

module _ (finds : Text → Text → Option Bool) (deep : Text → Bool) (features : List Text) (limit : ℕ) (w leveled expanded : Grammar)
    (c : IsMacroChain finds features w leveled expanded) (first : FirstPlaces) where
  pub token_stands : (error : NormError) → IsRightToMacros finds deep features limit w →
      ((l : Terminal) → first l ≡ enabled_places features w l) → IsTokenFault first expanded (faults.Norm error) →
      IsStandingFault finds deep features limit w error.kind (span_view error.span)
  token_stands error right same told =
      let places : first ≡ enabled_places features w = λ i l. same l i in
      IsStandingFault.token error.kind (span_view error.span) right
      (token_back finds expanded w c.macros.expanded (enabled_grammar finds features w) (to finds features w leveled expanded c)
      (same_expanded finds features w leveled expanded c) (block_is finds features w leveled expanded c)
      (span_is finds features w leveled expanded c) (enabled_places features w) error.kind (span_view error.span)
      (subst (λ (f : FirstPlaces). TokenFaultInExpanded f error.kind (span_view error.span) expanded) places told))

  module _ (checked : Grammar) (t : IsTokenChecked first expanded checked) where
    pub right_tokens : IsRightToMacros finds deep features limit w → ((l : Terminal) → first l ≡ enabled_places features w l) →
        IsRightToTokens finds deep features limit w
    right_tokens right same = record {
      before = right;
      tokens = λ kind p h.
          let places : first ≡ enabled_places features w = λ i l. same l i in
          t.are_checked.no_fault kind p
          (subst (λ (f : FirstPlaces). TokenFaultInExpanded f kind p expanded) (sym places)
          (token_forth finds expanded w c.macros.expanded (enabled_grammar finds features w) (to finds features w leveled expanded c)
          (same_expanded finds features w leveled expanded c) (block_is finds features w leveled expanded c)
          (span_is finds features w leveled expanded c) (enabled_places features w) t.are_checked.are_full.listed.used
          t.are_checked.are_full.listed.are_used kind p h));
    }

    rules_same : (items : List WrittenItem) (es : List InternEntry) →
        rules_of (items ++ WrittenItem.intern_token es ∷ []) ≡ rules_of items
    rules_same [] es = refl
    rules_same (WrittenItem.nonterminal r ∷ items) es = ap (λ l. r ∷ l) (rules_same items es)
    rules_same (WrittenItem.match_token groups place ∷ items) es = rules_same items es
    rules_same (WrittenItem.extern_token block ∷ items) es = rules_same items es
    rules_same (WrittenItem.intern_token entries ∷ items) es = rules_same items es
    rules_same (WrittenItem.import text ∷ items) es = rules_same items es

    checked_rules : rules_of checked.items ≡ rules_of expanded.items
    checked_rules = ap (λ (g : Grammar). rules_of g.items) t.whole ∙ rules_same expanded.items t.entries

    checked_is : grammar_between finds checked ≡ grammar_between finds expanded
    checked_is = ap (grammar_between finds) t.whole ∙ between_behind finds t.entries expanded

    here : (P : EnabledGrammar → List Rule → Type 0) → P (grammar_between finds checked) (rules_of checked.items) →
        P (grammar_between finds expanded) (rules_of expanded.items)
    here P h =
        subst (λ (g : EnabledGrammar). P g (rules_of expanded.items)) checked_is
        (subst (λ (rs : List Rule). P (grammar_between finds checked) rs) checked_rules h)

    expanded_still : IsExpanded (grammar_between finds checked)
    expanded_still = subst IsExpanded (sym checked_is) c.macros.expanded

    disagree_stands : IsRightToTokens finds deep features limit w → (p : TextSpan) →
        IsToldTypeFault (grammar_between finds checked) (rules_of checked.items) (TypeFault.disagree p) →
        IsStandingFault finds deep features limit w kinds.TypesDisagree p
    disagree_stands right p u =
        let i = subst (λ (rs : List Rule). Among rs u.0) checked_rules u.1 in
        IsStandingFault.types_disagree p right
        (subst (λ (q : TextSpan). IsDisagreeing (enabled_grammar finds features w) (without_disabled features w) q) u.2
        (disagreeing finds features w leveled expanded c u.0 i
        (subst (λ (g : EnabledGrammar). HasDisagreeingAlternatives g u.0.name) checked_is u.3)))

    untyped_stands : IsRightToTokens finds deep features limit w → (n : NonterminalString) (p : TextSpan) →
        TypeFaultStands (grammar_between finds checked) (rules_of checked.items) (TypeFault.untyped n.0 p) →
        IsStandingFault finds deep features limit w (kinds.NoType n) p
    untyped_stands right n p u =
        IsStandingFault.no_type n p right
        (subst (λ (m : Text). IsUntyped (enabled_grammar finds features w) w.prefix (without_disabled features w) m p) u.3
        (subst (λ (q : TextSpan). IsUntyped (enabled_grammar finds features w) w.prefix (without_disabled features w) u.0.name q) u.2
        (untyped finds features w leveled expanded c u.0 (subst (λ (rs : List Rule). Among rs u.0) checked_rules u.1)
        (here (λ g rs. IsUntypedRule g rs u.0) u.4))))

    type_stands_at : IsRightToTokens finds deep features limit w → (kind : NormErrorKind) (p : TextSpan) →
        IsToldTypeFault (grammar_between finds checked) (rules_of checked.items) (type_fault kind p) →
        IsStandingFault finds deep features limit w kind p
    type_stands_at right kinds.TypesDisagree p u = disagree_stands right p u
    type_stands_at right (kinds.NoType n) p u = untyped_stands right n p u
    type_stands_at right (kinds.DuplicateDefinition name) p u = absurd u
    type_stands_at right kinds.SecondMatchBlock p u = absurd u
    type_stands_at right (kinds.UnknownAttribute name) p u = absurd u
    type_stands_at right kinds.PublicInline p u = absurd u
    type_stands_at right kinds.FirstWithoutLevel p u = absurd u
    type_stands_at right kinds.LevelIsNoNumber p u = absurd u
    type_stands_at right kinds.SideOnTightestLevel p u = absurd u
    type_stands_at right kinds.UnknownSide p u = absurd u
    type_stands_at right kinds.ReservedPrefix p u = absurd u
    type_stands_at right kinds.NamedNotAllowed p u = absurd u
    type_stands_at right kinds.EntryTwice p u = absurd u
    type_stands_at right (kinds.NoDefinition name) p u = absurd u
    type_stands_at right kinds.WrongNumberOfArguments p u = absurd u
    type_stands_at right kinds.MacroAsRule p u = absurd u
    type_stands_at right (kinds.MacroDepth k) p u = absurd u
    type_stands_at right kinds.ConditionOnOther p u = absurd u
    type_stands_at right kinds.ConditionPattern p u = absurd u
    type_stands_at right (kinds.NotInMatchBlock l) p u = absurd u
    type_stands_at right (kinds.PatternRefused l) p u = absurd u
    type_stands_at right (kinds.SameText l m) p u = absurd u
    type_stands_at right kinds.TooManyActions p u = absurd u
    type_stands_at right (kinds.CyclicInline name) p u = absurd u

    pub type_stands : (error : NormError) → IsRightToTokens finds deep features limit w → IsTypeFault checked (faults.Norm error) →
        IsStandingFault finds deep features limit w error.kind (span_view error.span)
    type_stands error right told = type_stands_at right error.kind (span_view error.span) (told finds expanded_still)

    no_among : {A : Type 0} (l : List A) (a : A) → l ≡ [] → Among l a → ⊥
    no_among l a e i = subst (λ m. Among m a) e i

    pub all_typed : (table : List (NonterminalString × TypeRepr)) →
        HasRuleTypes (grammar_between finds checked) (rules_of checked.items) table → (p : TextSpan) →
        HasNoTypeAt (enabled_grammar finds features w) (without_disabled features w) p → ⊥
    all_typed table types =
        none_untyped finds features w leveled expanded c table (here (λ g rs. HasRuleTypes g rs table) types)

    pub none_stands : (table : List (NonterminalString × TypeRepr)) → IsRightToTokens finds deep features limit w →
        HasRuleTypes (grammar_between finds checked) (rules_of checked.items) table → (kind : NormErrorKind) (p : TextSpan) →
        IsStandingFault finds deep features limit w kind p → ⊥
    none_stands table right types kind p (IsStandingFault.check k q h) = right.before.before.before.checks k q h
    none_stands table right types kind p (IsStandingFault.duplicate n q a h) = right.before.before.before.names.no_duplicates n q h
    none_stands table right types kind p (IsStandingFault.no_definition n q a h) =
        no_among _ _ right.before.before.before.names.no_faults h
    none_stands table right types kind p (IsStandingFault.macro_as_rule q a h) =
        no_among _ _ right.before.before.before.names.no_faults h
    none_stands table right types kind p (IsStandingFault.level k q a h) =
        no_among _ _ (ap (map told_fault) right.before.before.levels) h
    none_stands table right types kind p (IsStandingFault.arity q a h) = no_among _ _ right.before.arity h
    none_stands table right types kind p (IsStandingFault.depth x q a h at) = right.before.depth x h
    none_stands table right types kind p (IsStandingFault.condition k q a h) = right.before.conditions (condition_error k q) h
    none_stands table right types kind p (IsStandingFault.token k q a h) = right.tokens k q h
    none_stands table right types kind p (IsStandingFault.types_disagree q a h) =
        none_disagrees finds features w leveled expanded c table (here (λ g rs. HasRuleTypes g rs table) types) q h
    none_stands table right types kind p (IsStandingFault.no_type n q a h) =
        all_typed table types q h.call
