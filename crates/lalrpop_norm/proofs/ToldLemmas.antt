-- What a pass tells stands in the written grammar, and where none tells a fault none stands; for the normalizer.
use Rattle.std.proofs.Common.{◌≡◌, ℕ, List, [], ap, sym, ◌∙◌, subst, Bool}
use Rattle.std.specs.Prelude.{Option, map}
use Rattle.lalrpop_grammar_symbols.specs.Symbols.{Text, TextSpan, Terminal}
use Rattle.lalrpop_grammar_symbols.specs.Views.{span_view}
use Rattle.lalrpop_grammar.specs.WrittenGrammar.{Grammar, Rule, rules_of}
use Rattle.lalrpop_grammar_language.specs.Among.{Among}
use Rattle.lalrpop_grammar_language.specs.Enabled.{EnabledGrammar}
use Rattle.lalrpop_grammar_repr.specs.declared.norm_error.NormError.{NormError}
use Rattle.lalrpop_grammar_repr.specs.declared.norm_error.NormErrorKind.{NormErrorKind}
use Rattle.lalrpop_grammar_repr.specs.declared.norm_error.NormErrorKind.TheVariants as kinds
use Rattle.lalrpop_grammar_repr.specs.declared.session.NormFault.{NormFault}
use Rattle.lalrpop_grammar_repr.specs.declared.session.NormFault.TheVariants as faults
use Rattle.lalrpop_norm_theory.specs.Between.{grammar_between, without_disabled}
use Rattle.lalrpop_norm_theory.specs.Premises.{IsExpanded}
use Rattle.lalrpop_norm_precedence.specs.LevelErrors.{told_fault}
use Rattle.lalrpop_norm_precedence.specs.LevelExpansions.{IsLevelFault}
use Rattle.lalrpop_norm_resolve.specs.FoundFaults.{IsNameFault, StandsInGrammar, found_fault}
use Rattle.lalrpop_norm_prevalidate.specs.Faults.{HasNoCheckFault, IsCheckFault}
use Rattle.lalrpop_norm_keys.specs.MacroFaults.{condition_error}
use Rattle.lalrpop_norm_token_check.specs.Checked.{IsTokenChecked}
use Rattle.lalrpop_norm_token_check.specs.Faults.{IsTokenFault}
use Rattle.lalrpop_norm_token_check.specs.Places.{FirstPlaces}
use Rattle.lalrpop_norm_tyinfer.specs.TypeFaults.{HasNoTypeFault, IsTypeFault, WhereExpanded}
use Rattle.lalrpop_norm_lower.specs.LowerFaults.{HasFewActions, IsLowerFault}
use Rattle.lalrpop_norm.specs.Stages.{HasNoLaterFault, IsLaterFault}
use Rattle.lalrpop_norm_chain.specs.PremiseLaws.{resolved_part}
use Rattle.lalrpop_norm_chain.specs.Chains.{IsMacroChain}
use Rattle.lalrpop_norm_chain.proofs.ChainLemmas.{between_behind, rules_behind}
use Rattle.lalrpop_norm_chain.proofs.FrontLemmas.{span_is}
use Rattle.lalrpop_norm_chain.specs.FaultLaws.{IsLevelChain}
use Rattle.lalrpop_norm_chain.specs.StandingFaults.{IsRightToLevels, IsRightToMacros, IsRightToNames, IsRightToTokens}
use Rattle.lalrpop_norm_chain.specs.StandingFaults.{IsStandingFault}
use Rattle.lalrpop_norm_chain.specs.TokenFaults.{enabled_places}
use Rattle.lalrpop_norm_chain.proofs.StandingLemmas.{arity_stands, condition_stands, depth_stands, level_stands, limit_stands}
use Rattle.lalrpop_norm_chain.proofs.StandingLemmas.{right_macros, right_tokens, token_stands, type_stands}
use Rattle.lalrpop_norm_macros.specs.MacroPass.{HasNoMacroFault, IsMacroFault, IsReadyForMacros, TellsDepth, TellsOfMacros}
use Rattle.lalrpop_norm.specs.Normalizing.{HasNoWrittenFault, IsRightToTypes, IsWrittenFault, TellsOfWritten}
use Rattle.lalrpop_norm.proofs.LabelLemmas.{few_labels, many_labels}
use Rattle.lalrpop_norm.proofs.TypedLemmas.{all_typed, none_disagree}

no_among : {A : Type 0} (l : List A) (a : A) → l ≡ [] → Among l a → ⊥
no_among l a e i = subst (λ m. Among m a) e i

module _ (finds : Text → Text → Option Bool) (deep : Text → Bool) (features : List Text) (limit : ℕ) (w : Grammar) where
  abbrev Told : NormFault → Type 0
  Told fault = TellsOfWritten finds deep features limit w fault

  abbrev Stands : NormErrorKind → TextSpan → Type 0
  Stands kind p = IsStandingFault finds deep features limit w kind p

  stands_told : (error : NormError) → Stands error.kind (span_view error.span) → Told (faults.Norm error)
  stands_told error h = IsWrittenFault.standing error.kind (span_view error.span) h

  -- where nothing is wrong up to types, no fault stands
  none_stands : IsRightToTypes finds deep features limit w → (kind : NormErrorKind) (p : TextSpan) → Stands kind p → ⊥
  none_stands right kind p (IsStandingFault.check k q h) = right.before.before.before.before.checks k q h
  none_stands right kind p (IsStandingFault.duplicate n q a h) = right.before.before.before.before.names.no_duplicates n q h
  none_stands right kind p (IsStandingFault.no_definition n q a h) =
      no_among _ _ right.before.before.before.before.names.no_faults h
  none_stands right kind p (IsStandingFault.macro_as_rule q a h) =
      no_among _ _ right.before.before.before.before.names.no_faults h
  none_stands right kind p (IsStandingFault.level k q a h) =
      no_among _ _ (ap (map told_fault) right.before.before.before.levels) h
  none_stands right kind p (IsStandingFault.arity q a h) = no_among _ _ right.before.before.arity h
  none_stands right kind p (IsStandingFault.depth x q a h at) = right.before.before.depth x h
  none_stands right kind p (IsStandingFault.condition k q a h) = right.before.before.conditions (condition_error k q) h
  none_stands right kind p (IsStandingFault.token k q a h) = right.before.tokens k q h
  none_stands right kind p (IsStandingFault.types_disagree q a h) = right.agree q h
  none_stands right kind p (IsStandingFault.no_type n q a h) = right.typed q h.call

  -- the first pass

  pub check_told : (fault : NormFault) → IsCheckFault w fault → Told fault
  check_told (faults.Norm error) h = stands_told error (IsStandingFault.check error.kind (span_view error.span) h)
  check_told faults.Memory h = tt
  check_told faults.ConditionLimit h = absurd h

  -- names

  name_stands : (kind : NormErrorKind) (p : TextSpan) → HasNoCheckFault w
      → StandsInGrammar (without_disabled features w) (found_fault kind p) → Stands kind p
  name_stands (kinds.DuplicateDefinition n) p checks h = IsStandingFault.duplicate n p checks h
  name_stands (kinds.NoDefinition n) p checks h = IsStandingFault.no_definition n p checks h
  name_stands kinds.MacroAsRule p checks h = IsStandingFault.macro_as_rule p checks h
  name_stands kinds.SecondMatchBlock p checks h = absurd h
  name_stands (kinds.UnknownAttribute n) p checks h = absurd h
  name_stands kinds.PublicInline p checks h = absurd h
  name_stands kinds.FirstWithoutLevel p checks h = absurd h
  name_stands kinds.LevelIsNoNumber p checks h = absurd h
  name_stands kinds.SideOnTightestLevel p checks h = absurd h
  name_stands kinds.UnknownSide p checks h = absurd h
  name_stands kinds.ReservedPrefix p checks h = absurd h
  name_stands kinds.NamedNotAllowed p checks h = absurd h
  name_stands kinds.EntryTwice p checks h = absurd h
  name_stands kinds.WrongNumberOfArguments p checks h = absurd h
  name_stands (kinds.MacroDepth k) p checks h = absurd h
  name_stands kinds.ConditionOnOther p checks h = absurd h
  name_stands kinds.ConditionPattern p checks h = absurd h
  name_stands (kinds.NotInMatchBlock l) p checks h = absurd h
  name_stands (kinds.PatternRefused l) p checks h = absurd h
  name_stands (kinds.SameText l m) p checks h = absurd h
  name_stands kinds.TypesDisagree p checks h = absurd h
  name_stands (kinds.NoType n) p checks h = absurd h
  name_stands kinds.TooManyActions p checks h = absurd h
  name_stands (kinds.CyclicInline n) p checks h = absurd h

  pub name_told : (fault : NormFault) → HasNoCheckFault w → IsNameFault (without_disabled features w) fault → Told fault
  name_told (faults.Norm error) checks h = stands_told error (name_stands error.kind (span_view error.span) checks h)
  name_told faults.Memory checks h = tt
  name_told faults.ConditionLimit checks h = absurd h

  -- levels

  pub level_told : (fault : NormFault) → IsRightToNames features w → IsLevelFault (resolved_part features w) fault → Told fault
  level_told (faults.Norm error) right h = stands_told error (level_stands finds deep features limit w error right h)
  level_told faults.Memory right h = tt
  level_told faults.ConditionLimit right h = absurd h

  -- macros

  module _ (leveled : Grammar) (right : IsRightToLevels features w) (c : IsLevelChain finds features w leveled) where
    abbrev mid : EnabledGrammar
    mid = grammar_between finds leveled

    depth_told : (error : NormError) → TellsDepth mid limit (faults.Norm error) → Told (faults.Norm error)
    depth_told error h =
        stands_told error
        (subst (λ (k : NormErrorKind). Stands k (span_view error.span)) (sym h.0)
        (depth_stands finds deep features limit w leveled c h.1.0 (span_view error.span) right h.1.1 h.1.2))

    error_told : (error : NormError) → TellsOfMacros finds deep limit leveled (faults.Norm error) → Told (faults.Norm error)
    error_told error (TellsOfMacros.arity h) =
        stands_told error (arity_stands finds deep features limit w leveled c error right h)
    error_told error (TellsOfMacros.depth h) = depth_told error h
    error_told error (TellsOfMacros.condition h) =
        stands_told error (condition_stands finds deep features limit w leveled c error right h)

    limit_told : TellsOfMacros finds deep limit leveled faults.ConditionLimit → Told faults.ConditionLimit
    limit_told (TellsOfMacros.arity h) = absurd h
    limit_told (TellsOfMacros.depth h) = absurd h
    limit_told (TellsOfMacros.condition h) = (right, limit_stands finds deep features limit w leveled c h)

    pub macro_told : (fault : NormFault) → IsReadyForMacros finds leveled → IsMacroFault finds deep limit leveled fault → Told fault
    macro_told (faults.Norm error) ready h = error_told error (h ready)
    macro_told faults.ConditionLimit ready h = limit_told (h ready)
    macro_told faults.Memory ready h = tt

    pub right_to_macros : HasNoMacroFault finds deep limit leveled → IsRightToMacros finds deep features limit w
    right_to_macros none = right_macros finds deep features limit w leveled c right none.arity none.depth none.conditions

  -- tokens, types and lowering

  module _ (leveled expanded : Grammar) (right : IsRightToMacros finds deep features limit w)
      (c : IsMacroChain finds features w leveled expanded) (first : FirstPlaces)
      (same : (l : Terminal) → first l ≡ enabled_places features w l) where
    token_told : (fault : NormFault) → IsTokenFault first expanded fault → Told fault
    token_told (faults.Norm error) h =
        stands_told error (token_stands finds deep features limit w leveled expanded c first error right same h)
    token_told faults.Memory h = tt
    token_told faults.ConditionLimit h = absurd h

    module _ (checked : Grammar) (t : IsTokenChecked first expanded checked) where
      to_tokens : IsRightToTokens finds deep features limit w
      to_tokens = right_tokens finds deep features limit w leveled expanded c first checked t right same

      checked_is : grammar_between finds checked ≡ grammar_between finds expanded
      checked_is = ap (grammar_between finds) t.whole ∙ between_behind finds t.entries expanded

      rules_are : rules_of checked.items ≡ rules_of expanded.items
      rules_are = ap (λ (x : Grammar). rules_of x.items) t.whole ∙ rules_behind expanded.items t.entries

      type_told : (fault : NormFault) → IsTypeFault checked fault → Told fault
      type_told (faults.Norm error) h =
          stands_told error (type_stands finds deep features limit w leveled expanded c first checked t error to_tokens h)
      type_told faults.Memory h = tt
      type_told faults.ConditionLimit h = absurd h

      module _ (none : WhereExpanded checked (λ e. HasNoTypeFault e (rules_of checked.items))) where
        none_here : HasNoTypeFault (grammar_between finds expanded) (rules_of expanded.items)
        none_here =
            subst (λ (rs : List Rule). HasNoTypeFault (grammar_between finds expanded) rs) rules_are
            (subst (λ (g : EnabledGrammar). HasNoTypeFault g (rules_of checked.items)) checked_is
            (none finds (subst IsExpanded (sym checked_is) c.macros.expanded)))

        to_types : IsRightToTypes finds deep features limit w
        to_types = record {
          before = to_tokens;
          agree = none_disagree finds features w leveled expanded c none_here;
          typed = all_typed finds features w leveled expanded c none_here;
        }

        action_told : (fault : NormFault) → HasNoCheckFault w → IsLowerFault checked fault → Told fault
        action_told (faults.Norm error) checks h =
            subst (λ (k : NormErrorKind). IsWrittenFault finds deep features limit w k (span_view error.span)) (sym h.kind_is)
            (IsWrittenFault.actions (span_view error.span) to_types
            (many_labels finds features w leveled expanded checked c checks first t h.too_many)
            (sym (h.span_is ∙ ap (λ (x : Grammar). x.span) t.whole ∙ span_is finds features w leveled expanded c)))
        action_told faults.Memory checks h = tt
        action_told faults.ConditionLimit checks h = absurd h

        none_told : HasNoCheckFault w → HasFewActions checked → (kind : NormErrorKind) (p : TextSpan)
            → IsWrittenFault finds deep features limit w kind p → ⊥
        none_told checks few kind p (IsWrittenFault.standing k q h) = none_stands to_types k q h
        none_told checks few kind p (IsWrittenFault.actions q right many e) =
            few_labels finds features w leveled expanded checked c checks first t few many

        none_written : HasNoCheckFault w → HasFewActions checked → HasNoWrittenFault finds deep features limit w
        none_written checks few = record { none = none_told checks few; typed = to_types.typed }

    pub later_told : (fault : NormFault) → HasNoCheckFault w → IsLaterFault first expanded fault → Told fault
    later_told fault checks (IsLaterFault.of_tokens h) = token_told fault h
    later_told fault checks (IsLaterFault.of_types checked t h) = type_told checked t fault h
    later_told fault checks (IsLaterFault.of_actions checked t none h) = action_told checked t none fault checks h

    pub none_stands_written : HasNoCheckFault w → HasNoLaterFault first expanded → HasNoWrittenFault finds deep features limit w
    none_stands_written checks h = none_written h.checked h.tokens h.types checks h.few
