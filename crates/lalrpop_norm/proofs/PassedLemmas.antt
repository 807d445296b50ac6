-- What the passes gave one after the other, put together; for the normalizer.
use Rattle.std.proofs.Common.{◌≡◌, ℕ, List, ap, sym, ◌∙◌, subst, Bool}
use Rattle.std.specs.Prelude.{Option}
use Rattle.lalrpop_grammar_symbols.specs.Symbols.{Text, Terminal}
use Rattle.lalrpop_grammar.specs.WrittenGrammar.{Grammar}
use Rattle.lalrpop_grammar_repr.specs.declared.session.NormFault.{NormFault}
use Rattle.lalrpop_lexer.specs.Simulation.{Decides, StateView}
use Rattle.lalrpop_lexer_scan.specs.Literals.{first_span, uses_in_grammar}
use Rattle.lalrpop_norm_theory.specs.Between.{without_disabled}
use Rattle.lalrpop_norm_theory.specs.NameFaults.{HasRightNames}
use Rattle.lalrpop_norm_theory.specs.Resolving.{resolved_grammar}
use Rattle.lalrpop_norm_resolve.specs.FoundFaults.{IsNameFault}
use Rattle.lalrpop_norm_theory.specs.LevelFaults.{HasRightLevels}
use Rattle.lalrpop_norm_precedence.specs.LevelExpansions.{HasPlainNames, IsLevelExpansion, IsLevelFault}
use Rattle.lalrpop_norm_prevalidate.specs.Faults.{HasNoCheckFault}
use Rattle.lalrpop_norm_macros.specs.RuleItems.{other_items}
use Rattle.lalrpop_norm_token_check.specs.Patterns.{entry_patterns, entry_precedences}
use Rattle.lalrpop_norm_token_check.specs.Places.{FirstPlaces}
use Rattle.lalrpop_norm_chain.specs.Chains.{IsMacroChain, IsMacroResult}
use Rattle.lalrpop_norm_chain.specs.Lowered.{LoweredGrammar}
use Rattle.lalrpop_norm_chain.specs.Normalized.{IsNormalized}
use Rattle.lalrpop_norm_chain.specs.PremiseLaws.{resolved_part}
use Rattle.lalrpop_norm_chain.specs.LoweredViews.{HasNoTokenizer}
use Rattle.lalrpop_norm.specs.Stages.{DecidesEntriesOf, HasNoLaterFault, IsLaterFault, IsNormalizedWhereRead}
use Rattle.lalrpop_norm_chain.specs.FaultLaws.{IsLevelChain}
use Rattle.lalrpop_norm_chain.specs.StandingFaults.{IsRightToLevels, IsRightToMacros}
use Rattle.lalrpop_norm_chain.specs.TokenFaults.{enabled_places}
use Rattle.lalrpop_norm_chain.proofs.StandingLemmas.{right_levels}
use Rattle.lalrpop_norm_macros.specs.MacroPass.{HasNoMacroFault, IsMacroFault, IsReadyForMacros}
use Rattle.lalrpop_norm.specs.Normalizing.{HasNoWrittenFault, IsNormalizable, TellsOfWritten}
use Rattle.lalrpop_norm.proofs.OtherItemLemmas.{no_tokenizer_there}
use Rattle.lalrpop_norm.proofs.ReadyLemmas.{plain_names, ready_for_macros}
use Rattle.lalrpop_norm.proofs.ToldLemmas.{later_told, level_told, macro_told, name_told, none_stands_written, right_to_macros}

-- names

-- a fault of names of the grammar without what is disabled is one of the written grammar, where the checks find nothing
pub names_told : (finds : Text → Text → Option Bool) (deep : Text → Bool) (features : List Text) (limit : ℕ) (w enabled : Grammar)
    (fault : NormFault) → HasNoCheckFault w → enabled ≡ without_disabled features w → IsNameFault enabled fault
    → TellsOfWritten finds deep features limit w fault
names_told finds deep features limit w enabled fault checks dropped h =
    name_told finds deep features limit w fault checks (subst (λ (g : Grammar). IsNameFault g fault) dropped h)

-- levels

-- what was given up to names
pub record IsPassedToNames (features : List Text) (w enabled resolved : Grammar) : Type 0 where
  pub checks : HasNoCheckFault w
  pub dropped : enabled ≡ without_disabled features w
  pub value : resolved ≡ resolved_grammar enabled
  pub right : HasRightNames enabled

module _ (features : List Text) (w enabled resolved : Grammar) (p : IsPassedToNames features w enabled resolved) where
  right_names : HasRightNames (without_disabled features w)
  right_names = subst HasRightNames p.dropped p.right

  resolved_is : resolved ≡ resolved_part features w
  resolved_is = p.value ∙ ap resolved_grammar p.dropped

  pub levels_told : (finds : Text → Text → Option Bool) (deep : Text → Bool) (limit : ℕ) (fault : NormFault)
      → IsLevelFault resolved fault → TellsOfWritten finds deep features limit w fault
  levels_told finds deep limit fault h =
      level_told finds deep features limit w fault (record { checks = p.checks; names = right_names })
      (subst (λ (g : Grammar). IsLevelFault g fault) resolved_is h)

  -- macros

  module _ (leveled : Grammar) (right : HasRightLevels resolved) (finds : Text → Text → Option Bool)
      (value : HasPlainNames finds resolved → IsLevelExpansion finds resolved leveled) (fit : IsNormalizable finds features w) where
    pub chain : IsLevelChain finds features w leveled
    chain = record {
      read = fit.read;
      right_names = right_names;
      right_levels = subst HasRightLevels resolved_is right;
      levels = subst (λ (g : Grammar). IsLevelExpansion finds g leveled) resolved_is
          (value (subst (HasPlainNames finds) (sym resolved_is) (plain_names finds features w fit.read right_names)));
    }

    pub ready : IsReadyForMacros finds leveled
    ready = ready_for_macros finds features w leveled chain p.checks fit.recovery

    to_levels : IsRightToLevels features w
    to_levels = right_levels features w p.checks right_names chain.right_levels

    pub macros_told : (deep : Text → Bool) (limit : ℕ) (fault : NormFault) → IsMacroFault finds deep limit leveled fault
        → TellsOfWritten finds deep features limit w fault
    macros_told deep limit fault h = macro_told finds deep features limit w leveled to_levels chain fault ready h

    -- tokens, types and lowering

    module _ (expanded : Grammar) (made : IsReadyForMacros finds leveled → IsMacroResult finds leveled expanded)
        (items : other_items expanded.items ≡ other_items leveled.items) where
      macro_chain : IsMacroChain finds features w leveled expanded
      macro_chain = record {
        read = fit.read;
        right_names = right_names;
        right_levels = chain.right_levels;
        levels = chain.levels;
        macros = made ready;
      }

      no_tokenizer_expanded : HasNoTokenizer expanded
      no_tokenizer_expanded =
          no_tokenizer_there features w leveled expanded chain.levels.names fit.read chain.levels.value items

      pub normalized_given : (v : LoweredGrammar) → IsNormalizedWhereRead expanded v → IsNormalized finds features w v
      normalized_given v h = h finds features w leveled p.checks macro_chain no_tokenizer_expanded

      pub entries_decided : (v : LoweredGrammar) (dfa : List StateView) → DecidesEntriesOf expanded v dfa
          → Decides dfa (entry_patterns v.entries) (entry_precedences v.entries)
      entries_decided v dfa h = h no_tokenizer_expanded

      module _ (deep : Text → Bool) (limit : ℕ)
          (right_macros : IsReadyForMacros finds leveled → HasNoMacroFault finds deep limit leveled)
          (first : FirstPlaces) (places : (l : Terminal) → first l ≡ first_span (uses_in_grammar enabled) l) where
        places_are : (l : Terminal) → first l ≡ enabled_places features w l
        places_are l = places l ∙ ap (λ (g : Grammar). first_span (uses_in_grammar g) l) p.dropped

        to_macros : IsRightToMacros finds deep features limit w
        to_macros = right_to_macros finds deep features limit w leveled to_levels chain (right_macros ready)

        pub rest_told : (fault : NormFault) → IsLaterFault first expanded fault → TellsOfWritten finds deep features limit w fault
        rest_told fault h =
            later_told finds deep features limit w leveled expanded to_macros macro_chain first places_are fault p.checks h

        pub nothing_stands : HasNoLaterFault first expanded → HasNoWrittenFault finds deep features limit w
        nothing_stands h =
            none_stands_written finds deep features limit w leveled expanded to_macros macro_chain first places_are p.checks h
