-- What the passes up to levels leave is what the pass over macros rests on; for the normalizer.
use Rattle.std.proofs.Common.{List, [], ap, sym, subst, Bool}
use Rattle.std.specs.Prelude.{Option}
use Rattle.lalrpop_grammar_symbols.specs.Symbols.{Text}
use Rattle.lalrpop_grammar.specs.WrittenGrammar.{Grammar, rules_of}
use Rattle.lalrpop_grammar_language.specs.Enabled.{enabled_grammar}
use Rattle.lalrpop_grammar_repr.specs.declared.norm_error.NormErrorKind.TheVariants as kinds
use Rattle.lalrpop_norm_theory.specs.Between.{grammar_between, without_disabled}
use Rattle.lalrpop_norm_theory.specs.Premises.{HasNoRecovery, IsReadGrammar}
use Rattle.lalrpop_norm_theory.specs.NameFaults.{HasRightNames}
use Rattle.lalrpop_norm_theory.proofs.ResolvedLemmas.{right_names_resolve}
use Rattle.lalrpop_norm_theory.specs.LevelLaws.{IsLevelable}
use Rattle.lalrpop_norm_precedence.specs.LevelExpansions.{HasPlainNames}
use Rattle.lalrpop_norm_prevalidate.specs.Faults.{HasNoCheckFault}
use Rattle.lalrpop_norm_keys.specs.TableLaws.{HasAllActive}
use Rattle.lalrpop_norm_macros.specs.KeyNames.{IsNameable}
use Rattle.lalrpop_norm_macros.specs.NameLaws.{LeavesPrefix}
use Rattle.lalrpop_norm_macros.proofs.LeveledTextLemmas.{leveled_nameable}
use Rattle.lalrpop_norm_chain.specs.PremiseLaws.{HasFreePrefix, resolved_part}
use Rattle.lalrpop_norm_chain.proofs.ActiveLemmas.{leveled_asks_nothing, all_active}
use Rattle.lalrpop_norm_chain.proofs.PlainNameLemmas.{names_plain, parameters_plain}
use Rattle.lalrpop_norm_chain.proofs.PrefixLemmas.{leveled_free}
use Rattle.lalrpop_norm_chain.proofs.RecoveryLemmas.{no_recovery}
use Rattle.lalrpop_norm_chain.specs.FaultLaws.{IsLevelChain}
use Rattle.lalrpop_norm_macros.specs.MacroPass.{IsReadyForMacros}

-- names are such that levels can be named
pub plain_names : (finds : Text → Text → Option Bool) (features : List Text) (w : Grammar) → IsReadGrammar w
    → HasRightNames (without_disabled features w) → HasPlainNames finds (resolved_part features w)
plain_names finds features w read right = record {
  resolved = right_names_resolve finds (without_disabled features w) right;
  rules = names_plain features w read;
  parameters = parameters_plain features w read;
}

module _ (finds : Text → Text → Option Bool) (features : List Text) (w leveled : Grammar) (c : IsLevelChain finds features w leveled)
  where
    levelable : IsLevelable finds (resolved_part features w) c.levels.names
    levelable = record {
      resolved = right_names_resolve finds (without_disabled features w) c.right_names;
      right = c.right_levels;
      names = c.levels.are_names;
    }

    leveled_nameable_here : IsNameable (grammar_between finds leveled)
    leveled_nameable_here =
        subst (λ (g : Grammar). IsNameable (grammar_between finds g)) (sym c.levels.value)
        (leveled_nameable finds (resolved_part features w) c.levels.names levelable (names_plain features w c.read))

    leveled_recovery : HasNoRecovery (enabled_grammar finds features w) → HasNoRecovery (grammar_between finds leveled)
    leveled_recovery none =
        subst (λ (g : Grammar). HasNoRecovery (grammar_between finds g)) (sym c.levels.value)
        (no_recovery finds features w c.levels.names c.read none)

    leveled_active : HasAllActive [] (rules_of leveled.items)
    leveled_active =
        subst (λ (g : Grammar). HasAllActive [] (rules_of g.items)) (sym c.levels.value) (λ r i. record {
          rule = all_active [] r.attributes (leveled_asks_nothing features w c.levels.names r i).rule;
          alternatives = λ a j. all_active [] a.attributes ((leveled_asks_nothing features w c.levels.names r i).alternatives a j);
        })

    free_prefix : HasNoCheckFault w → HasFreePrefix w.prefix (grammar_between finds leveled)
    free_prefix checks =
        subst (λ (g : Grammar). HasFreePrefix w.prefix (grammar_between finds g)) (sym c.levels.value)
        (leveled_free finds features w c.levels.names c.read (checks kinds.ReservedPrefix) c.levels.are_names)

    leaves_prefix : HasNoCheckFault w → LeavesPrefix leveled.prefix (grammar_between finds leveled)
    leaves_prefix checks =
        let p = free_prefix checks in
        subst (λ (t : Text). LeavesPrefix t (grammar_between finds leveled)) (sym (ap (λ (g : Grammar). g.prefix) c.levels.value))
        (record {
          underscores = p.underscores;
          some = p.some;
          prefix_is = p.prefix_is;
          rules = p.rules;
          bares = p.bares;
        })

    pub ready_for_macros : HasNoCheckFault w → HasNoRecovery (enabled_grammar finds features w) → IsReadyForMacros finds leveled
    ready_for_macros checks none = record {
      resolved = c.levels.resolved;
      flat = c.levels.flat;
      recovery = leveled_recovery none;
      nameable = leveled_nameable_here;
      prefix = leaves_prefix checks;
      active = leveled_active;
    }
