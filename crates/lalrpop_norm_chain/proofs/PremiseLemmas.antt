-- The passes before leave what lowering rests on, and with it the whole chain makes the normalized grammar; for the laws of chains
-- up to lowering.
use Rattle.std.proofs.Common.{◌≡◌, List, [], ◌∷◌, ap, sym, ◌∙◌, subst, Bool}
use Rattle.std.specs.Prelude.{Option, ◌++◌}
use Rattle.lalrpop_grammar_symbols.specs.Symbols.{Text, Closed}
use Rattle.lalrpop_grammar.specs.Views.{grammar_view}
use Rattle.lalrpop_grammar.specs.WrittenGrammar.{Grammar, rules_of}
use Rattle.lalrpop_grammar.specs.declared.grammar.Grammar as program
use Rattle.lalrpop_grammar_language.specs.Among.{Among}
use Rattle.lalrpop_grammar_language.specs.Enabled.{Choice, EnabledGrammar}
use Rattle.lalrpop_grammar_repr.specs.Maps.{at_name}
use Rattle.lalrpop_grammar_repr.specs.declared.norm_error.NormErrorKind.TheVariants as kinds
use Rattle.lalrpop_grammar_repr.specs.declared.types.Types.{Types}
use Rattle.lalrpop_norm_theory.specs.Between.{grammar_between, rule_between}
use Rattle.lalrpop_norm_theory.specs.Keys.{flat_key_text, with_number}
use Rattle.lalrpop_norm_theory.specs.Premises.{IsExpanded}
use Rattle.lalrpop_grammar_language.proofs.AmongLemmas.{map_among}
use Rattle.lalrpop_norm_tyinfer.specs.TypeFaults.{nonterminal_of}
use Rattle.lalrpop_norm_lower.specs.Lowered.{AreChoicesInOrder, IsLowerable, IsLowered, KeepsTheRest}
use Rattle.lalrpop_norm_lower.specs.declared.lowering.Normalized.{Normalized}
use Rattle.lalrpop_norm_chain.specs.Normalized.{IsNormalized}
use Rattle.lalrpop_norm_chain.specs.PremiseLaws.{AreInOrder, HasFreePrefix, HasRulesInOrder, entries_of_items}
use Rattle.lalrpop_norm_chain.proofs.ChainLemmas.{between_behind}
use Rattle.lalrpop_norm_chain.proofs.NormalizedLemmas.{normalized}
use Rattle.lalrpop_norm_chain.proofs.FrontLemmas.{prefix_leveled}
use Rattle.lalrpop_norm_chain.proofs.KeyPrefixLemmas.{keys_free}
use Rattle.lalrpop_norm_chain.proofs.OrderLemmas.{keys_ordered, leveled_ordered}
use Rattle.lalrpop_norm_chain.proofs.PrefixLemmas.{leveled_free}
use Rattle.lalrpop_norm_chain.specs.LoweredViews.{HasNoTokenizer, HasOneTokenizer, first_entries, lowered_view}
use Rattle.lalrpop_norm_chain.specs.LoweredChains.{IsTypeChain}
use Rattle.lalrpop_norm_chain.proofs.EntryLemmas.{entries_behind, first_behind}
use Rattle.lalrpop_norm_chain.proofs.LoweredLemmas.{lowered_from}
use Rattle.lalrpop_norm_lower.proofs.LoweredLemmas.{some_is}

pub choices_in_order : (cs : List Choice) → AreInOrder cs → AreChoicesInOrder cs
choices_in_order [] h = tt
choices_in_order (c ∷ cs) h = (h.0, choices_in_order cs h.1)

module _ (finds : Text → Text → Option Bool) (features : List Text) (w checked : Grammar) (types : Types)
    (c : IsTypeChain finds features w checked types) where
  abbrev leveled : EnabledGrammar
  leveled = grammar_between finds c.leveled

  abbrev expanded : EnabledGrammar
  expanded = grammar_between finds c.expanded

  between_is : grammar_between finds checked ≡ expanded
  between_is = ap (grammar_between finds) c.tokens.whole ∙ between_behind finds c.tokens.entries c.expanded

  -- the order of alternatives

  leveled_in_order : HasRulesInOrder leveled
  leveled_in_order =
      subst (λ (x : Grammar). HasRulesInOrder (grammar_between finds x)) (sym c.front.levels.value)
      (leveled_ordered finds features w c.front.levels.names c.front.read)

  expanded_in_order : HasRulesInOrder expanded
  expanded_in_order =
      keys_ordered leveled expanded c.front.macros.key_of c.front.macros.keys c.front.macros.expansion c.front.macros.expanded
      leveled_in_order

  -- the prefix

  printed : (x : Closed) → Among c.front.macros.keys x
      → c.front.macros.key_of x ≡ with_number (flat_key_text x) (c.front.macros.naming.naming.number x)
  printed x i = sym (c.front.macros.named x i) ∙ c.front.macros.naming.naming.printed x (c.front.macros.expansion.reached x i)

  leveled_is_free : HasFreePrefix w.prefix leveled
  leveled_is_free =
      subst (λ (x : Grammar). HasFreePrefix w.prefix (grammar_between finds x)) (sym c.front.levels.value)
      (leveled_free finds features w c.front.levels.names c.front.read (c.no_check_fault kinds.ReservedPrefix) c.front.levels.are_names)

  expanded_is_free : HasFreePrefix w.prefix expanded
  expanded_is_free =
      keys_free leveled expanded c.front.macros.key_of c.front.macros.keys c.front.macros.expansion w.prefix leveled_is_free
      c.front.macros.expanded c.front.macros.naming.naming.number printed

  prefix_checked : checked.prefix ≡ w.prefix
  prefix_checked =
      ap (λ (x : Grammar). x.prefix) c.tokens.whole ∙ c.front.macros.prefix
      ∙ prefix_leveled finds features w c.leveled c.expanded c.front

  pub lowerable : IsLowerable finds checked types
  lowerable = record {
    expanded = subst IsExpanded (sym between_is) c.front.macros.expanded;
    ordered = λ r i. choices_in_order r.choices (subst HasRulesInOrder (sym between_is) expanded_in_order r i);
    free_prefix = λ r n i e.
        (subst (HasFreePrefix w.prefix) (sym between_is) expanded_is_free).rules (rule_between r) n
        (map_among rule_between (rules_of checked.items) r i) (e ∙ ap (λ (p : Text). p ++ n) prefix_checked);
    terminals = c.terminal_types;
    typed = λ r i. some_is _ (at_name (nonterminal_of r.name) types.nonterminal_types) (c.rule_types.typed r i);
  }

  -- one tokenizer stands there, where macros bring none
  pub one_tokenizer : HasNoTokenizer c.expanded → HasOneTokenizer checked
  one_tokenizer none =
      let es = c.tokens.entries in
      ap (λ (x : Grammar). first_entries x.items) c.tokens.whole ∙ first_behind c.expanded.items es none
      ∙ sym (ap (λ (x : Grammar). entries_of_items x.items) c.tokens.whole ∙ entries_behind c.expanded.items es none)

module _ (finds : Text → Text → Option Bool) (features : List Text) (w : Grammar) (g : program.Grammar) (types : Types)
    (made : Normalized) (c : IsTypeChain finds features w (grammar_view g) types) (none : HasNoTokenizer c.expanded)
    (m : IsLowered (grammar_between finds (grammar_view g)) (grammar_view g) types made) (k : KeepsTheRest g made) where
  pub chain_normalized : IsNormalized finds features w (lowered_view made)
  chain_normalized =
      normalized finds features w (lowered_view made) (record {
        leveled = c.leveled;
        expanded = c.expanded;
        front = c.front;
        first = c.first;
        checked = grammar_view g;
        tokens = c.tokens;
        inferred = types.nonterminal_types;
        types = c.rule_types;
        lowered = lowered_from finds g types made (lowerable finds features w (grammar_view g) types c)
            (one_tokenizer finds features w (grammar_view g) types c none) m k;
      })
