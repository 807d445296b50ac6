-- What the passes over what is disabled, names, levels and macros keep together; for the law of chains and for faults.
use Rattle.std.proofs.Common.{◌≡◌, ℕ, List, ap, sym, ◌∙◌, subst}
use Rattle.std.proofs.Common.{Bool}
use Rattle.std.specs.Prelude.{Option, None}
use Rattle.lalrpop_grammar_symbols.specs.Symbols.{Text, Closed, Closeds}
use Rattle.lalrpop_grammar.specs.WrittenGrammar.{Grammar}
use Rattle.lalrpop_grammar_language.specs.Enabled.{EnabledGrammar, EnabledRule, IsRule, enabled_grammar}
use Rattle.lalrpop_norm_chain.proofs.PlainNameLemmas.{names_plain, read_tells_resolved}
use Rattle.lalrpop_norm_chain.proofs.ItemLemmas.{block_stays}
use Rattle.lalrpop_grammar_language.specs.Expansion.{Nonterminal, InExpansion}
use Rattle.lalrpop_norm_theory.specs.Between.{grammar_between, without_disabled}
use Rattle.lalrpop_norm_theory.specs.Same.{SameExpansion}
use Rattle.lalrpop_norm_theory.specs.Keys.{flat_key_text, leveled_key_text}
use Rattle.lalrpop_norm_theory.specs.NamesByUse.{IsNamingByUse}
use Rattle.lalrpop_norm_theory.specs.Inlined.{SameInlined}
use Rattle.lalrpop_norm_theory.specs.Types.{SameTypes}
use Rattle.lalrpop_norm_theory.proofs.PassLemmas.{SameExpansion-trans}
use Rattle.lalrpop_norm_theory.specs.KeyRules.{by_name, nonterminal_by_name}
use Rattle.lalrpop_norm_theory.specs.LevelRules.{by_level_names}
use Rattle.lalrpop_norm_theory.proofs.KeyRuleLemmas.{key_called, in_keys, expanded as expanded_so, expanded_inlined}
use Rattle.lalrpop_norm_theory.proofs.DroppingLemmas.{dropped_names_by_use, dropping_expansion, dropping_inlined, dropping_types}
use Rattle.lalrpop_norm_theory.proofs.ResolvingLemmas.{resolved_names_by_use, resolving_expansion, resolving_inlined, resolving_types}
use Rattle.lalrpop_norm_theory.proofs.LeveledNamingLemmas.{naming_by_use_back}
use Rattle.lalrpop_norm_theory.proofs.ResolvedLemmas.{right_names_resolve}
use Rattle.lalrpop_norm_theory.specs.LevelLaws.{nonterminal_by_level, IsLevelable}
use Rattle.lalrpop_norm_theory.proofs.LevelTypeLemmas.{levels_keep}
use Rattle.lalrpop_norm_theory.proofs.KeyStepLemmas.{macros_keep_types}
use Rattle.lalrpop_norm_theory.proofs.ComposedTypeLemmas.{types_composed}
use Rattle.lalrpop_norm_token_check.specs.Blocks.{block_groups}
use Rattle.lalrpop_norm_chain.specs.PremiseLaws.{resolved_part}
use Rattle.lalrpop_norm_chain.specs.Chains.{IsMacroChain}

inlined_trans : (g h k : EnabledGrammar) (f e : Nonterminal → Nonterminal) → SameExpansion g h f → SameInlined g h f →
    SameInlined h k e → SameInlined g k (λ x. e (f x))
inlined_trans g h k f e s a b x i = (
  λ j. (b (f x) (s.there x i)).0 ((a x i).0 j),
  λ j. (a x i).1 ((b (f x) (s.there x i)).1 j),
)

-- the passes up to macros

module _ (finds : Text → Text → Option Bool) (features : List Text) (w leveled expanded : Grammar)
    (c : IsMacroChain finds features w leveled expanded) where
  abbrev pub at_written : EnabledGrammar
  at_written = enabled_grammar finds features w

  abbrev pub at_left : EnabledGrammar
  at_left = grammar_between finds (without_disabled features w)

  abbrev pub at_resolved : EnabledGrammar
  at_resolved = grammar_between finds (resolved_part features w)

  abbrev pub at_leveled : EnabledGrammar
  at_leveled = grammar_between finds leveled

  abbrev pub at_expanded : EnabledGrammar
  at_expanded = grammar_between finds expanded

  abbrev pub level_of : Text → ℕ → Text
  level_of = c.levels.names

  abbrev pub key_of : Closed → Text
  key_of = c.macros.key_of

  abbrev pub to : Nonterminal → Nonterminal
  to x = nonterminal_by_name key_of (nonterminal_by_level level_of x)

  abbrev pub closed_to : Closed → Closed
  closed_to x = by_name key_of (by_level_names level_of x)

  pub levelable : IsLevelable finds (resolved_part features w) level_of
  levelable = record {
    resolved = right_names_resolve finds (without_disabled features w) c.right_names;
    right = c.right_levels;
    names = c.levels.are_names;
  }

  -- the expansion

  pub same_resolved : SameExpansion at_written at_resolved (λ x. x)
  same_resolved =
      SameExpansion-trans at_written at_left at_resolved (λ x. x) (λ x. x) (dropping_expansion finds features w c.read)
      (resolving_expansion finds (without_disabled features w))

  pub same_leveled : SameExpansion at_written at_leveled (nonterminal_by_level level_of)
  same_leveled =
      SameExpansion-trans at_written at_resolved at_leveled (λ x. x) (nonterminal_by_level level_of) same_resolved
      (c.levels.expansion (read_tells_resolved features w c.read))

  pub same_expanded : SameExpansion at_written at_expanded to
  same_expanded =
      SameExpansion-trans at_written at_leveled at_expanded (nonterminal_by_level level_of) (nonterminal_by_name key_of) same_leveled
      (expanded_so at_leveled at_expanded key_of c.macros.keys c.macros.expansion)

  pub prefix_leveled : leveled.prefix ≡ w.prefix
  prefix_leveled = ap (λ (g : Grammar). g.prefix) c.levels.value

  -- names of keys, with those of levels
  abbrev pub key_named : Nonterminal → Text
  key_named x = c.macros.name_of (nonterminal_by_level level_of x)

  pub named_by_use : IsNamingByUse (leveled_key_text at_resolved) w.prefix at_resolved key_named
  named_by_use =
      naming_by_use_back finds (resolved_part features w) level_of levelable (names_plain features w c.read) c.macros.name_of w.prefix
      (read_tells_resolved features w c.read)
      (subst (λ (g : Grammar). IsNamingByUse flat_key_text w.prefix (grammar_between finds g) c.macros.name_of) c.levels.value
      (subst (λ (p : Text). IsNamingByUse flat_key_text p at_leveled c.macros.name_of) prefix_leveled c.macros.naming))

  pub written_by_use : IsNamingByUse (leveled_key_text at_written) w.prefix at_written key_named
  written_by_use =
      dropped_names_by_use finds features w w.prefix key_named c.read
      (resolved_names_by_use finds (without_disabled features w) w.prefix key_named named_by_use)

  pub block_is : block_groups expanded.items ≡ block_groups w.items
  block_is =
      c.macros.block ∙ ap (λ (g : Grammar). block_groups g.items) c.levels.value ∙ block_stays features w level_of

  pub span_is : expanded.span ≡ w.span
  span_is = c.macros.span ∙ ap (λ (g : Grammar). g.span) c.levels.value

  -- what is inlined
  pub inlined_expanded : SameInlined at_written at_expanded to
  inlined_expanded =
      inlined_trans at_written at_leveled at_expanded (nonterminal_by_level level_of) (nonterminal_by_name key_of) same_leveled
      (inlined_trans at_written at_resolved at_leveled (λ x. x) (nonterminal_by_level level_of) same_resolved
      (inlined_trans at_written at_left at_resolved (λ x. x) (λ x. x) (dropping_expansion finds features w c.read)
      (dropping_inlined finds features w c.read) (resolving_inlined finds (without_disabled features w))) c.levels.inlined)
      (expanded_inlined at_leveled at_expanded key_of c.macros.keys c.macros.expansion)

  -- types

  types_resolved : SameTypes at_written at_resolved (λ x. x)
  types_resolved =
      types_composed at_written at_left at_resolved (λ x. x) (λ x. x)
      (λ x i. (dropping_expansion finds features w c.read).there (Nonterminal.closed x) i)
      (dropping_types finds features w c.read) (resolving_types finds (without_disabled features w))

  pub types_leveled : SameTypes at_written at_leveled (by_level_names level_of)
  types_leveled =
      types_composed at_written at_resolved at_leveled (λ x. x) (by_level_names level_of)
      (λ x i. same_resolved.there (Nonterminal.closed x) i) types_resolved
      (subst (λ (g : Grammar). SameTypes at_resolved (grammar_between finds g) (by_level_names level_of)) (sym c.levels.value)
      (λ x t i. levels_keep finds (resolved_part features w) level_of levelable x t i))

  pub types_expanded : SameTypes at_written at_expanded closed_to
  types_expanded =
      types_composed at_written at_leveled at_expanded (by_level_names level_of) (by_name key_of)
      (λ x i. same_leveled.there (Nonterminal.closed x) i) types_leveled
      (macros_keep_types at_leveled at_expanded key_of c.macros.keys c.macros.expansion c.macros.types)

  -- a closed symbol of the expansion has a rule there, by its key's name
  pub record HasRule (x : Closed) : Type 0 where
    pub name : Text
    pub rule : EnabledRule
    pub is_rule : IsRule at_expanded name rule
    pub becomes : closed_to x ≡ Closed.call name Closeds.none None

  pub has_rule : (x : Closed) → InExpansion at_written (Nonterminal.closed x) → HasRule x
  has_rule x i =
      let y = by_level_names level_of x in
      let k = in_keys at_leveled at_expanded key_of c.macros.keys c.macros.expansion y (same_leveled.there (Nonterminal.closed x) i) in
      let u = c.macros.expansion.rules y k in
      record {
        name = key_of y;
        rule = u.0;
        is_rule = u.1;
        becomes = key_called key_of y (c.macros.expansion.keys_only y k);
      }
