-- What is told of a written grammar by its plain productions, before and after inlining; for what is prepared.
use Rattle.std.specs.Prelude.{Bool, Option, ◌++◌}
use Rattle.std.specs.List.Sorted.{IsStrictlySortedBy}
use Rattle.std.specs.Map.{keys_of}
use Rattle.std.proofs.Common.{◌≡◌, ◌∙◌, ℕ, List, ap, sym, subst, inl, inr, Contains, true}
use Rattle.lalrpop_grammar_symbols.specs.Symbols.{Text}
use Rattle.lalrpop_grammar_symbols.specs.Views.{span_view}
use Rattle.lalrpop_grammar_symbols.specs.contracts.names.NonterminalStringOrd.TheImpl as names
use Rattle.lalrpop_grammar_symbols.specs.contracts.terminal.TerminalStringOrd.TheImpl as terminal_order
use Rattle.lalrpop_grammar_symbols.specs.declared.names.NonterminalString.{NonterminalString}
use Rattle.lalrpop_grammar_symbols.specs.declared.span.Span.{Span}
use Rattle.std.proofs.lemmas.List.{length-map}
use Rattle.lalrpop_grammar.specs.Views.{grammar_view, origin_view}
use Rattle.lalrpop_grammar.specs.declared.origin.Origin as choices
use Rattle.lalrpop_grammar.specs.WrittenGrammar.{Grammar, InternEntry}
use Rattle.lalrpop_grammar_language.specs.Enabled.{EnabledGrammar, enabled_grammar}
use Rattle.lalrpop_grammar_language.specs.Expansion.{InExpansion, Nonterminal}
use Rattle.lalrpop_grammar_repr.specs.declared.grammar.Grammar as repr
use Rattle.lalrpop_grammar_repr.specs.declared.terminal_set.TerminalSet.{TerminalSet}
use Rattle.lalrpop_lexer.specs.Simulation.{Decides, StateView}
use Rattle.lalrpop_lexer_scan.specs.Scanning.{IsScannerOf}
use Rattle.lalrpop_lr1_barren.specs.LeastBarren.{IsLeastAmongBarren}
use Rattle.lalrpop_lr1_core.specs.TheoryGrammars.{theory_grammar}
use Rattle.lalrpop_lr1_first.specs.NumberedGrammars.{HasItsTerminals}
use Rattle.lalrpop_lr1_inline.specs.InlinedGrammars.{IsInlinedGrammar}
use Rattle.lalrpop_lr1_inline.specs.InliningSteps.{productions_named}
use Rattle.lalrpop_lr1_theory.specs.Productions as theory
use Rattle.lalrpop_lr1_theory.specs.ValidItems.{NoneBarren}
use Rattle.lalrpop_norm_token_check.specs.Patterns.{entry_patterns, entry_precedences}
use Rattle.lalrpop_norm_theory.specs.Inlined.{IsInlined}
use Rattle.lalrpop_norm_theory.specs.Keys.{leveled_key_text}
use Rattle.lalrpop_norm_theory.specs.NamesByUse.{IsNamingByUse}
use Rattle.lalrpop_norm_theory.specs.Premises.{IsReadGrammar}
use Rattle.lalrpop_norm_lower.specs.TableReadiness.{IsReadyForTables}
use Rattle.lalrpop_norm_lower.specs.declared.lowering.Normalized.{Normalized}
use Rattle.lalrpop_norm_chain.specs.LoweredViews.{lowered_view}
use Rattle.lalrpop_run_prepare.proofs.InlinedExpansionLemmas.{base_expansion, base_names}
use Rattle.lalrpop_run_prepare.proofs.NormalizedLemmas.{named_expansion, named_names, named_origins}
use Rattle.lalrpop_run_theory.specs.Barren.{HasNoBarren, IsLeastBarrenName}
use Rattle.lalrpop_run_theory.specs.Expansions.{AreBaseExpansion}
use Rattle.lalrpop_run_theory.proofs.BarrenLemmas.{barren_named, named_barren, none_barren_named, start_is_alone}
use Rattle.lalrpop_run_prepare.specs.ToldExpansions.{AreToldExpansion}
use Rattle.lalrpop_run_prepare.proofs.ToldExpansionLemmas.{told_expansion}
use Rattle.lalrpop_run_prepare.proofs.InlinedEntryLemmas.{steps_own, steps_sorted}
use Rattle.lalrpop_run_prepare.specs.PrepareRefusals.{IsPrepareRefusal, IsRefusedExpansion, IsRefusedStart}
use Rattle.lalrpop_run_prepare.specs.PreparedGrammars.{HasNamedProductions, IsPreparedWhereRead, MayBeParsedFrom, PreparedGrammar}
use Rattle.lalrpop_run_prepare.specs.StartRules.{IsStartOf, leads_to_rule}
use Rattle.lalrpop_run_prepare.proofs.AloneLemmas.{alone_told}
use Rattle.lalrpop_run_prepare.proofs.StartLemmas.{start_in_expansion}
use Rattle.lalrpop_run_prepare.proofs.StartRuleLemmas.{start_leads}
use Rattle.lalrpop_run_prepare.specs.declared.refusals.refusing.GenerateError.{GenerateError}
use Rattle.lalrpop_run_prepare.specs.Refused.{IsGenerable, IsGrammarRefusal}
use Rattle.lalrpop_run_prepare.specs.Tokenizers.{IsNormalizedFor, scan_entries}

module _ (finds : Text → Text → Option Bool) (deep : Text → Bool) (features : List Text) (limit : ℕ) (start : Text) (w : Grammar)
    (made : Normalized) (dfa : List StateView) (read : IsReadGrammar w)
    (n : IsNormalizedFor finds deep features limit start w made dfa) (ready : IsReadyForTables made.grammar)
    (sorted : IsStrictlySortedBy (names.ghosts).cmp (keys_of made.grammar.nonterminals)) where
  abbrev g : EnabledGrammar
  g = enabled_grammar finds features w

  named : HasNamedProductions made.grammar
  named = record { under = λ e p i j. ready.named e.0 e.1 p i j; ascending = sorted }

  in_expansion : InExpansion g (Nonterminal.start start)
  in_expansion = start_in_expansion finds deep features limit w read n.generable.faultless start n.generable.starts

  base : AreBaseExpansion g w.prefix (Contains (theory_grammar made.grammar))
  base =
      base_expansion g w.prefix made.grammar sorted (λ e p i j. ready.named e.0 e.1 p i j)
      (named_expansion finds features w made n.normalized)

  -- inlined productions are those of the expansion after inlining, and their actions tell their labels
  pub told : (after : repr.Grammar) → IsInlinedGrammar made.grammar after
      → AreToldExpansion g w.prefix after.action_fn_defns made.origins (theory_grammar after)
  told after i =
      told_expansion g w.prefix made.grammar sorted (λ e p i j. ready.named e.0 e.1 p i j)
      (named_expansion finds features w made n.normalized) made.origins (named_origins finds features w made n.normalized)
      (n.normalized.actions.no_other ∙ length-map made.origins origin_view) after i ready.actions

  -- nothing is barren in the expansion as it is written
  pub no_barren : NoneBarren (Contains (theory_grammar made.grammar)) start → HasNoBarren g start
  no_barren none = none_barren_named g w.prefix (Contains (theory_grammar made.grammar)) base start in_expansion none

  -- its names are those of the normalized grammar
  normalized_names : base.name_of ≡ n.normalized.name_of
  unfolding base
  normalized_names =
      base_names g w.prefix made.grammar sorted (λ e p i j. ready.named e.0 e.1 p i j) (named_expansion finds features w made n.normalized)
      ∙ named_names finds features w made n.normalized

  least_told : (name : Text) → IsLeastAmongBarren (Contains (theory_grammar made.grammar)) start name
      → IsLeastBarrenName g w.prefix start name
  least_told name h =
      let x = named_barren g w.prefix (Contains (theory_grammar made.grammar)) base start in_expansion name h.barren in
      record {
        name_of = base.name_of;
        naming = subst (IsNamingByUse (leveled_key_text g) w.prefix g) (sym normalized_names) n.normalized.naming;
        told = record {
          nonterminal = x.0;
          is_barren = x.1;
          name_is = x.2;
          least = λ y k. h.least (base.name_of y)
              (barren_named g w.prefix (Contains (theory_grammar made.grammar)) base start in_expansion y k);
        };
      }

  -- the start stands on no right side, and leads to the rule alone
  pub is_start : (after : repr.Grammar) (name : NonterminalString) → IsInlinedGrammar made.grammar after
      → name.0 ≡ w.prefix ++ start → IsStartOf start made.grammar after name
  is_start after name i same =
      let e = (told after i).expansion in
      record {
        alone = alone_told after name (λ p m k. start_is_alone g (IsInlined g) w.prefix (Contains (theory_grammar after)) e start
            in_expansion p m (subst (λ (t : Text). Contains p.right (theory.nonterminal t)) same k));
        leads = subst (λ (t : Text). leads_to_rule start (productions_named made.grammar.nonterminals t) ≡ true) (sym same)
            (start_leads g w.prefix made.grammar base start in_expansion sorted (λ e p i j. ready.named e.0 e.1 p i j));
      }

  -- what is told of the plain productions is told of the written grammar
  pub expansion_refused : (whole : Span) (error : GenerateError) → span_view whole ≡ w.span
      → IsRefusedExpansion whole made.grammar start error → IsPrepareRefusal finds deep features limit start w error
  expansion_refused whole error at (IsRefusedExpansion.inlining (inl e)) = IsPrepareRefusal.before (IsGrammarRefusal.memory e)
  expansion_refused whole error at (IsRefusedExpansion.inlining (inr h)) =
      IsPrepareRefusal.inlining n.generable (record {
        lowered = made;
        normalized = n.normalized;
        named = named;
        whole = whole;
        whole_is = at;
        told = h.0;
        stands = h.1;
        error_is = h.2;
      })
  expansion_refused whole error at (IsRefusedExpansion.barren name after i least e) =
      IsPrepareRefusal.barren name.0 n.generable
      (record { lowered = made; normalized = n.normalized; named = named; expansion = after; inlined = i }) (least_told name.0 least) e

  pub start_refused : (whole : Span) (error : GenerateError) → span_view whole ≡ w.span
      → IsRefusedStart whole made.grammar w.prefix start error → IsPrepareRefusal finds deep features limit start w error
  start_refused whole error at (IsRefusedStart.expansion h) = expansion_refused whole error at h
  start_refused whole error at (IsRefusedStart.unread after name i same other) = absurd (other (is_start after name i same))

module _ (finds : Text → Text → Option Bool) (deep : Text → Bool) (v : PreparedGrammar) (made : Normalized) (dfa : List StateView)
    (start : Text) where
  abbrev entries : List InternEntry
  entries = (lowered_view made).entries

  -- what is put together is prepared
  pub prepared_where_read : made.grammar ≡ v.lowered → made.origins ≡ v.origins → v.start ≡ start
      → v.start_name.0 ≡ v.written.prefix ++ start → HasItsTerminals v.expansion → MayBeParsedFrom v.expansion v.start_name
      → NoneBarren (Contains (theory_grammar made.grammar)) start → IsInlinedGrammar made.grammar v.expansion
      → IsReadyForTables made.grammar → IsStrictlySortedBy (names.ghosts).cmp (keys_of made.grammar.nonterminals)
      → (IsReadGrammar (grammar_view v.written)
      → IsNormalizedFor finds deep v.session.features.items v.session.macro_recursion_limit start (grammar_view v.written) made dfa)
      → (Decides dfa (entry_patterns entries) (entry_precedences entries) → IsScannerOf v.scanner (scan_entries entries))
      → IsPreparedWhereRead finds deep v
  prepared_where_read low origins same name terminals parsed none i ready sorted normal scans = record {
    name_is = name ∙ ap (λ (s : Text). v.written.prefix ++ s) (sym same);
    terminals = terminals;
    ascending = subst (λ (ts : TerminalSet). IsStrictlySortedBy (terminal_order.ghosts).cmp ts.all)
        (sym (ap (λ (g : repr.Grammar). g.terminals) i.others)) ready.ascending;
    named = record {
      under = steps_own i.order made.grammar.nonterminals v.expansion.nonterminals made.grammar.action_fn_defns
          v.expansion.action_fn_defns i.steps (λ e p j k. ready.named e.0 e.1 p j k);
      ascending = steps_sorted i.order made.grammar.nonterminals v.expansion.nonterminals made.grammar.action_fn_defns
          v.expansion.action_fn_defns i.steps sorted;
    };
    parsed = parsed;
    prepared = λ read.
        let n = normal read in
        record {
          read = read;
          made = made;
          lowered_is = low;
          origins_are = origins;
          generable = subst (λ (s : Text).
              IsGenerable finds deep v.session.features.items v.session.macro_recursion_limit s (grammar_view v.written)) (sym same)
              n.generable;
          normalized = n.normalized;
          named = record { under = λ e p j k. ready.named e.0 e.1 p j k; ascending = sorted };
          scans = scans n.decides;
          inlined = subst (λ (g : repr.Grammar). IsInlinedGrammar g v.expansion) low i;
          none_barren = subst (λ (s : Text).
              HasNoBarren (enabled_grammar finds v.session.features.items (grammar_view v.written)) s) (sym same)
              (no_barren finds deep v.session.features.items v.session.macro_recursion_limit start (grammar_view v.written) made dfa read n
              ready sorted none);
          told = subst (λ (given : List choices.Origin).
              AreToldExpansion (enabled_grammar finds v.session.features.items (grammar_view v.written)) v.written.prefix
              v.expansion.action_fn_defns given (theory_grammar v.expansion)) origins
              (told finds deep v.session.features.items v.session.macro_recursion_limit start (grammar_view v.written) made dfa read n
              ready sorted v.expansion i);
        };
  }
