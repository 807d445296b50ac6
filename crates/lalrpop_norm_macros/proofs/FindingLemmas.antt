-- What the searches for calls and keys find is found in a grammar that is ready; for the search of the pass.
use Rattle.std.proofs.Common.{◌≡◌, ℕ, ◌≤◌, List, [], sym, ◌∙◌, subst, arith}
use Rattle.std.specs.Prelude.{Bool, Option, Result, Ok, Err, IfOk, IfErr}
use Rattle.lalrpop_grammar_symbols.specs.Symbols.{Text, Closed}
use Rattle.lalrpop_grammar_symbols.specs.Views.{span_view}
use Rattle.lalrpop_grammar_symbols.specs.declared.span.Span.{Span}
use Rattle.lalrpop_grammar.specs.WrittenGrammar.{Grammar, rules_of}
use Rattle.lalrpop_grammar_language.specs.Enabled.{EnabledGrammar}
use Rattle.lalrpop_grammar_repr.specs.declared.norm_error.NormError.{NormError}
use Rattle.lalrpop_grammar_repr.specs.declared.norm_error.NormErrorKind.TheVariants as kinds
use Rattle.lalrpop_grammar_repr.specs.declared.session.NormFault.{NormFault}
use Rattle.lalrpop_grammar_repr.specs.declared.session.NormFault.TheVariants as faults
use Rattle.lalrpop_grammar_rules.specs.RuleTable.{IsOfGrammar, rules_view, rules_with}
use Rattle.lalrpop_grammar_rules.specs.declared.table.Rules as table
use Rattle.lalrpop_grammar_rules.specs.Views.{closed_view}
use Rattle.lalrpop_grammar_rules.specs.declared.closed.closed_symbol.ClosedSymbol.{ClosedSymbol}
use Rattle.lalrpop_norm_theory.specs.Between.{grammar_between}
use Rattle.lalrpop_norm_theory.specs.Rounds.{AreCallsToDepth}
use Rattle.lalrpop_norm_theory.proofs.DepthLemmas.{none_too_deep}
use Rattle.lalrpop_norm_theory.specs.KeyTables.{IsKeyTable}
use Rattle.lalrpop_norm_theory.specs.UsedKeys.{IsListByUse}
use Rattle.lalrpop_norm_keys.specs.Tables.{table_keys}
use Rattle.lalrpop_norm_keys.specs.declared.key_table.key_table.KeyTable.{KeyTable}
use Rattle.lalrpop_norm_keys.specs.Arity.{arity_faults}
use Rattle.lalrpop_norm_keys.specs.AskedConditions.{HasAskedConditions}
use Rattle.lalrpop_norm_theory.specs.CallPlaces.{IsPlaceBelow}
use Rattle.lalrpop_norm_keys.specs.FoundCalls.{HasFoundCalls, TellsOfMadeCall}
use Rattle.lalrpop_norm_keys.specs.SearchPremises.{AreAllCalls, CanSearch}
use Rattle.lalrpop_norm_keys.specs.UseSearch.{AreCallsByUse, HasCallsByUse}
use Rattle.lalrpop_norm_keys.specs.declared.rounds.FoundCalls.{FoundCalls}
use Rattle.lalrpop_norm_keys.specs.declared.rounds.FoundCalls.TheVariants as found
use Rattle.lalrpop_norm_macros.specs.MacroKeys.{HasMacroKeys}
use Rattle.lalrpop_norm_macros.specs.MacroPass.{IsMacroFault, IsReadyForMacros}
use Rattle.lalrpop_norm_macros.proofs.ConditionLemmas.{asks_there, none_wrong}
use Rattle.lalrpop_norm_macros.proofs.FaultLemmas.{told_condition, told_depth}
use Rattle.lalrpop_norm_macros.proofs.ResultLemmas.{right_keys}
use Rattle.lalrpop_norm_macros.proofs.TableLemmas.{alike, all_calls, arity_between, call_order_between, call_order_there}
use Rattle.lalrpop_norm_macros.proofs.TableLemmas.{calls_between, can_search, keys_between, order_between, place_between, told_between}
use Rattle.lalrpop_norm_macros.proofs.TableLemmas.{too_deep_between}

module _ (finds : Text → Text → Option Bool) (deep : Text → Bool) (limit : ℕ) (t : table.Rules) (w : Grammar)
    (of : IsOfGrammar [] w t) where
  abbrev of_table : EnabledGrammar
  of_table = rules_with finds t

  abbrev between : EnabledGrammar
  between = grammar_between finds w

  -- what the search for calls says
  abbrev Finds : FoundCalls → Type 0
  Finds answer = CanSearch of_table t.features.now w → HasFoundCalls of_table limit answer

  -- all calls
  pub calls_ready : (answer : FoundCalls) (calls : KeyTable) → answer ≡ found.All calls → Finds answer → IsReadyForMacros finds w
      → AreCallsToDepth between limit (table_keys calls) []
  calls_ready answer calls is h ready =
      calls_between finds t w of ready limit (table_keys calls)
      (subst (HasFoundCalls of_table limit) is (h (can_search finds t w of ready))).1

  -- in order of first use
  pub call_order_ready : (answer : FoundCalls) (calls : KeyTable) → answer ≡ found.All calls
      → (CanSearch of_table t.features.now w → HasCallsByUse of_table answer) → IsReadyForMacros finds w
      → AreCallsByUse between (table_keys calls)
  call_order_ready answer calls is h ready =
      call_order_between finds t w of ready (table_keys calls)
      (subst (HasCallsByUse of_table) is (h (can_search finds t w of ready)))

  -- or one that is too deep, with its place
  pub deep_call_told : (answer : FoundCalls) (x : ClosedSymbol) (span : Span) → answer ≡ found.TooDeep x span → Finds answer
      → (e : NormError) → e.kind ≡ kinds.MacroDepth limit → e.span ≡ span → IsMacroFault finds deep limit w (faults.Norm e)
  deep_call_told answer x span is h e same there =
      told_depth finds deep limit w e same (closed_view x)
      (λ ready. too_deep_between finds t w of ready limit (closed_view x) (found_there ready).0)
      (λ ready. subst (λ s. IsPlaceBelow between limit (closed_view x) (span_view s)) (sym there)
      (place_between finds t w of ready limit (closed_view x) (span_view span) (found_there ready).1))
    where
      found_there : IsReadyForMacros finds w → HasFoundCalls of_table limit (found.TooDeep x span)
      found_there ready = subst (HasFoundCalls of_table limit) is (h (can_search finds t w of ready))

  -- the keys, where no wrong number of arguments was told and all calls are found
  pub keys_ready : {T E : Type 0} (calls : List Closed) (answer : Result T E) (keys : T → List Closed)
      → arity_faults (rules_view t) (rules_of w.items) ≡ []
      → (IsReadyForMacros finds w → AreCallsToDepth between limit calls [])
      → (IsReadyForMacros finds w → AreCallsByUse between calls)
      → IfOk answer (λ x. CanSearch of_table t.features.now w → AreAllCalls of_table calls → IsKeyTable of_table calls (keys x))
      → IfOk answer (λ x. CanSearch of_table t.features.now w → AreAllCalls of_table calls → AreCallsByUse of_table calls
      → IsListByUse of_table (keys x))
      → IfOk answer (λ x. CanSearch of_table t.features.now w → AreAllCalls of_table calls → HasAskedConditions of_table deep)
      → IfOk answer (λ x. IsReadyForMacros finds w → HasMacroKeys finds deep limit w (keys x))
  keys_ready calls (Ok x) keys none are by_use held order asked = λ ready.
      let can = can_search finds t w of ready in
      let all = all_calls finds t w of ready limit calls (are ready) in
      let counted : arity_faults between (rules_of w.items) ≡ [] = sym (arity_between finds t w of ready) ∙ none in
      let low : limit ≤ limit = omega arith in
      record {
        keys_right = right_keys finds w ready counted limit calls (keys x) (are ready)
            (keys_between finds t w of ready calls (keys x) (held can all))
            (order_between finds t w of ready (keys x) (order can all (call_order_there finds t w of ready calls (by_use ready))));
        none = record {
          arity = counted;
          depth = none_too_deep between limit limit calls low (are ready);
          conditions = none_wrong between deep ready.flat
              (asks_there of_table between (alike finds t w of ready) deep (asked can all));
        };
      }
  keys_ready calls (Err e) keys none are by_use held order asked = held

  -- or what is told of a condition
  pub keys_told : {T : Type 0} (calls : List Closed) (answer : Result T NormFault)
      → (IsReadyForMacros finds w → AreCallsToDepth between limit calls [])
      → IfErr answer (λ fault. CanSearch of_table t.features.now w → AreAllCalls of_table calls
      → TellsOfMadeCall of_table deep fault)
      → IfErr answer (IsMacroFault finds deep limit w)
  keys_told calls (Ok x) are told = told
  keys_told calls (Err fault) are told =
      told_condition finds deep limit w fault (λ ready.
      told_between finds t w of ready deep fault
      (told (can_search finds t w of ready) (all_calls finds t w of ready limit calls (are ready))))
