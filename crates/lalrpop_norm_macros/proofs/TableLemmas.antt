-- What is found by a table of a grammar's rules, under no features, is found in the grammar between two passes; for the pass.
use Rattle.std.proofs.Common.{◌≡◌, ℕ, List, [], ap, sym, ◌∙◌, subst}
use Rattle.std.specs.Prelude.{Bool, true, Option}
use Rattle.lalrpop_grammar_symbols.specs.Symbols.{Text, TextSpan, Closed}
use Rattle.lalrpop_grammar.specs.Views.{grammar_view}
use Rattle.lalrpop_grammar.specs.WrittenGrammar.{Grammar, rules_of}
use Rattle.lalrpop_grammar_language.specs.Enabled.{EnabledGrammar, enabled_grammar, is_active}
use Rattle.lalrpop_grammar_repr.specs.declared.session.NormFault.{NormFault}
use Rattle.lalrpop_grammar_rules.specs.RuleTable.{IsOfGrammar, rules_view, rules_with}
use Rattle.lalrpop_grammar_rules.specs.declared.table.Rules as table
use Rattle.lalrpop_norm_theory.specs.Between.{grammar_between}
use Rattle.lalrpop_norm_theory.specs.Depth.{IsTooDeep}
use Rattle.lalrpop_norm_theory.specs.Rounds.{AreCallsToDepth}
use Rattle.lalrpop_norm_theory.specs.KeyTables.{IsKeyTable}
use Rattle.lalrpop_norm_theory.specs.UsedKeys.{IsListByUse}
use Rattle.lalrpop_norm_keys.specs.Arity.{arity_faults}
use Rattle.lalrpop_norm_theory.specs.CallPlaces.{IsPlaceBelow}
use Rattle.lalrpop_norm_keys.specs.FoundCalls.{TellsOfMadeCall}
use Rattle.lalrpop_norm_keys.specs.SearchPremises.{AreAllCalls, CanSearch}
use Rattle.lalrpop_norm_keys.specs.UseSearch.{AreCallsByUse}
use Rattle.lalrpop_norm_keys.proofs.FaultLemmas.{arity_alike, made_alike}
use Rattle.lalrpop_norm_keys.proofs.OriginLemmas.{plain_grammar}
use Rattle.lalrpop_norm_keys.proofs.PlainGrammarLemmas.{calls_alike, keys_alike, table_alike, too_deep_alike}
use Rattle.lalrpop_norm_keys.proofs.PlainUseLemmas.{call_order_alike, list_alike}
use Rattle.lalrpop_norm_keys.proofs.PremiseLemmas.{flat_back, single_back}
use Rattle.lalrpop_norm_macros.specs.MacroPass.{IsReadyForMacros}
use Rattle.lalrpop_norm_macros.proofs.PlaceLemmas.{place_alike}

module _ (finds : Text → Text → Option Bool) (t : table.Rules) (w : Grammar) (of : IsOfGrammar [] w t)
    (ready : IsReadyForMacros finds w) where
  abbrev of_table : EnabledGrammar
  of_table = rules_with finds t

  abbrev between : EnabledGrammar
  between = grammar_between finds w

  table_same : of_table ≡ enabled_grammar finds [] w
  table_same =
      ap (λ (l : List Text). enabled_grammar finds l (grammar_view t.grammar.now)) of.0 ∙ ap (enabled_grammar finds []) of.1

  -- they differ by origins alone
  pub alike : plain_grammar of_table ≡ plain_grammar between
  alike = ap plain_grammar table_same ∙ table_alike finds [] w ready.active

  -- what the searches rest on
  pub can_search : CanSearch of_table t.features.now w
  can_search = record {
    flat = flat_back of_table between alike ready.flat;
    single = single_back of_table between alike ready.resolved.rules;
    enabled = λ r i. subst (λ (l : List Text). is_active l r.attributes ≡ true) (sym of.0) (ready.active r i).rule;
  }

  pub calls_between : (depth : ℕ) (calls : List Closed) → AreCallsToDepth of_table depth calls []
      → AreCallsToDepth between depth calls []
  calls_between depth calls a = calls_alike of_table between alike depth calls [] a

  pub all_calls : (depth : ℕ) (calls : List Closed) → AreCallsToDepth between depth calls [] → AreAllCalls of_table calls
  all_calls depth calls a = (depth, calls_alike between of_table (sym alike) depth calls [] a)

  pub too_deep_between : (limit : ℕ) (x : Closed) → IsTooDeep of_table limit x → IsTooDeep between limit x
  too_deep_between limit x d = too_deep_alike of_table between alike limit x d

  pub place_between : (limit : ℕ) (x : Closed) (p : TextSpan) → IsPlaceBelow of_table limit x p → IsPlaceBelow between limit x p
  place_between limit x p b = place_alike of_table between alike limit x p b

  pub keys_between : (calls keys : List Closed) → IsKeyTable of_table calls keys → IsKeyTable between calls keys
  keys_between calls keys k = keys_alike of_table between alike calls keys k

  -- orders of first use
  pub call_order_between : (calls : List Closed) → AreCallsByUse of_table calls → AreCallsByUse between calls
  call_order_between calls u = call_order_alike of_table between alike calls u

  pub call_order_there : (calls : List Closed) → AreCallsByUse between calls → AreCallsByUse of_table calls
  call_order_there calls u = call_order_alike between of_table (sym alike) calls u

  pub order_between : (keys : List Closed) → IsListByUse of_table keys → IsListByUse between keys
  order_between keys u = list_alike of_table between alike keys u

  -- what is told of conditions
  pub told_between : (deep : Text → Bool) (f : NormFault) → TellsOfMadeCall of_table deep f → TellsOfMadeCall between deep f
  told_between deep f h = made_alike of_table between alike deep f h

  -- numbers of arguments, which ask nothing of how patterns are found
  pub arity_between : arity_faults (rules_view t) (rules_of w.items) ≡ arity_faults between (rules_of w.items)
  arity_between = arity_alike of_table between alike (rules_of w.items)
