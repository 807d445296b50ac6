-- What the laws of names say of what resolving makes of a grammar; for `resolve`.
use Rattle.std.proofs.Common.{◌≡◌, ◌∙◌, sym, subst, List, map}
use Rattle.std.specs.Prelude.{Bool, IfErr, IfOk, None, Option, Result, Ok, Err}
use Rattle.lalrpop_grammar_symbols.specs.Symbols.{Text}
use Rattle.lalrpop_grammar.specs.Views.{grammar_view, item_view, nonterminal_view}
use Rattle.lalrpop_grammar.specs.WrittenGrammar.{Grammar, rules_of}
use Rattle.lalrpop_grammar.specs.declared.grammar.Grammar as program
use Rattle.lalrpop_grammar.specs.declared.grammar.GrammarItem.{GrammarItem}
use Rattle.lalrpop_grammar.specs.declared.nonterminal.NonterminalData.{NonterminalData}
use Rattle.lalrpop_grammar_repr.specs.declared.session.NormFault.{NormFault}
use Rattle.lalrpop_norm_theory.specs.Between.{grammar_between}
use Rattle.lalrpop_norm_theory.specs.Premises.{IsResolved}
use Rattle.lalrpop_norm_theory.specs.Same.{SameExpansion}
use Rattle.lalrpop_norm_theory.specs.Inlined.{SameInlined}
use Rattle.lalrpop_norm_theory.specs.NameFaults.{HasRightNames, name_faults_in_rule}
use Rattle.lalrpop_norm_theory.specs.Resolving.{defined_names, resolved_item}
use Rattle.lalrpop_norm_theory.proofs.ResolvedLemmas.{right_names_resolve}
use Rattle.lalrpop_norm_theory.proofs.ResolvingLemmas.{resolving_expansion, resolving_inlined}
use Rattle.lalrpop_norm_theory.proofs.RightAgainLemmas.{right_again}
use Rattle.lalrpop_norm_theory.proofs.StayingLemmas.{resolved_stays}
use Rattle.lalrpop_norm_resolve.specs.FoundFaults.{AmongFaults, HasRightRules, IsNameFault, TellsOneOf, IsResolvedFrom}
use Rattle.lalrpop_norm_resolve.specs.FoundFaults.{StandsInRule, StandsInRules}
use Rattle.lalrpop_norm_resolve.specs.NameViews.{definition_names, scope_names}
use Rattle.lalrpop_norm_resolve.specs.Searches.{first_shared_rule}
use Rattle.lalrpop_norm_resolve.specs.declared.names.definitions.Definitions.{Definitions}
use Rattle.lalrpop_norm_resolve.specs.declared.names.definitions.Scope.{Scope}
use Rattle.lalrpop_norm_resolve.proofs.RuleListLemmas.{fault_of_rules, listed_in_rule, right_names}
use Rattle.lalrpop_grammar_symbols.proofs.BoolLemmas.{ok_from}

pub err_from : {T E : Type 0} (P Q : E → Type 0) (r : Result T E) → ((e : E) → P e → Q e) → IfErr r P → IfErr r Q
err_from P Q (Ok x) to h = h
err_from P Q (Err e) to h = to e h

module _ (g made : Grammar) (w : IsResolvedFrom g made) where
  pub is_resolved : (finds : Text → Text → Option Bool) → IsResolved (grammar_between finds made)
  is_resolved finds = subst (λ h. IsResolved (grammar_between finds h)) (sym w.value) (right_names_resolve finds g w.right)

  pub right_still : HasRightNames made
  right_still = subst HasRightNames (sym w.value) (right_again g w.right)

  pub same_expansion : (finds : Text → Text → Option Bool)
      → SameExpansion (grammar_between finds g) (grammar_between finds made) (λ x. x)
  same_expansion finds =
      subst (λ h. SameExpansion (grammar_between finds g) (grammar_between finds h) (λ x. x)) (sym w.value) (resolving_expansion finds g)

  pub same_inlined : (finds : Text → Text → Option Bool)
      → SameInlined (grammar_between finds g) (grammar_between finds made) (λ x. x)
  same_inlined finds =
      subst (λ h. SameInlined (grammar_between finds g) (grammar_between finds h) (λ x. x)) (sym w.value) (resolving_inlined finds g)

  pub stays : (finds : Text → Text → Option Bool) → IsResolved (grammar_between finds g) → made ≡ g
  stays finds h = w.value ∙ resolved_stays finds g h

module _ (r : Result (List GrammarItem) NormFault) (h g : program.Grammar) (xs : List GrammarItem) (same : h ≡ g)
    (all : xs ≡ g.items) where
  -- what was made of these items was made of the grammar's
  pub items_value : IfOk r (λ made. map item_view made ≡ map (resolved_item (defined_names (grammar_view h))) (map item_view xs))
      → IfOk r (λ made. map item_view made ≡ map (resolved_item (defined_names (grammar_view g))) (map item_view g.items))
  items_value v =
      subst (λ ys. IfOk r (λ made. map item_view made ≡ map (resolved_item (defined_names (grammar_view g))) (map item_view ys))) all
      (subst
      (λ k. IfOk r (λ made. map item_view made ≡ map (resolved_item (defined_names (grammar_view k))) (map item_view xs))) same v)

  pub items_right : first_shared_rule (grammar_view h) ≡ None
      → IfOk r (λ made. HasRightRules (defined_names (grammar_view h)) (rules_of (map item_view xs)))
      → IfOk r (λ made. HasRightNames (grammar_view g))
  items_right none v =
      ok_from (λ made. HasRightRules (defined_names (grammar_view h)) (rules_of (map item_view xs)))
      (λ made. HasRightNames (grammar_view g)) r
      (λ made w. right_names (grammar_view g) (subst (λ k. first_shared_rule (grammar_view k) ≡ None) same none)
      (subst (λ ys. HasRightRules (defined_names (grammar_view g)) (rules_of (map item_view ys))) all
      (subst (λ k. HasRightRules (defined_names (grammar_view k)) (rules_of (map item_view xs))) same w))) v

  pub items_fault : IfErr r (TellsOneOf (StandsInRules (defined_names (grammar_view h)) (rules_of (map item_view xs))))
      → IfErr r (IsNameFault (grammar_view g))
  items_fault v =
      err_from (TellsOneOf (StandsInRules (defined_names (grammar_view h)) (rules_of (map item_view xs)))) (IsNameFault (grammar_view g)) r
      (λ e w. fault_of_rules (grammar_view g) e
      (subst (λ ys. TellsOneOf (StandsInRules (defined_names (grammar_view g)) (rules_of (map item_view ys))) e) all
      (subst (λ k. TellsOneOf (StandsInRules (defined_names (grammar_view k)) (rules_of (map item_view xs))) e) same w))) v

-- a fault that stands in the rule of a scope
pub listed_in_scope : (s : Scope) (d : Definitions) (r : NonterminalData) (e : NormFault) → s.definitions.now ≡ d → s.rule.now ≡ r
    → TellsOneOf (AmongFaults (name_faults_in_rule (scope_names s) (nonterminal_view s.rule.now))) e
    → TellsOneOf (StandsInRule (definition_names d) (nonterminal_view r)) e
listed_in_scope s d r e same here h =
    listed_in_rule (definition_names d) (nonterminal_view r) e
    (subst (λ k. TellsOneOf (AmongFaults (name_faults_in_rule (definition_names d) (nonterminal_view k))) e) here
    (subst (λ k. TellsOneOf (AmongFaults (name_faults_in_rule (definition_names k) (nonterminal_view s.rule.now))) e) same h))
