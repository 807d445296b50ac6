-- The rule of a call is that of the called rule, as it is written; for the functions that write rules of calls.
use Rattle.std.proofs.Common.{◌≡◌, ◌∙◌, List, [], ◌∷◌, refl, ap, sym, subst, map, length}
use Rattle.std.proofs.lemmas.List.{length-map}
use Rattle.std.specs.Prelude.{ℕ, Bool, Option, Some, Result, Ok, Err, IfErr}
use Rattle.lalrpop_grammar_symbols.specs.Symbols.{Text, Closed, Closeds}
use Rattle.lalrpop_grammar_symbols.specs.declared.names.NonterminalString.{NonterminalString}
use Rattle.lalrpop_grammar.specs.WrittenGrammar.{Rule}
use Rattle.lalrpop_grammar.specs.Views.{nonterminal_view}
use Rattle.lalrpop_grammar.specs.declared.nonterminal.NonterminalData.{NonterminalData}
use Rattle.lalrpop_grammar_language.specs.Among.{Among}
use Rattle.lalrpop_grammar_language.specs.Enabled.{enabled_rule}
use Rattle.lalrpop_grammar_language.specs.Admitting.{argument_list, bind}
use Rattle.lalrpop_grammar_rules.specs.Details.{enabled_rule_view}
use Rattle.lalrpop_grammar_rules.specs.RuleTable.{IsOnly, rules_with}
use Rattle.lalrpop_grammar_rules.specs.declared.rule.EnabledRule as program
use Rattle.lalrpop_grammar_repr.specs.declared.session.NormFault.{NormFault}
use Rattle.lalrpop_grammar_repr.specs.declared.session.NormFault.TheVariants as faults
use Rattle.lalrpop_grammar_rules.specs.Views.{binding_of, closed_view, closeds}
use Rattle.lalrpop_grammar_rules.specs.declared.closed.closed_symbol.ClosedSymbol.{ClosedSymbol}
use Rattle.lalrpop_norm_keys.proofs.InstanceLemmas.{as_many, binding_same}
use Rattle.lalrpop_norm_macros.specs.KeyInstances.{TellsOfOneIn}
use Rattle.lalrpop_norm_macros.specs.RulesUnder.{IsInstanceRuleUnder}
use Rattle.lalrpop_norm_macros.specs.WrittenKeys.{IsCallRule, IsCalledRule, TellsOfCalledRule, TellsOfKey, TellsOfOneKey}
use Rattle.lalrpop_norm_macros.specs.WrittenRules.{spelled_in, written_at}
use Rattle.lalrpop_norm_macros.specs.declared.key_rules.rules.KeyRules.{KeyRules}

module _ (c : KeyRules) (finds : Text → Text → Option Bool) (n : Text) (as_ : List ClosedSymbol) where
  abbrev args : Closeds
  args = closeds (map closed_view as_)

  pub call_made : (name : Text) (rule : program.EnabledRule) (w made : Rule) → IsOnly c.rules.now n rule
      → Some w ≡ written_at c.written.now n
      → IsInstanceRuleUnder c.names.now (rules_with finds c.rules.now) (enabled_rule_view c.rules.now.features.now rule) args
      (binding_of (rule.written.now).args as_) (argument_list (spelled_in c.written.now) args) name w made
      → IsCallRule c finds n args name made
  call_made name rule w made only there m = λ written k.
      let t = rules_with finds c.rules.now in
      let r = enabled_rule_view c.rules.now.features.now rule in
      let q = enabled_rule c.rules.now.features.now written in
      let shown = argument_list (spelled_in c.written.now) args in
      let found : Some w ≡ Some written = there ∙ k.found in
      let same_written : w ≡ written = cc in
      let one : r ∷ [] ≡ q ∷ [] = sym only.0 ∙ k.is_rule in
      let same_rule : r ≡ q = cc in
      subst (λ v. IsInstanceRuleUnder c.names.now t q args (bind q args) shown name v made) same_written
      (subst (λ v. IsInstanceRuleUnder c.names.now t v args (bind v args) shown name w made) same_rule
      (subst (λ b. IsInstanceRuleUnder c.names.now t r args b shown name w made) (binding_same r (rule.written.now).args as_ refl) m))

  pub call_told : {T : Type 0} (deep : Text → Bool) (rule : program.EnabledRule) (w : Rule) (res : Result T NormFault)
      → IsOnly c.rules.now n rule → Some w ≡ written_at c.written.now n
      → IfErr res (TellsOfOneIn finds deep (binding_of (rule.written.now).args as_) w.alternatives)
      → IfErr res (TellsOfCalledRule c finds deep n args)
  call_told deep rule w (Ok x) only there t = t
  call_told deep rule w (Err faults.Memory) only there t = tt
  call_told deep rule w (Err (faults.Norm e)) only there t = (
    w,
    enabled_rule_view c.rules.now.features.now rule,
    sym there,
    only.0,
    subst (λ b. TellsOfOneIn finds deep b w.alternatives (faults.Norm e))
        (binding_same (enabled_rule_view c.rules.now.features.now rule) (rule.written.now).args as_ refl) t,
  )
  call_told deep rule w (Err faults.ConditionLimit) only there t = (
    w,
    enabled_rule_view c.rules.now.features.now rule,
    sym there,
    only.0,
    subst (λ b. TellsOfOneIn finds deep b w.alternatives faults.ConditionLimit)
        (binding_same (enabled_rule_view c.rules.now.features.now rule) (rule.written.now).args as_ refl) t,
  )

  -- with another number of arguments no rule is called
  pub none_called : (d : NonterminalData) (written : Rule) → Some (nonterminal_view d) ≡ written_at c.written.now n
      → (length d.args ≡ length as_ → ⊥) → IsCalledRule c finds n args written → ⊥
  none_called d written there other k =
      let found : Some (nonterminal_view d) ≡ Some written = there ∙ k.found in
      let same : nonterminal_view d ≡ written = cc in
      other (sym (length-map d.args (λ (q : NonterminalString). q.0)) ∙ ap (λ (r : Rule). length r.parameters) same
      ∙ sym k.arguments ∙ as_many as_)

-- what is told of a call is told of its key
pub key_told : {T : Type 0} (c : KeyRules) (finds : Text → Text → Option Bool) (deep : Text → Bool) (n : Text) (given : Closeds)
    (level : Option ℕ) (x : Closed) (res : Result T NormFault) → x ≡ Closed.call n given level
    → IfErr res (TellsOfCalledRule c finds deep n given) → IfErr res (TellsOfKey c finds deep x)
key_told c finds deep n given level x (Ok y) is t = t
key_told c finds deep n given level x (Err faults.Memory) is t = tt
key_told c finds deep n given level x (Err (faults.Norm e)) is t = (n, given, level, is, t)
key_told c finds deep n given level x (Err faults.ConditionLimit) is t = (n, given, level, is, t)

-- what is told of a key is told of one of them
pub one_told : (c : KeyRules) (finds : Text → Text → Option Bool) (deep : Text → Bool) (keys : List Closed) (x : Closed)
    → Among keys x
    → (f : NormFault) → TellsOfKey c finds deep x f → TellsOfOneKey c finds deep keys f
one_told c finds deep keys x i faults.Memory t = tt
one_told c finds deep keys x i (faults.Norm e) t = (x, i, t)
one_told c finds deep keys x i faults.ConditionLimit t = (x, i, t)
