-- The resolved grammar of one with right names is resolved, rule by rule; for resolving.
use Rattle.std.proofs.Common.{◌≡◌, List, [], ◌∷◌, refl, ap, sym, ◌∙◌, subst, cond, Bool, true, false, inl, inr, ◌⊎◌}
use Rattle.std.specs.Prelude.{Option, Some, None, map, flat_map, option_map}
use Rattle.lalrpop_grammar_symbols.specs.Symbols.{Text, TextSpan, Syms, syms, WrittenSymbol}
use Rattle.lalrpop_grammar_symbols.specs.Subsymbols.{subsymbols_of}
use Rattle.lalrpop_grammar_symbols.specs.SymbolMaps.{SymbolMapping, map_symbol, map_symbols}
use Rattle.lalrpop_grammar.specs.WrittenGrammar.{Ty, Tys, Condition, Alternative, Rule, Origin, Grammar, rules_of}
use Rattle.lalrpop_grammar_language.specs.Among.{Among}
use Rattle.lalrpop_grammar_language.specs.Enabled.{EnabledGrammar, EnabledRule, Choice, IsRule, has_text, choice_of}
use Rattle.lalrpop_grammar_language.proofs.PlaceLemmas.{among_map}
use Rattle.lalrpop_norm_theory.specs.Between.{with_origins, rule_between, grammar_between}
use Rattle.lalrpop_norm_theory.specs.Premises.{AreDifferent, symbols_of_type, symbols_of_types, IsResolvedIn, IsResolved}
use Rattle.lalrpop_grammar_language.proofs.StepLemmas.{among_right}
use Rattle.lalrpop_grammar_language.proofs.StepLemmas.{among_left}
use Rattle.lalrpop_grammar_language.proofs.OrderLemmas.{among_parts}
use Rattle.lalrpop_norm_theory.specs.Resolving.{DefinedNames, defined_names, resolved_symbol, resolved_type, resolved_types}
use Rattle.lalrpop_norm_theory.specs.Resolving.{resolved_alternative, resolved_rule, resolved_grammar}
use Rattle.lalrpop_norm_theory.specs.NameFaults.{IsDuplicate, NameFault, own_name_fault, name_faults_in, name_fault_of_condition}
use Rattle.lalrpop_norm_theory.specs.NameFaults.{name_faults_in_alternative, name_faults_in_declared, name_faults_in_rule, HasRightNames}
use Rattle.lalrpop_norm_theory.proofs.ClosedNameLemmas.{with_names}
use Rattle.lalrpop_norm_theory.proofs.ResolvingLemmas.{rules_resolved}
use Rattle.lalrpop_norm_theory.proofs.FaultLemmas.{nil_parts, flat_nil, DefinesNames, IsRight, replacement, right_symbol, right_symbols}
use Rattle.lalrpop_norm_theory.proofs.RightNameLemmas.{different_parameters, stands_once, defines}

syms_map : (m : SymbolMapping) (xs : List WrittenSymbol) → syms (map (map_symbol m) xs) ≡ map_symbols m (syms xs)
syms_map m [] = refl
syms_map m (x ∷ xs) = ap (Syms.more (map_symbol m x)) (syms_map m xs)

module _ (d : DefinedNames) (h : EnabledGrammar) (r : EnabledRule) (w : DefinesNames d h) where
  mutual
    pub right_type : (t : Ty) → ((y : WrittenSymbol) → Among (symbols_of_type t) y → own_name_fault d r.parameters y ≡ []) →
        (y : WrittenSymbol) → Among (symbols_of_type (resolved_type d r.parameters t)) y → IsRight d h r y
    right_type (Ty.tuple ts) k y i = right_types ts k y i
    right_type (Ty.nominal path ts) k y i = right_types ts k y i
    right_type (Ty.id n) k y i = absurd i
    right_type (Ty.of_symbol x) k y i = right_symbol d h r w x k y i
    right_type (Ty.ref lifetime mutable t) k y i = right_type t k y i
    right_type (Ty.opaque text) k y i = absurd i

    pub right_types : (ts : Tys) → ((y : WrittenSymbol) → Among (symbols_of_types ts) y → own_name_fault d r.parameters y ≡ []) →
        (y : WrittenSymbol) → Among (symbols_of_types (resolved_types d r.parameters ts)) y → IsRight d h r y
    right_types Tys.none k y i = absurd i
    right_types (Tys.more t ts) k y i =
        either (among_parts (symbols_of_type (resolved_type d r.parameters t)) (symbols_of_types (resolved_types d r.parameters ts)) y i)
        (right_type t (λ z j. k z (among_left (symbols_of_type t) (symbols_of_types ts) z j)) y)
        (right_types ts (λ z j. k z (among_right (symbols_of_type t) (symbols_of_types ts) z j)) y)
      where
        either : {A B C : Type 0} → A ⊎ B → (A → C) → (B → C) → C
        either (inl a) f e = f a
        either (inr b) f e = e b

module _ (finds : Text → Text → Option Bool) (g : Grammar) (right : HasRightNames g) where
  abbrev names : DefinedNames
  names = defined_names g

  abbrev after : EnabledGrammar
  after = grammar_between finds (resolved_grammar g)

  abbrev rule_of : Rule → EnabledRule
  rule_of q = rule_between (resolved_rule names q)

  rule_faults : (q : Rule) → Among (rules_of g.items) q → name_faults_in_rule names q ≡ []
  rule_faults q i = flat_nil (name_faults_in_rule names) (rules_of g.items) right.no_faults q i

  rule_parts : (q : Rule) → Among (rules_of g.items) q → (name_faults_in_declared names q.parameters q.declared ≡ [])
      × (flat_map (name_faults_in_alternative names q.parameters) q.alternatives ≡ [])
  rule_parts q i =
      nil_parts (name_faults_in_declared names q.parameters q.declared)
      (flat_map (name_faults_in_alternative names q.parameters) q.alternatives) (rule_faults q i)

  pub alternative_parts : (q : Rule) → Among (rules_of g.items) q → (a : Alternative) → Among q.alternatives a →
      (name_faults_in names q.parameters (subsymbols_of (syms a.expr)) ≡ [])
      × (name_fault_of_condition q.parameters a.condition ≡ [])
  alternative_parts q i a j =
      nil_parts (name_faults_in names q.parameters (subsymbols_of (syms a.expr))) (name_fault_of_condition q.parameters a.condition)
      (flat_nil (name_faults_in_alternative names q.parameters) q.alternatives (rule_parts q i).1 a j)

  pub right_in_alternative : (q : Rule) → Among (rules_of g.items) q → (a : Alternative) → Among q.alternatives a →
      (x : WrittenSymbol) → Among (subsymbols_of (syms (map (resolved_symbol names q.parameters) a.expr))) x →
      IsRight names after (rule_of q) x
  right_in_alternative q i a j x k =
      right_symbols names after (rule_of q) (defines finds g right) (syms a.expr)
      (λ y l. flat_nil (own_name_fault names q.parameters) (subsymbols_of (syms a.expr)) (alternative_parts q i a j).0 y l) x
      (subst (λ (s : Syms TextSpan). Among (subsymbols_of s) x) (syms_map (with_names (replacement names q.parameters)) a.expr) k)

  pub right_in_type : (q : Rule) → Among (rules_of g.items) q → (t : Ty) → q.declared ≡ Some t → (x : WrittenSymbol) →
      Among (symbols_of_type (resolved_type names q.parameters t)) x → IsRight names after (rule_of q) x
  right_in_type q i t e x k =
      right_type names after (rule_of q) (defines finds g right) t
      (λ y l. flat_nil (own_name_fault names q.parameters) (symbols_of_type t)
      (ap (name_faults_in_declared names q.parameters) (sym e) ∙ (rule_parts q i).0) y l) x k

  -- each rule comes from one, and each of its alternatives

  after_rule : (r : EnabledRule) → Among after.rules r → (q : Rule) × Among (rules_of g.items) q × (rule_of q ≡ r)
  after_rule r i =
      let w = among_map rule_between (rules_of (resolved_grammar g).items) r i in
      let v = among_map (resolved_rule names) (rules_of g.items) w.0
      (subst (λ (rs : List Rule). Among rs w.0) (rules_resolved names g.items) w.1) in
      (v.0, v.1, ap rule_between v.2 ∙ w.2)

  abbrev choice_with : Rule → Alternative → Choice
  choice_with q a = choice_of (a.origin, resolved_alternative names q.parameters a)

  abbrev telling : Alternative → Origin × Alternative
  telling a = (a.origin, a)

  after_choice : (q : Rule) (c : Choice) → Among (rule_of q).choices c →
      (a : Alternative) × Among q.alternatives a × (choice_with q a ≡ c)
  after_choice q c i =
      let w = among_map choice_of (with_origins (map (resolved_alternative names q.parameters) q.alternatives)) c i in
      let v = among_map telling (map (resolved_alternative names q.parameters) q.alternatives) w.0 w.1 in
      let u = among_map (resolved_alternative names q.parameters) q.alternatives v.0 v.1 in
      (u.0, u.1, ap (λ (a : Alternative). choice_of (telling a)) u.2 ∙ ap choice_of v.2 ∙ w.2)

  abbrev HasRightChoices : EnabledRule → Type 0
  HasRightChoices r = (c : Choice) → Among r.choices c → (x : WrittenSymbol) → Among (subsymbols_of (syms c.expr)) x →
      IsResolvedIn after r x

  right_choices : (q : Rule) → Among (rules_of g.items) q → HasRightChoices (rule_of q)
  right_choices q i c j x k =
      let w = after_choice q c j in
      (right_in_alternative q i w.0 w.1 x (subst (λ (t : Choice). Among (subsymbols_of (syms t.expr)) x) (sym w.2) k)).1

  abbrev HasRightType : EnabledRule → Type 0
  HasRightType r = (t : Ty) → r.declared ≡ Some t → (x : WrittenSymbol) → Among (symbols_of_type t) x → IsResolvedIn after r x

  abbrev type_or : Ty → Option Ty → Ty
  type_or t None = t
  type_or t (Some u) = u

  right_declared : (q : Rule) → Among (rules_of g.items) q → HasRightType (rule_of q)
  right_declared q i t e x k = go q.declared refl e
    where
      go : (o : Option Ty) → q.declared ≡ o → option_map (resolved_type names q.parameters) o ≡ Some t →
          IsResolvedIn after (rule_of q) x
      go None f m = cc
      go (Some u) f m =
          (right_in_type q i u f x (subst (λ (v : Ty). Among (symbols_of_type v) x) (sym (ap (type_or t) m)) k)).1

  abbrev HasRightConditions : EnabledRule → Type 0
  HasRightConditions r = (c : Choice) (t : Condition) → Among r.choices c → c.condition ≡ Some t →
      has_text t.parameter r.parameters ≡ true

  right_conditions : (q : Rule) → Among (rules_of g.items) q → HasRightConditions (rule_of q)
  right_conditions q i c t j e =
      let w = after_choice q c j in
      of_test (has_text t.parameter q.parameters)
      (ap (name_fault_of_condition q.parameters) (sym (ap (λ (s : Choice). s.condition) w.2 ∙ e)) ∙ (alternative_parts q i w.0 w.1).1)
    where
      of_test : (b : Bool) → cond b [] (NameFault.unknown t.parameter t.place ∷ []) ≡ [] → b ≡ true
      of_test true f = refl
      of_test false f = cc

  pub right_names_resolve : IsResolved after
  right_names_resolve = record {
    rules = λ r i. let w = after_rule r i in
        subst (λ (s : EnabledRule). IsRule after s.name s) w.2 (stands_once finds g right w.0 w.1);
    parameters = λ r i. let w = after_rule r i in
        subst (λ (s : EnabledRule). AreDifferent s.parameters) w.2 (different_parameters w.0.parameters (λ n t.
        right.no_duplicates n w.0.span (IsDuplicate.of_parameters w.0 n w.1 t)));
    symbols = λ r c x s. let w = after_rule r s.rule in
        subst HasRightChoices w.2 (right_choices w.0 w.1) c s.choice x s.symbol;
    types = λ r x s. let w = after_rule r s.rule in
        subst HasRightType w.2 (right_declared w.0 w.1) s.written s.declared x s.symbol;
    conditions = λ r c t i j e. let w = after_rule r i in
        subst HasRightConditions w.2 (right_conditions w.0 w.1) c t j e;
  }
