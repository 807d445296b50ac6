-- Rules that a full table lacks have no type, and each other rule has one; for the end of the search for types.
use Rattle.std.proofs.Common.{◌≡◌, ◌∙◌, ap, sym, refl, subst, inl, inr, List, [], ◌∷◌, Bool, true, false, cond}
use Rattle.std.specs.Prelude.{IsSomeAnd, Option, Some, None, option_map, is_none, not, ◌&&◌, ◌||◌}
use Rattle.std.specs.List.{find}
use Rattle.std.proofs.lemmas.Bool.{and_parts}
use Rattle.lalrpop_grammar_symbols.specs.Symbols.{Text}
use Rattle.lalrpop_grammar_symbols.specs.declared.names.NonterminalString.{NonterminalString}
use Rattle.lalrpop_grammar.specs.WrittenGrammar.{Grammar, Rule, rules_of}
use Rattle.lalrpop_grammar_language.specs.Among.{Among}
use Rattle.lalrpop_grammar_language.specs.Enabled.{EnabledGrammar}
use Rattle.lalrpop_grammar_repr.specs.Maps.{at_name}
use Rattle.lalrpop_grammar_repr.specs.declared.session.NormFault.{NormFault}
use Rattle.lalrpop_grammar_repr.specs.declared.session.NormFault.TheVariants as faults
use Rattle.lalrpop_grammar.specs.declared.types.type_repr.TypeRepr.{TypeRepr}
use Rattle.lalrpop_norm_theory.specs.Between.{grammar_between}
use Rattle.lalrpop_norm_theory.specs.Premises.{IsExpanded}
use Rattle.lalrpop_norm_theory.specs.Types.{GroundType, IsGrounded}
use Rattle.lalrpop_norm_tyinfer.specs.GroundViews.{type_repr_view}
use Rattle.lalrpop_norm_tyinfer.specs.TypesByTable.{RuleTypes, known_names}
use Rattle.lalrpop_norm_tyinfer.specs.Equations.{AllAgree, type_equations}
use Rattle.lalrpop_norm_tyinfer.specs.TypeFaults.{HasNoType, HasNoTypeFault, HasRuleTypes, IsTypeFault, IsUntypedRule, TypeFault}
use Rattle.lalrpop_norm_tyinfer.specs.TypeFaults.{IsToldTypeFault, WhereExpanded, is_part_rule, nonterminal_of, rule_symbol}
use Rattle.lalrpop_norm_tyinfer.specs.Searching.{TellsUntyped, is_untyped_rule}
use Rattle.lalrpop_norm_tyinfer.specs.ProgramViews.{IsRightTable, rule_types}
use Rattle.lalrpop_norm_tyinfer.proofs.EquationLemmas.{all_found}

-- what a search finds is one of the list, and passes
find_some : {A : Type 0} (p : A → Bool) (xs : List A) (x : A) → find p xs ≡ Some x → Among xs x × (p x ≡ true)
find_some p [] x e = absurd (let wrong : ⊥ = cc in wrong)
find_some p (y ∷ ys) x e = go (p y) refl e (find_some p ys x)
  where
    go : (b : Bool) → p y ≡ b → cond b (Some y) (find p ys) ≡ Some x → (find p ys ≡ Some x → Among ys x × (p x ≡ true))
        → Among (y ∷ ys) x × (p x ≡ true)
    go true f e ih = let same : y ≡ x = cc in (inl same, sym (ap p same) ∙ f)
    go false f e ih = let r = ih e in (inr r.0, r.1)

-- and where it finds nothing, nothing passes
find_none : {A : Type 0} (p : A → Bool) (xs : List A) → find p xs ≡ None → (x : A) → Among xs x → p x ≡ false
find_none p [] e x i = absurd i
find_none {A} p (y ∷ ys) e x i = go (p y) refl e i (find_none p ys)
  where
    go : (b : Bool) → p y ≡ b → cond b (Some y) (find p ys) ≡ None → Among (y ∷ ys) x
        → (find p ys ≡ None → (z : A) → Among ys z → p z ≡ false) → p x ≡ false
    go true f e i ih = absurd (let wrong : ⊥ = cc in wrong)
    go false f e (inl same) ih = sym (ap p same) ∙ f
    go false f e (inr i) ih = ih e x i

none_is : {A : Type 0} (o : Option A) → is_none o ≡ true → o ≡ None
none_is None e = refl
none_is (Some x) e = absurd (let wrong : ⊥ = cc in wrong)

module _ (g : Grammar) (table : RuleTypes) (right : IsRightTable g table) (all : AllAgree (known_names g) table (type_equations g)) where
  abbrev rs : List Rule
  rs = rules_of g.items

  -- a type that a rule has is the table's
  pub in_table : (finds : Text → Text → Option Bool) → IsExpanded (grammar_between finds g) → (n : Text) (t : GroundType)
      → IsGrounded (grammar_between finds g) (rule_symbol n) t → table n ≡ Some t
  in_table finds w n t h = all_found finds g w table all h.0 (rule_symbol n) t h.1

  no_type : (finds : Text → Text → Option Bool) → IsExpanded (grammar_between finds g) → (n : Text) → table n ≡ None
      → HasNoType (grammar_between finds g) n
  no_type finds w n e t h = let there : table n ≡ Some t = in_table finds w n t h in absurd (let wrong : ⊥ = cc in wrong)

  told : (r : Rule) (fault : NormFault) → Among rs r
      → WhereExpanded g (λ e. IsUntypedRule e rs r) → TellsUntyped r fault → IsTypeFault g fault
  told r (faults.Norm error) i untyped tells = λ finds w.
      subst (λ k. IsToldTypeFault (grammar_between finds g) rs k) (sym tells) (r, i, refl, refl, untyped finds w)
  told r faults.Memory i untyped tells = tt
  told r faults.ConditionLimit i untyped tells = absurd tells

  -- the first that is none of a repeat or a group
  pub first_told : (r : Rule) (fault : NormFault) → find (is_untyped_rule table false) rs ≡ Some r → TellsUntyped r fault
      → IsTypeFault g fault
  first_told r fault e tells =
      let f = find_some (is_untyped_rule table false) rs r e in
      let p = and_parts (is_none (table r.name)) (false || not (is_part_rule r)) f.1 in
      told r fault f.0
      (λ finds w. record {
        no_type = no_type finds w r.name (none_is (table r.name) p.0);
        no_part = λ h s i n. absurd (apart (is_part_rule r) p.1 h);
      })
      tells
    where
      apart : (b : Bool) → (false || not b) ≡ true → b ≡ true → ⊥
      apart true e h = cc
      apart false e h = cc

  part_then : (o : Option GroundType) (b : Bool) → (is_none o && (false || not b)) ≡ false → o ≡ None → b ≡ true
  part_then None true e h = refl
  part_then None false e h = absurd (let wrong : ⊥ = cc in wrong)
  part_then (Some t) b e h = absurd (let wrong : ⊥ = cc in wrong)

  -- any other, where there is none such
  pub part_told : (r : Rule) (fault : NormFault) → find (is_untyped_rule table false) rs ≡ None
      → find (is_untyped_rule table true) rs ≡ Some r → TellsUntyped r fault → IsTypeFault g fault
  part_told r fault none e tells =
      let f = find_some (is_untyped_rule table true) rs r e in
      let p = and_parts (is_none (table r.name)) (true || not (is_part_rule r)) f.1 in
      told r fault f.0
      (λ finds w. record {
        no_type = no_type finds w r.name (none_is (table r.name) p.0);
        no_part = λ h s i n.
            part_then (table s.name) (is_part_rule s) (find_none (is_untyped_rule table false) rs none s i)
            (lacks finds w s.name n (table s.name) refl);
      })
      tells
    where
      lacks : (finds : Text → Text → Option Bool) → IsExpanded (grammar_between finds g) → (n : Text)
          → HasNoType (grammar_between finds g) n → (o : Option GroundType) → table n ≡ o → table n ≡ None
      lacks finds w n h None e = e
      lacks finds w n h (Some t) e = absurd (h t (right.grounded finds w n t e))

typed_then : (o : Option GroundType) (b : Bool) → (is_none o && (true || b)) ≡ false → is_none o ≡ false
typed_then None b e = absurd (let wrong : ⊥ = cc in wrong)
typed_then (Some t) b e = refl

-- where the table lacks no rule
module _ (g : Grammar) (es : List (NonterminalString × TypeRepr)) (right : IsRightTable g (rule_types es))
    (all : AllAgree (known_names g) (rule_types es) (type_equations g))
    (full : find (is_untyped_rule (rule_types es) true) (rules_of g.items) ≡ None) where
  some_type : (finds : Text → Text → Option Bool) → IsExpanded (grammar_between finds g) → (n : Text)
      → is_none (rule_types es n) ≡ false
      → IsSomeAnd (at_name (nonterminal_of n) es) (λ t. IsGrounded (grammar_between finds g) (rule_symbol n) (type_repr_view t))
  some_type finds w n e = go (at_name (nonterminal_of n) es) refl
    where
      go : (o : Option TypeRepr) → at_name (nonterminal_of n) es ≡ o
          → IsSomeAnd o (λ t. IsGrounded (grammar_between finds g) (rule_symbol n) (type_repr_view t))
      go None f = let is : is_none (rule_types es n) ≡ true = ap (λ o. is_none (option_map type_repr_view o)) f in
          absurd (let wrong : ⊥ = cc in wrong)
      go (Some t) f = right.grounded finds w n (type_repr_view t) (ap (option_map type_repr_view) f)

  has_entry : (r : Rule) → Among (rules_of g.items) r → is_none (rule_types es r.name) ≡ false
  has_entry r i =
      typed_then (rule_types es r.name) (not (is_part_rule r))
      (find_none (is_untyped_rule (rule_types es) true) (rules_of g.items) full r i)

  -- each rule has its one type
  pub rules_typed : WhereExpanded g (λ e. HasRuleTypes e (rules_of g.items) es)
  rules_typed finds w = record {
    typed = λ r i. some_type finds w r.name (has_entry r i);
    right = λ n t e. right.grounded finds w n (type_repr_view t) (ap (option_map type_repr_view) e);
    once = λ r t u i h k.
        let one = in_table g (rule_types es) right all finds w r.name t h in
        let two = in_table g (rule_types es) right all finds w r.name u k in
        (let same : t ≡ u = cc in same);
  }

  some_then : (h : EnabledGrammar) (n : Text) (o : Option TypeRepr) → HasNoType h n
      → IsSomeAnd o (λ t. IsGrounded h (rule_symbol n) (type_repr_view t)) → ⊥
  some_then h n None no_one k = absurd k
  some_then h n (Some t) no_one k = no_one (type_repr_view t) k

  -- and no fault stands
  pub none_stands : WhereExpanded g (λ e. HasNoTypeFault e (rules_of g.items))
  none_stands finds w (TypeFault.disagree p) h =
      let two = h.3 in
      let one_is = in_table g (rule_types es) right all finds w h.0.name two.first two.first_is in
      let two_is = in_table g (rule_types es) right all finds w h.0.name two.second two.second_is in
      two.differ (let same : two.first ≡ two.second = cc in same)
  none_stands finds w (TypeFault.untyped n p) h =
      some_then (grammar_between finds g) h.0.name (at_name (nonterminal_of h.0.name) es) h.4.no_type
      (some_type finds w h.0.name (has_entry h.0 h.1))
  none_stands finds w TypeFault.other h = absurd h
