-- A table of rules' types with one type more; for the search for types.
use Rattle.std.proofs.Common.{◌≡◌, ◌∙◌, ◌⊎◌, ◌≤◌, ◌+◌, ap, sym, refl, subst, inl, inr, List, []}
use Rattle.std.proofs.Common.{◌∷◌, arith}
use Rattle.std.proofs.Common.{Bool, true, false, cond, Ordering}
use Rattle.std.specs.declared.cmp.Ordering.TheVariants.{Less, Equal, Greater}
use Rattle.std.specs.Bool.{Decides}
use Rattle.std.specs.BTreeMap.{insert_entry, is_at}
use Rattle.std.specs.Map.{lookup}
use Rattle.std.specs.Ordering.{is_eq, match_ordering}
use Rattle.std.specs.Prelude.{Option, Some, None, option_map}
use Rattle.lalrpop_grammar_symbols.specs.Symbols.{Text}
use Rattle.lalrpop_grammar_symbols.specs.contracts.names.NonterminalStringOrd.TheImpl as names
use Rattle.lalrpop_grammar_symbols.specs.declared.names.NonterminalString.{NonterminalString}
use Rattle.lalrpop_grammar.specs.WrittenGrammar.{Grammar}
use Rattle.lalrpop_grammar_language.specs.Among.{Among}
use Rattle.lalrpop_grammar_repr.specs.Maps.{at_name, with_name}
use Rattle.lalrpop_grammar.specs.declared.types.type_repr.TypeRepr.{TypeRepr}
use Rattle.lalrpop_norm_theory.specs.Between.{grammar_between}
use Rattle.lalrpop_norm_theory.specs.Premises.{IsExpanded}
use Rattle.lalrpop_norm_theory.specs.Types.{GroundType, IsGrounded}
use Rattle.lalrpop_norm_tyinfer.specs.GroundViews.{type_repr_view}
use Rattle.lalrpop_norm_tyinfer.specs.TypesByTable.{RuleTypes, known_names}
use Rattle.lalrpop_norm_tyinfer.specs.Equations.{GivesType, TypeEquation, TypeSource, one_untyped, source_ground_type, type_equations}
use Rattle.lalrpop_norm_tyinfer.specs.Equations.{untyped_equations}
use Rattle.lalrpop_norm_tyinfer.specs.TypeFaults.{nonterminal_of, rule_symbol}
use Rattle.lalrpop_norm_tyinfer.specs.ProgramViews.{IsRightTable, rule_types}
use Rattle.lalrpop_norm_tyinfer.proofs.EquationLemmas.{equation_grounded}
use Rattle.lalrpop_norm_tyinfer.proofs.GrownTableLemmas.{Stays, source_stays}
use Rattle.lalrpop_grammar_symbols.proofs.NameLemmas.{same_name}

module _ {K X : Type 0} (R : K → K → Ordering) (decides : (a b : K) → Decides (is_eq (R a b)) (a ≡ b)) where
  over_equal : (b : Bool) (v w : X) (rest : Option X) → cond b (Some v) rest ≡ cond b (Some v) (cond b (Some w) rest)
  over_equal true v w rest = refl
  over_equal false v w rest = refl

  past_other : (c d : Bool) (v w : X) (rest : Option X) → (c ≡ true → d ≡ true → ⊥)
      → cond c (Some w) (cond d (Some v) rest) ≡ cond d (Some v) (cond c (Some w) rest)
  past_other true true v w rest apart = absurd (apart refl refl)
  past_other true false v w rest apart = refl
  past_other false true v w rest apart = refl
  past_other false false v w rest apart = refl

  -- what stands at a key where a value was put in
  pub lookup-insert_entry : (q k : K) (v : X) (es : List (K × X))
      → lookup (is_at (R q)) (insert_entry R es k v) ≡ cond (is_eq (R q k)) (Some v) (lookup (is_at (R q)) es)
  lookup-insert_entry q k v [] = refl
  lookup-insert_entry q k v (e ∷ es) = go (R k e.0) refl (lookup-insert_entry q k v es)
    where
      go : (o : Ordering) → R k e.0 ≡ o
          → lookup (is_at (R q)) (insert_entry R es k v) ≡ cond (is_eq (R q k)) (Some v) (lookup (is_at (R q)) es)
          → lookup (is_at (R q)) (match_ordering o ((k, v) ∷ e ∷ es) ((e.0, v) ∷ es) (e ∷ insert_entry R es k v))
          ≡ cond (is_eq (R q k)) (Some v) (cond (is_eq (R q e.0)) (Some e.1) (lookup (is_at (R q)) es))
      go Less h ih = refl
      go Equal h ih =
          let same : k ≡ e.0 = (decides k e.0).0 (ap is_eq h) in
          over_equal (is_eq (R q e.0)) v e.1 (lookup (is_at (R q)) es)
          ∙ ap (λ (x : K). cond (is_eq (R q x)) (Some v) (cond (is_eq (R q e.0)) (Some e.1) (lookup (is_at (R q)) es))) (sym same)
      go Greater h ih =
          ap (λ (o : Option X). cond (is_eq (R q e.0)) (Some e.1) o) ih
          ∙ past_other (is_eq (R q e.0)) (is_eq (R q k)) v e.1 (lookup (is_at (R q)) es) apart
        where
          apart : is_eq (R q e.0) ≡ true → is_eq (R q k) ≡ true → ⊥
          apart a b =
              let same : k ≡ e.0 = sym ((decides q k).0 b) ∙ (decides q e.0).0 a in
              let equal : is_eq (R k e.0) ≡ true = (decides k e.0).1 same in
              let greater : is_eq (R k e.0) ≡ false = ap is_eq h in
              cc

-- what stood at the name stands there, or the name has the new type
abbrev IsPut : List (NonterminalString × TypeRepr) → NonterminalString → TypeRepr → Text → Type 0
IsPut es n ty m =
    (rule_types (with_name es n ty) m ≡ rule_types es m)
    ⊎ ((m ≡ n.0) × (rule_types (with_name es n ty) m ≡ Some (type_repr_view ty)))

-- at each name stands what stood there, or the new type
pub type_put : (es : List (NonterminalString × TypeRepr)) (n : NonterminalString) (ty : TypeRepr) (m : Text)
    → IsPut es n ty m
type_put es n ty m = go (is_eq ((names.ghosts).cmp (nonterminal_of m) n)) refl
  where
    put : rule_types (with_name es n ty) m
        ≡ option_map type_repr_view (cond (is_eq ((names.ghosts).cmp (nonterminal_of m) n)) (Some ty) (at_name (nonterminal_of m) es))
    put = ap (option_map type_repr_view) (lookup-insert_entry (names.ghosts).cmp same_name (nonterminal_of m) n ty es)

    go : (b : Bool) → is_eq ((names.ghosts).cmp (nonterminal_of m) n) ≡ b
        → IsPut es n ty m
    go true e = inr (
      ap (λ (x : NonterminalString). x.0) ((same_name (nonterminal_of m) n).0 e),
      put ∙ ap (λ (b : Bool). option_map type_repr_view (cond b (Some ty) (at_name (nonterminal_of m) es))) e,
    )
    go false e = inl (put ∙ ap (λ (b : Bool). option_map type_repr_view (cond b (Some ty) (at_name (nonterminal_of m) es))) e)

put_there : (es : List (NonterminalString × TypeRepr)) (n : NonterminalString) (ty : TypeRepr)
    → rule_types (with_name es n ty) n.0 ≡ Some (type_repr_view ty)
put_there es n ty =
    ap (option_map type_repr_view) (lookup-insert_entry (names.ghosts).cmp same_name n n ty es)
    ∙ ap (λ (b : Bool). option_map type_repr_view (cond b (Some ty) (at_name n es))) ((same_name n n).1 refl)

module _ (old new : RuleTypes) (to : (m : Text) → new m ≡ None → old m ≡ None) where
  at_most : (es : List TypeEquation) → untyped_equations new es ≤ untyped_equations old es
  at_most [] = omega arith
  at_most (e ∷ es) = go (new e.rule.name) (old e.rule.name) refl refl (at_most es)
    where
      go : (o p : Option GroundType) → new e.rule.name ≡ o → old e.rule.name ≡ p
          → untyped_equations new es ≤ untyped_equations old es
          → one_untyped o + untyped_equations new es ≤ one_untyped p + untyped_equations old es
      go None None f h ih = omega (arith, ih)
      go None (Some t) f h ih = let was : old e.rule.name ≡ None = to e.rule.name f in absurd (let wrong : ⊥ = cc in wrong)
      go (Some t) None f h ih = omega (arith, ih)
      go (Some t) (Some u) f h ih = omega (arith, ih)

  -- where one of the equations is of a rule that has a type now, fewer are left
  pub one_fewer : (es : List TypeEquation) (e : TypeEquation) (t : GroundType) → Among es e → new e.rule.name ≡ Some t
      → old e.rule.name ≡ None → untyped_equations new es + 1 ≤ untyped_equations old es
  one_fewer [] e t i gone was = absurd i
  one_fewer (d ∷ es) e t (inl same) gone was =
      let rest = at_most es in
      let now : new d.rule.name ≡ Some t = ap (λ (x : TypeEquation). new x.rule.name) same ∙ gone in
      let before : old d.rule.name ≡ None = ap (λ (x : TypeEquation). old x.rule.name) same ∙ was in
      subst (λ o. one_untyped o + untyped_equations new es + 1 ≤ one_untyped (old d.rule.name) + untyped_equations old es) (sym now)
      (subst (λ o. 0 + untyped_equations new es + 1 ≤ one_untyped o + untyped_equations old es) (sym before) (omega (arith, rest)))
  one_fewer (d ∷ es) e t (inr i) gone was =
      go (new d.rule.name) (old d.rule.name) refl refl (one_fewer es e t i gone was)
    where
      go : (o p : Option GroundType) → new d.rule.name ≡ o → old d.rule.name ≡ p
          → untyped_equations new es + 1 ≤ untyped_equations old es
          → one_untyped o + untyped_equations new es + 1 ≤ one_untyped p + untyped_equations old es
      go None None f h ih = omega (arith, ih)
      go None (Some t) f h ih = let was : old d.rule.name ≡ None = to d.rule.name f in absurd (let wrong : ⊥ = cc in wrong)
      go (Some t) None f h ih = omega (arith, ih)
      go (Some t) (Some u) f h ih = omega (arith, ih)

-- the type that an equation gives is put into the table
module _ (g : Grammar) (e : TypeEquation) (i : Among (type_equations g) e) (es : List (NonterminalString × TypeRepr))
    (n : NonterminalString) (ty : TypeRepr) (named : n.0 ≡ e.rule.name) where
  pub right_put : IsRightTable g (rule_types es) → GivesType (known_names g) (rule_types es) e (type_repr_view ty)
      → IsRightTable g (rule_types (with_name es n ty))
  right_put right gives = record {
    grounded = λ finds w m t f. grounded_put finds w m t f (type_put es n ty m);
    given = λ m t f. given_put m t f (type_put es n ty m);
  }
    where
      grounded_put : (finds : Text → Text → Option Bool) → IsExpanded (grammar_between finds g) → (m : Text) (t : GroundType)
          → rule_types (with_name es n ty) m ≡ Some t → IsPut es n ty m → IsGrounded (grammar_between finds g) (rule_symbol m) t
      grounded_put finds w m t f (inl same) = right.grounded finds w m t (sym same ∙ f)
      grounded_put finds w m t f (inr new) =
          let is : type_repr_view ty ≡ t = cc in
          subst (λ u. IsGrounded (grammar_between finds g) (rule_symbol m) u) is
          (subst (λ k. IsGrounded (grammar_between finds g) (rule_symbol k) (type_repr_view ty)) (sym (new.0 ∙ named))
          (equation_grounded finds g w (rule_types es) (right.grounded finds w) e i (type_repr_view ty) gives.given))

      -- what stood there stands there: the name had none
      stays : (m : Text) → Stays (rule_types es m) (rule_types (with_name es n ty) m)
      stays m t f = go (type_put es n ty m)
        where
          go : IsPut es n ty m → rule_types (with_name es n ty) m ≡ Some t
          go (inl same) = same ∙ f
          go (inr new) =
              let none : rule_types es m ≡ None = ap (rule_types es) (new.0 ∙ named) ∙ gives.untyped in
              absurd (let wrong : ⊥ = cc in wrong)

      still : (s : TypeSource) (t : GroundType) → source_ground_type (known_names g) (rule_types es) s ≡ Some t
          → source_ground_type (known_names g) (rule_types (with_name es n ty)) s ≡ Some t
      still s t f = source_stays (known_names g) (rule_types es) (rule_types (with_name es n ty)) stays s t f

      given_put : (m : Text) (t : GroundType) → rule_types (with_name es n ty) m ≡ Some t → IsPut es n ty m
          → (d : TypeEquation) × Among (type_equations g) d × (d.rule.name ≡ m)
          × (source_ground_type (known_names g) (rule_types (with_name es n ty)) d.source ≡ Some t)
      given_put m t f (inl same) =
          let u = right.given m t (sym same ∙ f) in
          (u.0, u.1, u.2, still u.0.source t u.3)
      given_put m t f (inr new) =
          let is : type_repr_view ty ≡ t = cc in
          (e, i, sym (new.0 ∙ named), still e.source (type_repr_view ty) gives.given ∙ ap Some is)

  pub fewer_left : GivesType (known_names g) (rule_types es) e (type_repr_view ty)
      → untyped_equations (rule_types (with_name es n ty)) (type_equations g) + 1 ≤ untyped_equations (rule_types es) (type_equations g)
  fewer_left gives =
      one_fewer (rule_types es) (rule_types (with_name es n ty)) (λ m f. still m f (type_put es n ty m)) (type_equations g) e
      (type_repr_view ty) i (subst (λ m. rule_types (with_name es n ty) m ≡ Some (type_repr_view ty)) named (put_there es n ty))
      gives.untyped
    where
      still : (m : Text) → rule_types (with_name es n ty) m ≡ None
          → IsPut es n ty m
          → rule_types es m ≡ None
      still m f (inl same) = sym same ∙ f
      still m f (inr new) = let there = new.1 in absurd (let wrong : ⊥ = cc in wrong)
