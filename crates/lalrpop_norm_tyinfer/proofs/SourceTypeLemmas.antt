-- Types of several symbols and of written types by a table, as relations and as they are found; for equations of rules.
use Rattle.std.specs.Prelude.{Option, Some, None, option_map, map}
use Rattle.std.proofs.Common.{◌≡◌, ℕ, List, [], ◌∷◌, refl, ap, ap₂, sym, ◌∙◌, subst}
use Rattle.lalrpop_grammar_symbols.specs.Symbols.{Text, Closed}
use Rattle.lalrpop_grammar.specs.WrittenGrammar.{Ty, Tys}
use Rattle.lalrpop_grammar_language.specs.Enabled.{EnabledGrammar}
use Rattle.lalrpop_grammar_language.specs.Closing.{Binding, parameter_value}
use Rattle.lalrpop_norm_theory.specs.Premises.{IsExpanded}
use Rattle.lalrpop_norm_theory.specs.Types.{AreTypesOf, GroundType, GroundTypes, HaveTupleType, HaveTypes, IsTypeOf, IsTypeOfName}
use Rattle.lalrpop_norm_tyinfer.specs.GroundViews.{ground_types}
use Rattle.lalrpop_norm_tyinfer.specs.TypesByTable.{RuleTypes, each_ground_type, tuple_of_types, with_ground_type, written_ground_type}
use Rattle.lalrpop_norm_tyinfer.specs.TypesByTable.{written_ground_types}
use Rattle.lalrpop_norm_tyinfer.proofs.ClosedTypeLemmas.{HasGroundType, closed_ground_type, closed_of, flat_scope, names_between}

-- what a mapped option holds
pub mapped-some : {A B : Type 0} (f : A → B) (o : Option A) (y : B) → option_map f o ≡ Some y
    → (x : A) × (o ≡ Some x) × (f x ≡ y)
mapped-some f None y e = absurd (let wrong : ⊥ = cc in wrong)
mapped-some f (Some x) y e = (x, refl, (let same : f x ≡ y = cc in same))

module _ (table : RuleTypes) where
  abbrev type_of : Closed → Option GroundType
  type_of = closed_ground_type table

  types_from : (ys : List Closed) (ts : List GroundType) → each_ground_type (map type_of ys) ≡ Some ts
      → HaveTypes (HasGroundType table) ys (ground_types ts)
  types_from [] ts e =
      let none : [] ≡ ts = cc in subst (λ l. HaveTypes (HasGroundType table) [] (ground_types l)) none tt
  types_from (y ∷ ys) ts e = go (type_of y) (each_ground_type (map type_of ys)) refl refl e (λ us f. types_from ys us f)
    where
      go : (o : Option GroundType) (os : Option (List GroundType)) → type_of y ≡ o → each_ground_type (map type_of ys) ≡ os
          → with_ground_type o os ≡ Some ts
          → ((us : List GroundType) → each_ground_type (map type_of ys) ≡ Some us
          → HaveTypes (HasGroundType table) ys (ground_types us))
          → HaveTypes (HasGroundType table) (y ∷ ys) (ground_types ts)
      go None os f h e ih = absurd (let wrong : ⊥ = cc in wrong)
      go (Some t) None f h e ih = absurd (let wrong : ⊥ = cc in wrong)
      go (Some t) (Some us) f h e ih =
          let all : t ∷ us ≡ ts = cc in
          subst (λ l. HaveTypes (HasGroundType table) (y ∷ ys) (ground_types l)) all (f, ih us h)

  types_to : (ys : List Closed) (us : GroundTypes) → HaveTypes (HasGroundType table) ys us
      → (ts : List GroundType) × (ground_types ts ≡ us) × (each_ground_type (map type_of ys) ≡ Some ts)
  types_to [] GroundTypes.none h = ([], refl, refl)
  types_to [] (GroundTypes.more t us) h = absurd h
  types_to (y ∷ ys) GroundTypes.none h = absurd h
  types_to (y ∷ ys) (GroundTypes.more t us) h =
      let r = types_to ys us h.1 in (t ∷ r.0, ap (GroundTypes.more t) r.1, ap₂ with_ground_type h.0 r.2)

  -- the type of an alternative's closed symbols, from what was found
  pub tuple_from : (ys : List Closed) (t : GroundType) → option_map tuple_of_types (each_ground_type (map type_of ys)) ≡ Some t
      → HaveTupleType (HasGroundType table) ys t
  tuple_from [] t e = let same : t ≡ GroundType.tuple GroundTypes.none = cc in same
  tuple_from (y ∷ []) t e = go (type_of y) refl e
    where
      go : (o : Option GroundType) → type_of y ≡ o → option_map tuple_of_types (with_ground_type o (Some [])) ≡ Some t
          → type_of y ≡ Some t
      go None f e = absurd (let wrong : ⊥ = cc in wrong)
      go (Some u) f e = f ∙ e
  tuple_from (y ∷ z ∷ ys) t e =
      go (type_of y) (type_of z) (each_ground_type (map type_of ys)) refl refl refl e
    where
      go : (o p : Option GroundType) (os : Option (List GroundType)) → type_of y ≡ o → type_of z ≡ p
          → each_ground_type (map type_of ys) ≡ os
          → option_map tuple_of_types (with_ground_type o (with_ground_type p os)) ≡ Some t
          → HaveTupleType (HasGroundType table) (y ∷ z ∷ ys) t
      go None p os f h k e = absurd (let wrong : ⊥ = cc in wrong)
      go (Some a) None os f h k e = absurd (let wrong : ⊥ = cc in wrong)
      go (Some a) (Some b) None f h k e = absurd (let wrong : ⊥ = cc in wrong)
      go (Some a) (Some b) (Some cs) f h k e =
          let same : t ≡ GroundType.tuple (ground_types (a ∷ b ∷ cs)) = cc in
          (ground_types (a ∷ b ∷ cs), same, (f, (h, types_from ys cs k)))

  -- and as it is found
  pub tuple_to : (ys : List Closed) (t : GroundType) → HaveTupleType (HasGroundType table) ys t
      → option_map tuple_of_types (each_ground_type (map type_of ys)) ≡ Some t
  tuple_to [] t h = ap Some (sym h)
  tuple_to (y ∷ []) t h = ap (λ o. option_map tuple_of_types (with_ground_type o (Some []))) h
  tuple_to (y ∷ z ∷ ys) t h = go h.0 h.1 h.2
    where
      go : (us : GroundTypes) → t ≡ GroundType.tuple us → HaveTypes (HasGroundType table) (y ∷ z ∷ ys) us
          → option_map tuple_of_types (each_ground_type (map type_of (y ∷ z ∷ ys))) ≡ Some t
      go GroundTypes.none e k = absurd k
      go (GroundTypes.more a GroundTypes.none) e k = absurd k.1
      go (GroundTypes.more a (GroundTypes.more b us)) e k =
          let r = types_to ys us k.1.1 in
          ap (option_map tuple_of_types) (ap₂ with_ground_type k.0 (ap₂ with_ground_type k.1.0 r.2))
          ∙ ap (λ l. Some (GroundType.tuple (GroundTypes.more a (GroundTypes.more b l)))) r.1 ∙ ap Some (sym e)

module _ (g : EnabledGrammar) (w : IsExpanded g) (table : RuleTypes) (b : Binding) (no_binding : b ≡ []) (o : Text)
    (level_at : ℕ → Option ℕ) (no_level : (i : ℕ) → level_at i ≡ None) where
  mutual
    -- what a written type stands for, from what was found
    pub written_from : (y : Ty) (t : GroundType) → written_ground_type (names_between g) table y ≡ Some t
        → IsTypeOf (HasGroundType table) (flat_scope g b o level_at) y t
    written_from (Ty.tuple ys) t e =
        let m = mapped-some (λ ts. GroundType.tuple (ground_types ts)) (written_ground_types (names_between g) table ys) t e in
        (ground_types m.0, sym m.2, all_from ys m.0 m.1)
    written_from (Ty.nominal path ys) t e =
        let m = mapped-some (λ ts. GroundType.nominal path (ground_types ts)) (written_ground_types (names_between g) table ys) t e in
        (ground_types m.0, sym m.2, all_from ys m.0 m.1)
    written_from (Ty.id n) t e =
        let same : t ≡ GroundType.nominal n GroundTypes.none = cc in
        subst (λ c. IsTypeOfName (HasGroundType table) n (parameter_value c n) t) (sym no_binding) same
    written_from (Ty.of_symbol x) t e = closed_of g w table b no_binding o level_at no_level 0 x ∙ e
    written_from (Ty.ref l m y) t e =
        let k = mapped-some (λ u. GroundType.ref l m u) (written_ground_type (names_between g) table y) t e in
        (k.0, sym k.2, written_from y k.0 k.1)
    written_from (Ty.opaque text) t e = let same : t ≡ GroundType.opaque text = cc in same

    all_from : (ys : Tys) (ts : List GroundType) → written_ground_types (names_between g) table ys ≡ Some ts
        → AreTypesOf (HasGroundType table) (flat_scope g b o level_at) ys (ground_types ts)
    all_from Tys.none ts e =
        let none : [] ≡ ts = cc in
        subst (λ l. AreTypesOf (HasGroundType table) (flat_scope g b o level_at) Tys.none (ground_types l))
        none tt
    all_from (Tys.more y ys) ts e =
        go (written_ground_type (names_between g) table y) (written_ground_types (names_between g) table ys) refl refl e
        (λ t f. written_from y t f) (λ us f. all_from ys us f)
      where
        go : (o' : Option GroundType) (os : Option (List GroundType)) → written_ground_type (names_between g) table y ≡ o'
            → written_ground_types (names_between g) table ys ≡ os → with_ground_type o' os ≡ Some ts
            → ((t : GroundType) → written_ground_type (names_between g) table y ≡ Some t
            → IsTypeOf (HasGroundType table) (flat_scope g b o level_at) y t)
            → ((us : List GroundType) → written_ground_types (names_between g) table ys ≡ Some us
            → AreTypesOf (HasGroundType table) (flat_scope g b o level_at) ys (ground_types us))
            → AreTypesOf (HasGroundType table) (flat_scope g b o level_at) (Tys.more y ys) (ground_types ts)
        go None os f h e one all = absurd (let wrong : ⊥ = cc in wrong)
        go (Some t) None f h e one all = absurd (let wrong : ⊥ = cc in wrong)
        go (Some t) (Some us) f h e one all =
            let same : t ∷ us ≡ ts = cc in
            subst
            (λ l. AreTypesOf (HasGroundType table) (flat_scope g b o level_at) (Tys.more y ys) (ground_types l))
            same (one t f, all us h)

  mutual
    -- and as it is found
    pub written_to : (y : Ty) (t : GroundType)
        → IsTypeOf (HasGroundType table) (flat_scope g b o level_at) y t
        → written_ground_type (names_between g) table y ≡ Some t
    written_to (Ty.tuple ys) t h =
        let r = all_to ys h.0 h.2 in
        ap (option_map (λ ts. GroundType.tuple (ground_types ts))) r.2 ∙ ap Some (ap GroundType.tuple r.1 ∙ sym h.1)
    written_to (Ty.nominal path ys) t h =
        let r = all_to ys h.0 h.2 in
        ap (option_map (λ ts. GroundType.nominal path (ground_types ts))) r.2 ∙ ap Some (ap (GroundType.nominal path) r.1 ∙ sym h.1)
    written_to (Ty.id n) t h =
        let same : t ≡ GroundType.nominal n GroundTypes.none =
        subst (λ c. IsTypeOfName (HasGroundType table) n (parameter_value c n) t) no_binding h in
        ap Some (sym same)
    written_to (Ty.of_symbol x) t h = sym (closed_of g w table b no_binding o level_at no_level 0 x) ∙ h
    written_to (Ty.ref l m y) t h =
        ap (option_map (λ u. GroundType.ref l m u)) (written_to y h.0 h.2) ∙ ap Some (sym h.1)
    written_to (Ty.opaque text) t h = ap Some (sym h)

    all_to : (ys : Tys) (us : GroundTypes)
        → AreTypesOf (HasGroundType table) (flat_scope g b o level_at) ys us
        → (ts : List GroundType) × (ground_types ts ≡ us) × (written_ground_types (names_between g) table ys ≡ Some ts)
    all_to Tys.none GroundTypes.none h = ([], refl, refl)
    all_to Tys.none (GroundTypes.more t us) h = absurd h
    all_to (Tys.more y ys) GroundTypes.none h = absurd h
    all_to (Tys.more y ys) (GroundTypes.more t us) h =
        let r = all_to ys us h.1 in
        (t ∷ r.0, ap (GroundTypes.more t) r.1, ap₂ with_ground_type (written_to y t h.0) r.2)
