-- Derived rules added one after another: for the derived rules of a rule, and of all.
use Rattle.std.proofs.Common.{◌≡◌, ◌∙◌, ◌⊎◌, ℕ, zero, suc, ◌+◌, ◌<◌, ◌≤◌, List, [], ◌∷◌}
use Rattle.std.proofs.Common.{◌++◌, length, map, take, drop, get_or, Contains}
use Rattle.std.specs.Prelude.{slice_index_or}
use Rattle.std.proofs.Math.Seq.{append_snoc}
use Rattle.std.proofs.lemmas.List.{take_more}
use Rattle.std.proofs.lemmas.List.Elements.{Contains-append_cases}
use Rattle.std.proofs.Common.{refl, sym, ap, subst, inl, inr, ⊎_elim, arith, length-append, Some, slice_get}
use Rattle.std.proofs.lemmas.Bool.{cases_lt}
use Rattle.std.proofs.lemmas.Option.{slice_get_within}
use Rattle.lalrpop_lr1_theory.proofs.ListLemmas.{contains_here, contains_later, contains_split, get_front, get_split, get_last}
use Rattle.lalrpop_lr1_theory.proofs.StepLemmas.{some_same}
use Rattle.lalrpop_lr1_least_trees.specs.NumberedTrees.{NumberRule, rule_views}
use Rattle.lalrpop_lr1_least_trees.proofs.RuleLemmas.{views_long}
use Rattle.lalrpop_lr1_least_trees.specs.declared.begin_trees.derived.Derived.{Derived}
use Rattle.lalrpop_lr1_least_trees.specs.declared.begin_trees.derived.DerivedOrigin.{DerivedOrigin}
use Rattle.lalrpop_lr1_least_trees.specs.DerivedRules.{AddsDerived, AreDerived, AreNames, HasDerived, HaveOrigins, IsBeginAt}
use Rattle.lalrpop_lr1_least_trees.specs.DerivedRules.{IsBeginBelow, IsBeginOf, IsDerived, IsEmptyOf, IsDerivedPushed, IsWantedAt}
use Rattle.lalrpop_lr1_least_trees.specs.DerivedRules.{IsWholeOf, MayBegin}
use Rattle.lalrpop_lr1_least_trees.specs.DerivedRules.{begin_side, begin_symbol, empty_symbol, whole_symbol}

only_first : {X : Type 0} (x y : X) (j : ℕ) → slice_get (x ∷ []) j ≡ Some y → x ≡ y
only_first x y zero e = some_same x y e
only_first x y (suc j) e = let w : ⊥ = cc in absurd w

-- what stands at a place is among the first, where these are more
taken_there : (xs : List ℕ) (i n : ℕ) → i < length xs → i < n → Contains (take n xs) (get_or xs i 0)
taken_there [] i n h l = absurd (omega arith)
taken_there (x ∷ xs) i zero h l = absurd (omega arith)
taken_there (x ∷ xs) zero (suc n) h l = contains_here x (take n xs)
taken_there (x ∷ xs) (suc i) (suc n) h l = contains_later x (get_or xs i 0) (take n xs) (taken_there xs i n (omega arith) (omega arith))

-- one name more in front
pub names_more : (names : ℕ) (xs : List ℕ) (i : ℕ) → i < length xs → AreNames names (take i xs) → get_or xs i 0 < names →
    AreNames names (take (i + 1) xs)
names_more names xs i h are own s c =
    ⊎_elim (are s) (λ d. subst (λ y. y < names) (⊎_elim (λ e. e) (λ k. absurd (omega (arith, k.1)))
    (contains_split (get_or xs i 0) s [] d)) own)
    (Contains-append_cases (take i xs) (get_or xs i 0 ∷ []) s (subst (λ l. Contains l s) (take_more xs i 0 h) c))

-- nothing was added
pub adds_none : (r : ℕ) (Told : ℕ → NumberRule → Type 0) (old : Derived) →
    ((place : ℕ) (d : NumberRule) → Told place d → ⊥) →
    AddsDerived r Told old old
adds_none r Told old none = record {
  origins = λ h. h;
  sound = λ h k d o s. inl s;
  kept = λ q place d h. h;
  all = λ place d t. absurd (none place d t);
}

-- one rule was pushed
pub adds_one : (r : ℕ) (Told : ℕ → NumberRule → Type 0) (rule : NumberRule) (origin : DerivedOrigin) (old new : Derived) → HaveOrigins
    old →
    IsDerivedPushed rule origin old new → origin.rule ≡ r → Told origin.place rule →
    ((place : ℕ) (d : NumberRule) → Told place d → (origin.place ≡ place) × (rule ≡ d)) → AddsDerived r Told old new
adds_one r Told rule origin old new have pushed rule_is told only = record {
  origins = λ h. long;
  sound = λ h k d o s.
      ⊎_elim
      (λ a. ⊎_elim (λ b. inl (record { at_rule = a; at_origin = b }))
      (λ b. absurd (omega (arith, b.1, have, views_long old.rules.items, slice_get_within (rule_views old.rules.items) k d a)))
      (get_split old.origins.items (origin ∷ []) k o (ap (λ l. slice_get l k) (sym pushed.origins) ∙ s.at_origin)))
      (λ a. ⊎_elim
      (λ b. absurd (omega (arith, a.1, have, views_long old.rules.items, slice_get_within old.origins.items k o b)))
      (λ b.
      let same : rule ≡ d = only_first rule d a.0 a.2 in
      let here : origin ≡ o = only_first origin o b.0 b.2 in
      inr (
        ap (λ (x : DerivedOrigin). x.rule) (sym here) ∙ rule_is,
        subst (λ (x : DerivedOrigin). Told x.place d) here (subst (Told origin.place) same told),
      ))
      (get_split old.origins.items (origin ∷ []) k o (ap (λ l. slice_get l k) (sym pushed.origins) ∙ s.at_origin)))
      (get_split (rule_views old.rules.items) (rule ∷ []) k d (ap (λ l. slice_get l k) (sym pushed.rules) ∙ s.at_rule));
  kept = λ q place d h. record {
    number = h.number;
    origin = h.origin;
    stands = record {
      at_rule = ap (λ l. slice_get l h.number) pushed.rules
          ∙ get_front (rule_views old.rules.items) (rule ∷ []) h.number d h.stands.at_rule;
      at_origin = ap (λ l. slice_get l h.number) pushed.origins
          ∙ get_front old.origins.items (origin ∷ []) h.number h.origin h.stands.at_origin;
    };
    rule_is = h.rule_is;
    place_is = h.place_is;
  };
  all = λ place d t.
      let same = only place d t in
      record {
        number = length old.origins.items;
        origin = origin;
        stands = record {
          at_rule = ap (λ l. slice_get l (length old.origins.items)) pushed.rules
              ∙ ap (slice_get (rule_views old.rules.items ++ rule ∷ [])) (sym have ∙ sym (views_long old.rules.items))
              ∙ get_last (rule_views old.rules.items) rule ∙ ap Some same.1;
          at_origin = ap (λ l. slice_get l (length old.origins.items)) pushed.origins ∙ get_last old.origins.items origin;
        };
        rule_is = rule_is;
        place_is = same.0;
      };
}
  where
    long : HaveOrigins new
    long = omega (
      arith,
      have,
      ap length pushed.rules,
      ap length pushed.origins,
      length-append (rule_views old.rules.items) (rule ∷ []),
      length-append old.origins.items (origin ∷ []),
      views_long old.rules.items,
      views_long new.rules.items,
    )

-- some were added, then others
pub adds_both : (r : ℕ) (One Other Told : ℕ → NumberRule → Type 0) (old mid new : Derived) → AddsDerived r One old mid →
    AddsDerived r Other mid new → ((place : ℕ) (d : NumberRule) → Told place d → One place d ⊎ Other place d) →
    ((place : ℕ) (d : NumberRule) → One place d → Told place d) → ((place : ℕ) (d : NumberRule) → Other place d → Told place
    d) →
    AddsDerived r Told old new
adds_both r One Other Told old mid new a b parts one other = record {
  origins = λ h. b.origins (a.origins h);
  sound = λ h k d o s.
      ⊎_elim (λ t. ⊎_elim (λ u. inl u) (λ u. inr (u.0, one o.place d u.1)) (a.sound h k d o t))
      (λ t. inr (t.0, other o.place d t.1)) (b.sound (a.origins h) k d o s);
  kept = λ q place d h. b.kept q place d (a.kept q place d h);
  all = λ place d t. ⊎_elim (λ u. b.kept r place d (a.all place d u)) (λ u. b.all place d u) (parts place d t);
}

pub adds_same : (r : ℕ) (One Told : ℕ → NumberRule → Type 0) (old new : Derived) → AddsDerived r One old new →
    ((place : ℕ) (d : NumberRule) → Told place d → One place d) → ((place : ℕ) (d : NumberRule) → One place d → Told place
    d) →
    AddsDerived r Told old new
adds_same r One Told old new a forth back = record {
  origins = a.origins;
  sound = λ h k d o s. ⊎_elim (λ u. inl u) (λ u. inr (u.0, back o.place d u.1)) (a.sound h k d o s);
  kept = a.kept;
  all = λ place d t. a.all place d (forth place d t);
}

module _ (names wanted : ℕ) (rules : List NumberRule) where
  -- the rules of one more
  pub derived_more : (count : ℕ) (rule : NumberRule) (old new : Derived) → slice_get rules count ≡ Some rule →
      AreDerived names wanted rules count old → AddsDerived count (IsDerived names wanted rule) old new →
      AreDerived names wanted rules (count + 1) new
  derived_more count rule old new at are adds = record {
    origins = adds.origins are.origins;
    sound = λ k d o s.
        ⊎_elim (are.sound k d o) (λ t. (rule, ap (slice_get rules) t.0 ∙ at, t.1)) (adds.sound are.origins k d o s);
    all = λ r place own d h there t. all r place own d h there t (cases_lt r count);
  }
    where
      all : (r place : ℕ) (own d : NumberRule) → r < count + 1 → slice_get rules r ≡ Some own → IsDerived names wanted own place
          d →
          (r < count) ⊎ (count ≤ r) → HasDerived new r place d
      all r place own d h there t (inl l) = adds.kept r place d (are.all r place own d l there t)
      all r place own d h there t (inr l) =
          let e : r ≡ count = omega arith in
          let same = some_same own rule (sym there ∙ ap (slice_get rules) e ∙ at) in
          subst (λ q. HasDerived new q place d) (sym e)
          (adds.all place d (subst (λ (x : NumberRule). IsDerived names wanted x place d) same t))

-- one rule that is told exactly
pub adds_exact : (r place : ℕ) (x rule : NumberRule) (origin : DerivedOrigin) (old new : Derived) → HaveOrigins old →
    IsDerivedPushed rule origin old new → origin.rule ≡ r → origin.place ≡ place → rule ≡ x →
    AddsDerived r (λ p d. (p ≡ place) × (d ≡ x)) old new
adds_exact r place x rule origin old new have pushed rule_is place_is same =
    adds_one r (λ p d. (p ≡ place) × (d ≡ x)) rule origin old new have pushed rule_is (place_is, same)
    (λ p d t. (place_is ∙ sym t.0, same ∙ sym t.1))

-- a rule for trees without leaves, or none
pub adds_empty : (names r : ℕ) (rule : NumberRule) (old new : Derived) → AreNames names rule.right →
    AddsDerived r (λ p d. (p ≡ 0) × (d ≡ record {
      left = empty_symbol names rule.left;
      right = map (empty_symbol names) rule.right;
    })) old
    new → AddsDerived r (IsEmptyOf names rule) old new
adds_empty names r rule old new are adds =
    adds_same r (λ p d. (p ≡ 0) × (d ≡ record { left = empty_symbol names rule.left; right = map (empty_symbol names) rule.right }))
    (IsEmptyOf names rule) old new adds (λ p d t. (t.1, t.2)) (λ p d t. (are, t.0, t.1))

-- all rules of one
pub adds_all : (names wanted r : ℕ) (rule : NumberRule) (old one two new : Derived) → AddsDerived r (IsWholeOf names rule) old one →
    AddsDerived r (IsEmptyOf names rule) one two → AddsDerived r (IsBeginOf names wanted rule) two new →
    AddsDerived r (IsDerived names wanted rule) old new
adds_all names wanted r rule old one two new a b c =
    adds_both r (IsWholeOf names rule) (λ p d. IsEmptyOf names rule p d ⊎ IsBeginOf names wanted rule p d)
    (IsDerived names wanted rule) old
    one new a
    (adds_both r (IsEmptyOf names rule) (IsBeginOf names wanted rule) (λ p d. IsEmptyOf names rule p d ⊎ IsBeginOf names wanted rule p d)
    one two new b c (λ p d t. t) (λ p d t. inl t) (λ p d t. inr t))
    (λ p d t. t) (λ p d t. inl t) (λ p d t. inr t)

-- the side by which trees begin at a place, from its parts
pub side_made : (names place b : ℕ) (xs one two three : List ℕ) → one ≡ map (empty_symbol names) (take place xs) → two ≡ one
    ++ b ∷ [] →
    b ≡ begin_symbol names (slice_index_or xs place 0) → three ≡ two ++ map (whole_symbol names) (drop (place + 1) xs) →
    three ≡ begin_side names xs place
side_made names place b xs one two three e f g h =
    h ∙ ap (λ l. l ++ map (whole_symbol names) (drop (place + 1) xs)) f ∙ append_snoc one b
    (map (whole_symbol names) (drop (place + 1) xs))
    ∙ ap (λ l. l ++ b ∷ map (whole_symbol names) (drop (place + 1) xs)) e
    ∙ ap (λ y. map (empty_symbol names) (take place xs) ++ y ∷ map (whole_symbol names) (drop (place + 1) xs)) g
    ∙ ap (λ k. map (empty_symbol names) (take place xs) ++ begin_symbol names (slice_index_or xs place 0) ∷ map (whole_symbol names)
    (drop k xs))
    (let z : place + 1 ≡ suc place = omega arith in z)

-- rules for trees that begin with the wanted terminal, place by place
module _ (names wanted r : ℕ) (rule : NumberRule) where
  abbrev xs : List ℕ
  xs = rule.right

  pub begins_none : (old : Derived) → AddsDerived r (IsBeginBelow names wanted rule 0) old old
  begins_none old = adds_none r (IsBeginBelow names wanted rule 0) old (λ p d t. omega (arith, t.0))

  -- where trees may begin at the place, one rule more
  pub begins_more : (place : ℕ) (old now new : Derived) → AddsDerived r (IsBeginBelow names wanted rule place) old now →
      AddsDerived r (IsBeginAt names rule place) now new → MayBegin names wanted xs place →
      AddsDerived r (IsBeginBelow names wanted rule (place + 1)) old new
  begins_more place old now new a b may =
      adds_both r (IsBeginBelow names wanted rule place) (IsBeginAt names rule place) (IsBeginBelow names wanted rule (place + 1)) old now
      new a b
      (λ p d t. parts p d t (cases_lt p place)) (λ p d t. (omega (arith, t.0), t.1))
      (λ p d t. (
        omega (arith, t.0),
        (
          subst (MayBegin names wanted xs) (sym t.0) may,
          (refl, t.1 ∙ ap (λ k. record { left = begin_symbol names rule.left; right = begin_side names xs k }) (sym t.0)),
        ),
      ))
    where
      parts : (p : ℕ) (d : NumberRule) → IsBeginBelow names wanted rule (place + 1) p d → (p < place) ⊎ (place ≤ p) →
          IsBeginBelow names wanted rule place p d ⊎ IsBeginAt names rule place p d
      parts p d t (inl l) = inl (l, t.1)
      parts p d t (inr l) =
          let e : p ≡ place = omega (arith, t.0) in
          inr (e, t.1.1.1 ∙ ap (λ k. record { left = begin_symbol names rule.left; right = begin_side names xs k }) e)

  -- no tree begins behind a terminal
  pub none_behind : (place : ℕ) → place < length xs → names ≤ get_or xs place 0 → (p : ℕ) → place < p → MayBegin names
      wanted xs p → ⊥
  none_behind place h past p l may =
      omega (arith, may.front (get_or xs place 0) (taken_there xs place p h l), past)

  -- where a terminal stands at the place, one rule more if it is the wanted one, and no further
  pub begins_last : (place : ℕ) (old now new : Derived) → place < length xs → names ≤ get_or xs place 0 → AreNames names
      (take place xs) →
      AddsDerived r (IsBeginBelow names wanted rule place) old now → AddsDerived r (IsWantedAt names wanted rule place) now new →
      AddsDerived r (IsBeginOf names wanted rule) old new
  begins_last place old now new h past front a b =
      adds_both r (IsBeginBelow names wanted rule place) (IsWantedAt names wanted rule place) (IsBeginOf names wanted rule) old now new a b
      (λ p d t. parts p d t (cases_lt p place) (cases_lt place p)) (λ p d t. t.1)
      (λ p d t. (
        subst (MayBegin names wanted xs) (sym t.1.0) (record { within = h; front = front; here = inr t.0 }),
        (refl, t.1.1 ∙ ap (λ k. record { left = begin_symbol names rule.left; right = begin_side names xs k }) (sym t.1.0)),
      ))
    where
      here : (p : ℕ) (d : NumberRule) → IsBeginOf names wanted rule p d → p ≡ place → IsWantedAt names wanted rule place p d
      here p d t e = (
        ⊎_elim (λ l. let k = subst (λ q. get_or xs q 0 < names) e l in absurd (omega (arith, k, past)))
            (λ w. subst (λ q. get_or xs q 0 ≡ wanted) e w) t.0.here,
        (e, t.1.1 ∙ ap (λ k. record { left = begin_symbol names rule.left; right = begin_side names xs k }) e),
      )

      parts : (p : ℕ) (d : NumberRule) → IsBeginOf names wanted rule p d → (p < place) ⊎ (place ≤ p) → (place < p) ⊎
          (p ≤ place) →
          IsBeginBelow names wanted rule place p d ⊎ IsWantedAt names wanted rule place p d
      parts p d t (inl l) k = inl (l, t)
      parts p d t (inr l) (inl k) = absurd (none_behind place h past p k t.0)
      parts p d t (inr l) (inr k) = inr (here p d t (omega arith))

  -- no further place
  pub begins_all : (place : ℕ) (old new : Derived) → ((p : ℕ) → place ≤ p → MayBegin names wanted xs p → ⊥) →
      AddsDerived r (IsBeginBelow names wanted rule place) old new → AddsDerived r (IsBeginOf names wanted rule) old new
  begins_all place old new none a =
      adds_same r (IsBeginBelow names wanted rule place) (IsBeginOf names wanted rule) old new a
      (λ p d t. ⊎_elim (λ l. (l, t)) (λ l. absurd (none p l t.0)) (cases_lt p place)) (λ p d t. t.1)

  pub none_past : (place : ℕ) → length xs ≤ place → (p : ℕ) → place ≤ p → MayBegin names wanted xs p → ⊥
  none_past place h p l may = omega (arith, may.within, h, l)
