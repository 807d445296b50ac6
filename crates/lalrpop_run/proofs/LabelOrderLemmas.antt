-- Of two labels not both come first: for the order of an expansion's productions.
use Rattle.std.proofs.Common.{◌≡◌, ◌∙◌, ◌⊎◌, inl, inr, ℕ, List, Some, ap, arith, refl, subst, sym}
use Rattle.lalrpop_grammar.specs.WrittenGrammar.{Origin}
use Rattle.lalrpop_grammar_language.specs.Labels.{Inlinings, Label}
use Rattle.lalrpop_lr1_theory.proofs.StepLemmas.{some_same}
use Rattle.lalrpop_norm_theory.specs.Productions.{IsOriginBefore}
use Rattle.lalrpop_run.specs.ProductionOrders.{DifferFirstAt, IsInlinedSooner, IsLabelBefore, IsNumberedBefore, IsReplacedFirst}
use Rattle.lalrpop_run.specs.ProductionOrders.{inlined_at, label_head}
use Rattle.lalrpop_run.proofs.NumberBackLemmas.{same_head}
use Rattle.lalrpop_run.proofs.SoonerLemmas.{made_apart, sooner_apart}

-- of two choices not both come first
pub origins_apart : (o p : Origin) → IsOriginBefore o p → IsOriginBefore p o → ⊥
origins_apart (Origin.alternative n args i) (Origin.alternative m others j) h k = omega (arith, h, k)
origins_apart (Origin.alternative n args i) Origin.pass_down h k = k
origins_apart Origin.plus_one Origin.plus_more h k = k
origins_apart Origin.star_none Origin.star_some h k = k
origins_apart Origin.opt_some Origin.opt_none h k = k
origins_apart o p h k = absurd h

abbrev pub label_choice : {N C : Type 0} → Label N C → C
label_choice (Label.choose x choice inlinings) = choice

abbrev pub label_inlinings : {N C : Type 0} → Label N C → Inlinings N C
label_inlinings (Label.choose x choice inlinings) = inlinings

module _ {N C : Type 0} (IsBefore : C → C → Type 0) (apart : (c d : C) → IsBefore c d → IsBefore d c → ⊥) (order : List N) where
  abbrev Before : Label N C → Label N C → Type 0
  Before l m = IsLabelBefore N C IsBefore order l m

  -- The labels differ first at a place, where what the one inlines comes first.
  pub record DifferInside (l : Label N C) (m : Label N C) : Type 0 where
    pub place : ℕ
    pub label : Label N C
    pub other : Label N C
    pub label_at : inlined_at (label_inlinings l) place ≡ Some label
    pub other_at : inlined_at (label_inlinings m) place ≡ Some other
    pub less : IsLabelBefore N C IsBefore order label other
    pub first : DifferFirstAt order (label_inlinings l) (label_inlinings m) place (label_head label)

  -- a label comes first by its choice or by what it inlines
  pub before_cases : (l m : Label N C) → IsLabelBefore N C IsBefore order l m →
      IsBefore (label_choice l) (label_choice m) ⊎ ((label_choice l ≡ label_choice m) × DifferInside l m)
  before_cases l m (IsLabelBefore.by_choice x c d inlinings others h) = inl h
  before_cases l m (IsLabelBefore.by_inlined x c inlinings others i label other e f less first) =
      let same : c ≡ c = refl in
      inr (same, record { place = i; label = label; other = other; label_at = e; other_at = f; less = less; first = first })

  -- no label comes before itself
  pub label_never : (l m : Label N C) → IsLabelBefore N C IsBefore order l m → l ≡ m → ⊥
  label_never l m (IsLabelBefore.by_choice x c d inlinings others h) e =
      let same : c ≡ d = ap label_choice e in
      let other : IsBefore d c = subst (λ (z : C). IsBefore z c) same (subst (IsBefore c) (sym same) h) in
      apart c d h other
  label_never l m (IsLabelBefore.by_inlined x c inlinings others i label other u v less first) e =
      let same : inlinings ≡ others = ap label_inlinings e in
      label_never label other less
      (some_same label other (sym u ∙ ap (λ (z : Inlinings N C). inlined_at z i) same ∙ v))

  -- two places of which each is replaced first are one
  one_place : (i j : ℕ) (x y z w : N) → x ≡ w → y ≡ z → IsReplacedFirst order i x j y → IsReplacedFirst order j z i w → i ≡ j
  one_place i j x y z w e f (inl s) (inl t) =
      absurd (sooner_apart order x y s
      (subst (λ (k : N). IsInlinedSooner order k x) (sym f) (subst (IsInlinedSooner order z) (sym e) t)))
  one_place i j x y z w e f (inl s) (inr t) =
      let same : y ≡ x = f ∙ t.0 ∙ sym e in
      absurd (sooner_apart order x x (subst (IsInlinedSooner order x) same s) (subst (IsInlinedSooner order x) same s))
  one_place i j x y z w e f (inr s) (inl t) =
      let same : z ≡ w = sym f ∙ sym s.0 ∙ e in
      absurd (sooner_apart order w w (subst (λ (k : N). IsInlinedSooner order k w) same t)
      (subst (λ (k : N). IsInlinedSooner order k w) same t))
  one_place i j x y z w e f (inr s) (inr t) = omega (arith, s.1, t.1)

  pub label_apart : (l m : Label N C) → IsLabelBefore N C IsBefore order l m → IsLabelBefore N C IsBefore order m l → ⊥
  label_apart l m (IsLabelBefore.by_choice x c d inlinings others h) k =
      go (before_cases (Label.choose x d others) (Label.choose x c inlinings) k)
    where
      go : IsBefore d c ⊎ ((d ≡ c) × DifferInside (Label.choose x d others) (Label.choose x c inlinings)) → ⊥
      go (inl b) = apart c d h b
      go (inr b) =
          let other : IsBefore d c = subst (λ (z : C). IsBefore z c) (sym b.0) (subst (IsBefore c) b.0 h) in
          apart c d h other
  label_apart l m (IsLabelBefore.by_inlined x c inlinings others i u v e f less first) k =
      let r = before_cases (Label.choose x c others) (Label.choose x c inlinings) k in
      inside r (λ w. label_apart u v less w)
    where
      inside : IsBefore c c ⊎ ((c ≡ c) × DifferInside (Label.choose x c others) (Label.choose x c inlinings)) →
          (IsLabelBefore N C IsBefore order v u → ⊥) → ⊥
      inside (inl b) deeper = apart c c b b
      inside (inr b) deeper = go (first d.place d.other d.label d.other_at d.label_at) (d.first i v u f e)
        where
          d : DifferInside (Label.choose x c others) (Label.choose x c inlinings)
          d = b.1

          by_place : i ≡ d.place → ⊥
          by_place same =
              let one : v ≡ d.label =
              some_same v d.label (sym f ∙ ap (inlined_at others) same ∙ d.label_at) in
              let two : u ≡ d.other =
              some_same u d.other (sym e ∙ ap (inlined_at inlinings) same ∙ d.other_at) in
              deeper (subst (λ (z : Label N C). IsLabelBefore N C IsBefore order z u) (sym one)
              (subst (IsLabelBefore N C IsBefore order d.label) (sym two) d.less))

          go : (d.other ≡ d.label) ⊎ IsReplacedFirst order i (label_head u) d.place (label_head d.other) →
              (v ≡ u) ⊎ IsReplacedFirst order d.place (label_head d.label) i (label_head v) → ⊥
          go (inl same) w = label_never d.label d.other d.less (sym same)
          go (inr s) (inl same) = label_never u v less (sym same)
          go (inr s) (inr t) =
              by_place (one_place i d.place (label_head u) (label_head d.other) (label_head d.label) (label_head v)
              (same_head IsBefore order u v less) (sym (same_head IsBefore order d.label d.other d.less)) s t)

  -- nor are both numbered first
  pub numbered_apart : (l m : Label N C) → IsNumberedBefore N C IsBefore order l m → IsNumberedBefore N C IsBefore order m l → ⊥
  numbered_apart l m (inl s) (inl t) = made_apart order l m s t
  numbered_apart l m (inl s) (inr t) = t.0 s
  numbered_apart l m (inr s) (inl t) = s.0 t
  numbered_apart l m (inr s) (inr t) = label_apart l m s.1 t.1
