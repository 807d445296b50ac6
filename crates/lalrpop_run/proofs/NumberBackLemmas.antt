-- The order of labels under names is that of the labels over nonterminals and choices that they go back to: for the numbers of an expansion.
use Rattle.std.proofs.Common.{◌≡◌, ◌∙◌, ◌⊎◌, inl, inr, ℕ, zero, suc, List, [], ◌∷◌, Some, ap, map, refl, subst, sym, take}
use Rattle.std.proofs.lemmas.List.{take-map}
use Rattle.lalrpop_lr1_theory.proofs.StepLemmas.{some_same}
use Rattle.lalrpop_grammar_language.specs.Among.{Among}
use Rattle.lalrpop_grammar_language.specs.Labels.{BaseProductions, GrammarSymbols, Inlinings, Label}
use Rattle.lalrpop_grammar_language.specs.Inlining.{Inlines}
use Rattle.lalrpop_grammar_language.proofs.AmongLemmas.{map_among}
use Rattle.lalrpop_grammar_language.proofs.PlaceLemmas.{among_map}
use Rattle.lalrpop_run_prepare.specs.NamedLabels.{AreNamedProductions, inlinings_back, label_back}
use Rattle.lalrpop_run.specs.ProductionOrders.{DifferFirstAt, IsInlinedSooner, IsLabelBefore, IsMadeSooner, IsMadeWithin, IsNumberedBefore}
use Rattle.lalrpop_run.specs.ProductionOrders.{IsReplacedFirst, inlined_at, label_head}
use Rattle.lalrpop_run.proofs.FilledLabelLemmas.{place_inlines}

-- what is among the first so many is among all
among_taken : {A : Type 0} (k : ℕ) (xs : List A) (y : A) → Among (take k xs) y → Among xs y
among_taken zero xs y i = absurd i
among_taken (suc k) [] y i = absurd i
among_taken (suc k) (x ∷ xs) y (inl e) = inl e
among_taken (suc k) (x ∷ xs) y (inr i) = inr (among_taken k xs y i)

-- labels in order are of one nonterminal
pub same_head : {N C : Type 0} (IsBefore : C → C → Type 0) (order : List N) (l m : Label N C) → IsLabelBefore N C IsBefore order l m →
    label_head l ≡ label_head m
same_head IsBefore order l m (IsLabelBefore.by_choice x c d inlinings others h) = refl
same_head IsBefore order l m (IsLabelBefore.by_inlined x c inlinings others i k n e f less first) = refl

-- places of what goes back

at_back : {N C T D : Type 0} (back : D → N × C) (inlinings : Inlinings T D) (i : ℕ) (l : Label T D) → inlined_at inlinings i ≡ Some l →
    inlined_at (inlinings_back back inlinings) i ≡ Some (label_back back l)
at_back back Inlinings.none i l e = let w : ⊥ = cc in absurd w
at_back back (Inlinings.kept inlinings) zero l e = let w : ⊥ = cc in absurd w
at_back back (Inlinings.kept inlinings) (suc i) l e = at_back back inlinings i l e
at_back {T = T} {D = D} back (Inlinings.inlined k inlinings) zero l e =
    ap (λ (m : Label T D). Some (label_back back m)) (some_same k l e)
at_back back (Inlinings.inlined k inlinings) (suc i) l e = at_back back inlinings i l e

at_from : {N C T D : Type 0} (back : D → N × C) (inlinings : Inlinings T D) (i : ℕ) (k : Label N C) →
    inlined_at (inlinings_back back inlinings) i ≡ Some k →
    (l : Label T D) × (inlined_at inlinings i ≡ Some l) × (label_back back l ≡ k)
at_from back Inlinings.none i k e = let w : ⊥ = cc in absurd w
at_from back (Inlinings.kept inlinings) zero k e = let w : ⊥ = cc in absurd w
at_from back (Inlinings.kept inlinings) (suc i) k e = at_from back inlinings i k e
at_from back (Inlinings.inlined l inlinings) zero k e = (l, refl, some_same (label_back back l) k e)
at_from back (Inlinings.inlined l inlinings) (suc i) k e = at_from back inlinings i k e

module _ {N C T D : Type 0} (M : BaseProductions N C) (In : N → Type 0) (Known : N → Type 0) (L : BaseProductions T D)
    (InNamed : T → Type 0) (name_of : N → T) (back : D → N × C) (a : AreNamedProductions N C T D M In Known L InNamed name_of back)
    (IsBefore : C → C → Type 0) (order : List N) (all_known : (y : N) → Among order y → Known y) where
  abbrev named : List T
  named = map name_of order

  abbrev IsBeforeNamed : D → D → Type 0
  IsBeforeNamed c d = IsBefore (back c).1 (back d).1

  abbrev Inlined : T → Label T D → GrammarSymbols T → Type 0
  Inlined x l side = Inlines L InNamed x l side

  -- What a label under a name goes back to has a known head of that name.
  record HasHeadBack (l : Label T D) : Type 0 where
    known : Known (label_head (label_back back l))
    name_is : name_of (label_head (label_back back l)) ≡ label_head l

  head_back : (x : T) (l : Label T D) (side : GrammarSymbols T) → Inlines L InNamed x l side → HasHeadBack l
  head_back x (Label.choose n d inlinings) side h =
      let q = a.no_other x d h.1 h.2 in
      record { known = q.known; name_is = sym (h.0 ∙ q.name_is) }

  taken_back : (k : ℕ) (y : N) → Known y → Among (take k named) (name_of y) → Among (take k order) y
  taken_back k y known i =
      let w = among_map name_of (take k order) (name_of y)
      (subst (λ (l : List T). Among l (name_of y)) (take-map name_of k order) i) in
      subst (λ (z : N). Among (take k order) z) (a.apart w.0 y (all_known w.0 (among_taken k order w.0 w.1)) known w.2) w.1

  taken_from : (k : ℕ) (y : N) → Among (take k order) y → Among (take k named) (name_of y)
  taken_from k y i =
      subst (λ (l : List T). Among l (name_of y)) (sym (take-map name_of k order)) (map_among name_of (take k order) y i)

  within_back : (k : ℕ) (x : T) (l : Label T D) (side : GrammarSymbols T) → Inlines L InNamed x l side → IsMadeWithin named k l →
      IsMadeWithin order k (label_back back l)
  within_back k x (Label.choose n d inlinings) side h within =
      λ i m at.
      let f = at_from back inlinings i m at in
      let p = place_inlines L InNamed inlinings h.1 side h.3 i f.0 f.1 in
      let b = head_back (label_head f.0) f.0 p.front p.inlines in
      subst (λ (z : Label N C). Among (take k order) (label_head z)) f.2
      (taken_back k (label_head (label_back back f.0)) b.known
      (subst (λ (z : T). Among (take k named) z) (sym b.name_is) (within i f.0 f.1)))

  within_from : (k : ℕ) (x : T) (l : Label T D) (side : GrammarSymbols T) → Inlines L InNamed x l side →
      IsMadeWithin order k (label_back back l) → IsMadeWithin named k l
  within_from k x (Label.choose n d inlinings) side h within =
      λ i m at.
      let p = place_inlines L InNamed inlinings h.1 side h.3 i m at in
      let b = head_back (label_head m) m p.front p.inlines in
      subst (λ (z : T). Among (take k named) z) b.name_is
      (taken_from k (label_head (label_back back m)) (within i (label_back back m) (at_back back inlinings i m at)))

  sooner_back : (x y : N) → Known x → Known y → IsInlinedSooner named (name_of x) (name_of y) → IsInlinedSooner order x y
  sooner_back x y i j h = (h.0, taken_back h.0 x i h.1, λ z. h.2 (taken_from h.0 y z))

  replaced_back : (i j : ℕ) (l m : Label T D) → HasHeadBack l → HasHeadBack m →
      IsReplacedFirst named i (label_head l) j (label_head m) →
      IsReplacedFirst order i (label_head (label_back back l)) j (label_head (label_back back m))
  replaced_back i j l m b c (inl h) =
      inl (sooner_back (label_head (label_back back l)) (label_head (label_back back m)) b.known c.known
      (subst (λ (z : T). IsInlinedSooner named z (name_of (label_head (label_back back m)))) (sym b.name_is)
      (subst (λ (z : T). IsInlinedSooner named (label_head l) z) (sym c.name_is) h)))
  replaced_back i j l m b c (inr h) =
      inr (
        a.apart (label_head (label_back back l)) (label_head (label_back back m)) b.known c.known
            (b.name_is ∙ h.0 ∙ sym c.name_is),
        h.1,
      )

  pub before_back : (l m : Label T D) → IsLabelBefore T D (λ c d. IsBefore (back c).1 (back d).1) (map name_of order) l m → (x : T)
      (side end : GrammarSymbols T) → Inlines L InNamed x l side → Inlines L InNamed x m end →
      IsLabelBefore N C IsBefore order (label_back back l) (label_back back m)
  before_back l m (IsLabelBefore.by_choice y c d inlinings others less) x side end h k =
      let p = a.no_other x c h.1 h.2 in
      let q = a.no_other x d k.1 k.2 in
      let heads : (back d).0 ≡ (back c).0 = a.apart (back d).0 (back c).0 q.known p.known (sym q.name_is ∙ p.name_is) in
      subst (λ (z : N). IsLabelBefore N C IsBefore order (Label.choose (back c).0 (back c).1 (inlinings_back back inlinings))
      (Label.choose z (back d).1 (inlinings_back back others))) (sym heads)
      (IsLabelBefore.by_choice (back c).0 (back c).1 (back d).1 (inlinings_back back inlinings) (inlinings_back back others) less)
  before_back l m (IsLabelBefore.by_inlined y c inlinings others i u v e f less first) x side end h k =
      IsLabelBefore.by_inlined (back c).0 (back c).1 (inlinings_back back inlinings) (inlinings_back back others) i (label_back back u)
      (label_back back v) (at_back back inlinings i u e) (at_back back others i v f)
      (before_back u v less (label_head u)
      (place_inlines L InNamed inlinings h.1 side h.3 i u e).front
      (place_inlines L InNamed others k.1 end k.3 i v f).front
      (place_inlines L InNamed inlinings h.1 side h.3 i u e).inlines
      (subst (λ (z : T). Inlines L InNamed z v (place_inlines L InNamed others k.1 end k.3 i v f).front)
      (sym (same_head IsBeforeNamed named u v less)) (place_inlines L InNamed others k.1 end k.3 i v f).inlines)) differ
    where
      own : HasHeadBack u
      own =
          let p = place_inlines L InNamed inlinings h.1 side h.3 i u e in
          head_back (label_head u) u p.front p.inlines

      place_of : (j : ℕ) (n : Label T D) → inlined_at inlinings j ≡ Some n → HasHeadBack n
      place_of j n there =
          let p = place_inlines L InNamed inlinings h.1 side h.3 j n there in
          head_back (label_head n) n p.front p.inlines

      differ : DifferFirstAt order (inlinings_back back inlinings) (inlinings_back back others) i (label_head (label_back back u))
      differ j s t at other =
          let r = at_from back inlinings j s at in
          let w = at_from back others j t other in
          go (first j r.0 w.0 r.1 w.1)
        where
          go : ((at_from back inlinings j s at).0 ≡ (at_from back others j t other).0)
              ⊎ IsReplacedFirst named i (label_head u) j (label_head (at_from back inlinings j s at).0) →
              (s ≡ t) ⊎ IsReplacedFirst order i (label_head (label_back back u)) j (label_head s)
          go (inl same) =
              inl (sym (at_from back inlinings j s at).2 ∙ ap (label_back back) same ∙ (at_from back others j t other).2)
          go (inr sooner) =
              inr (subst (λ (z : Label N C). IsReplacedFirst order i (label_head (label_back back u)) j (label_head z))
              (at_from back inlinings j s at).2
              (replaced_back i j u (at_from back inlinings j s at).0 own
              (place_of j (at_from back inlinings j s at).0 (at_from back inlinings j s at).1) sooner))

  made_back : (x : T) (l m : Label T D) (side end : GrammarSymbols T) → Inlines L InNamed x l side → Inlines L InNamed x m end →
      IsMadeSooner named l m → IsMadeSooner order (label_back back l) (label_back back m)
  made_back x l m side end h k s = (s.0, within_back s.0 x l side h s.1, λ w. s.2 (within_from s.0 x m end k w))

  made_from : (x : T) (l m : Label T D) (side end : GrammarSymbols T) → Inlines L InNamed x l side → Inlines L InNamed x m end →
      IsMadeSooner order (label_back back l) (label_back back m) → IsMadeSooner named l m
  made_from x l m side end h k s = (s.0, within_from s.0 x l side h s.1, λ w. s.2 (within_back s.0 x m end k w))

  -- so the order of numbers goes back too
  pub numbered_back : (x : T) (l m : Label T D) (side end : GrammarSymbols T) → Inlines L InNamed x l side → Inlines L InNamed x m end →
      IsNumberedBefore T D (λ c d. IsBefore (back c).1 (back d).1) (map name_of order) l m →
      IsNumberedBefore N C IsBefore order (label_back back l) (label_back back m)
  numbered_back x l m side end h k (inl s) = inl (made_back x l m side end h k s)
  numbered_back x l m side end h k (inr s) =
      inr (λ w. s.0 (made_from x m l end side k h w), before_back l m s.1 x side end h k)
