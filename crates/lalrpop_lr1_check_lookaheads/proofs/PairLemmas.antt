-- Lists whose elements belong together place by place, one more of each: for the sets of reductions and of states.
use Rattle.std.proofs.Common.{◌≡◌, ◌∙◌, ℕ, ◌+◌, ◌≤◌, List, [], ◌∷◌, ◌++◌, Some, length, length-append, refl, sym, ap, subst, arith, slice_get, ⊎_elim}
use Rattle.std.proofs.lemmas.Option.{slice_get_within}
use Rattle.lalrpop_lr1_theory.proofs.ListLemmas.{before_or_end}
use Rattle.lalrpop_lr1_theory.proofs.StepLemmas.{some_same}

module _ {X Y : Type 0} (Fits : ℕ → X → Y → Type 0) (xs : List X) where
  -- as many as these are paired with the first of the others
  pub record ArePaired (ys : List Y) (n : ℕ) : Type 0 where
    pub within : n ≤ length xs
    pub count : length ys ≡ n
    pub each : (i : ℕ) (x : X) (y : Y) → slice_get xs i ≡ Some x → slice_get ys i ≡ Some y → Fits i x y

  pub paired_none : ArePaired [] 0
  paired_none = record { within = omega arith; count = refl; each = λ i x y e f. let w : ⊥ = cc in absurd w }

  -- one pair more
  pub paired_more : (ys new : List Y) (n : ℕ) (x : X) (y : Y) → ArePaired ys n → slice_get xs n ≡ Some x →
      new ≡ ys ++ y ∷ [] → Fits n x y → ArePaired new (n + 1)
  paired_more ys new n x y before at is fits = record {
    within = omega (arith, slice_get_within xs n x at);
    count = omega (arith, ap length is, length-append ys (y ∷ []), before.count);
    each = λ i a b e f. ⊎_elim
        (λ g. before.each i a b e g)
        (λ (last, same).
        let here : n ≡ i = omega (arith, last, before.count) in
        let own : x ≡ a = some_same x a (sym at ∙ ap (slice_get xs) here ∙ e) in
        subst (Fits i a) same (subst (λ z. Fits i z y) own (subst (λ k. Fits k x y) here fits)))
        (before_or_end ys y i b (subst (λ l. slice_get l i ≡ Some b) is f));
  }
