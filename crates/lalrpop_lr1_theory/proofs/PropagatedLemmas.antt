-- What is carried is what is propagated to names, along the symbols of a production: for that law.
use Rattle.std.proofs.Common.{◌≡◌, ℕ, zero, suc, ◌+◌, List, [], ◌∷◌, ◌++◌, length, drop, take}
use Rattle.std.proofs.Common.{refl, sym, ap, ◌∙◌, subst}
use Rattle.std.proofs.Common.{None, arith, append-nil}
use Rattle.lalrpop_grammar_symbols.specs.Symbols.{Text}
use Rattle.lalrpop_lr1_theory.specs.Productions.{Next, Production, Symbol, nonterminal}
use Rattle.lalrpop_lr1_theory.specs.Automata.{Carries, begins_with_end, passes_next, shifts_next, starts_next}
use Rattle.lalrpop_lr1_theory.specs.PropagatedNexts.{IsPropagated, LeadAlong, ReducesBeforeCarried, ReducesBeforeLookaheads}
use Rattle.lalrpop_lr1_theory.specs.PropagatedNexts.{end_at_start, first_behind, propagated_on}

take_drop : {X : Type 0} (i : ℕ) (xs : List X) → xs ≡ take i xs ++ drop i xs
take_drop zero xs = refl
take_drop (suc i) [] = refl
take_drop (suc i) (x ∷ xs) = ap (λ l. x ∷ l) (take_drop i xs)

take_one : {X : Type 0} (x : X) (b xs : List X) (i : ℕ) → drop i xs ≡ x ∷ b → take (suc i) xs ≡ take i xs ++ x ∷ []
take_one x b [] zero e = let z : ⊥ = cc in absurd z
take_one x b (y ∷ xs) zero e = let z : y ≡ x = cc in ap (λ u. u ∷ []) z
take_one x b [] (suc i) e = let z : ⊥ = cc in absurd z
take_one x b (y ∷ xs) (suc i) e = ap (λ l. y ∷ l) (take_one x b xs i e)

drop_one : {X : Type 0} (x : X) (b xs : List X) (i : ℕ) → drop i xs ≡ x ∷ b → drop (suc i) xs ≡ b
drop_one x b [] zero e = let z : ⊥ = cc in absurd z
drop_one x b (y ∷ xs) zero e = cc
drop_one x b [] (suc i) e = let z : ⊥ = cc in absurd z
drop_one x b (y ∷ xs) (suc i) e = drop_one x b xs i e

take_all : {X : Type 0} (xs : List X) → take (length xs) xs ≡ xs
take_all [] = refl
take_all (x ∷ xs) = ap (λ l. x ∷ l) (take_all xs)

module _ (G : Production → Type 0) (s : Text) (Item : ℕ → Production → ℕ → Type 0)
    (Edge : ℕ → Symbol → ℕ → Type 0) where
  lead_one : (a : List Symbol) (X : Symbol) (n k m : ℕ) → LeadAlong Edge a n k → Edge k X m → LeadAlong Edge (a ++ X ∷ []) n m
  lead_one [] X n k m l e = (m, subst (λ j. Edge j X m) (sym l) e, refl)
  lead_one (Y ∷ a) X n k m l e = (l.0, l.1, lead_one a X l.0 k m l.2 e)

  -- where what is carried to an item came in
  pub record CameIn (m : ℕ) (p : Production) (i : ℕ) (x : Next) : Type 0 where
    pub state : ℕ
    pub propagated : IsPropagated G s Item Edge state p.left x
    pub of_grammar : G p
    pub leads : LeadAlong Edge (take i p.right) state m

  pub carried_came : {n : ℕ} {p : Production} {i : ℕ} {x : Next} → Carries G s Item Edge n p i x → CameIn n p i x
  carried_came (begins_with_end p g e) =
      record {
        state = 0;
        propagated = subst (λ A. IsPropagated G s Item Edge 0 A None) (sym e) end_at_start;
        of_grammar = g;
        leads = refl;
      }
  carried_came (shifts_next {n = n} {p = p} {i = i} {x = x} X b m h e k) =
      let r = carried_came h in
      record {
        state = r.state;
        propagated = r.propagated;
        of_grammar = r.of_grammar;
        leads = subst (λ l. LeadAlong Edge l r.state m) (sym (take_one X b p.right i e))
            (lead_one (take i p.right) X r.state n m r.leads k);
      }
  carried_came (starts_next {n = n} b q t c e g f) =
      record { state = n; propagated = first_behind b q.left t c e f; of_grammar = g; leads = refl }
  carried_came (passes_next {n = n} {p = p} {i = i} b q x h e g f) =
      let r = carried_came h in
      record {
        state = n;
        propagated = propagated_on p (take i p.right) b q.left n r.propagated r.of_grammar
            (take_drop i p.right ∙ ap (λ l. take i p.right ++ l) e) r.leads f;
        of_grammar = g;
        leads = refl;
      }

  -- along the symbols behind the dot it is carried further
  pub carried_along_side : (a b : List Symbol) (n m : ℕ) (p : Production) (i : ℕ) (x : Next) → Carries G s Item Edge n p i x →
      drop i p.right ≡ a ++ b → LeadAlong Edge a n m →
      (j : ℕ) × Carries G s Item Edge m p j x × (drop j p.right ≡ b) × (j ≡ i + length a)
  carried_along_side [] b n m p i x h e l = (i, subst (λ k. Carries G s Item Edge k p i x) l h, e, omega arith)
  carried_along_side (X ∷ a) b n m p i x h e l =
      let r = carried_along_side a b l.0 m p (suc i) x (shifts_next X (a ++ b) l.0 h e l.1) (drop_one X (a ++ b) p.right i e) l.2 in
      (r.0, r.1, r.2, omega (arith, r.3))

  -- what is propagated to a name is carried to its productions
  pub propagated_carried : {n : ℕ} {A : Text} {x : Next} → IsPropagated G s Item Edge n A x → (q : Production) → q.left ≡ A → G q →
      Carries G s Item Edge n q 0 x
  propagated_carried end_at_start q e g = begins_with_end q g e
  propagated_carried (first_behind b A t c d f) q e g = starts_next b q t c (d ∙ ap (λ B. nonterminal B ∷ b) (sym e)) g f
  propagated_carried (propagated_on {n = n} {x = x} p a b A m h k d l f) q e g =
      let own = propagated_carried h p refl k in
      let r = carried_along_side a (nonterminal A ∷ b) n m p 0 x own d l in
      passes_next b q x r.1 (r.2 ∙ ap (λ B. nonterminal B ∷ b) (sym e)) g f

  module _ (Reduce : ℕ → Production → Next → Type 0) where
    pub reduces_propagated : ReducesBeforeCarried G s Item Edge Reduce → ReducesBeforeLookaheads G s Item Edge Reduce
    reduces_propagated f n m p x g h l =
        let r = carried_along_side p.right [] n m p 0 x (propagated_carried h p refl g) (sym (append-nil p.right)) l in
        f m p x (subst (λ j. Carries G s Item Edge m p j x) (let k : r.0 ≡ length p.right = omega (arith, r.3) in k) r.1)

    pub reduces_carried : ReducesBeforeLookaheads G s Item Edge Reduce → ReducesBeforeCarried G s Item Edge Reduce
    reduces_carried f n p x h =
        let r = carried_came h in
        f r.state n p x r.of_grammar r.propagated (subst (λ l. LeadAlong Edge l r.state n) (take_all p.right) r.leads)
