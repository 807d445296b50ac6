-- The place of a reduction among the actions of a state.
use Rattle.std.proofs.Common.{◌≡◌, ◌∙◌, ◌+◌, ◌<◌, ◌≤◌, ◌⊎◌, ℕ, zero, suc, List, [], ◌∷◌, length, drop, sym, ap, subst, ⊎_elim}
use Rattle.std.proofs.Common.{arith, Some, slice_get}
use Rattle.std.proofs.lemmas.Option.{slice_get_within}
use Rattle.lalrpop_grammar_repr.specs.declared.production.Production.{Production}
use Rattle.lalrpop_lr1_theory.proofs.ListLemmas.{contains_get}
use Rattle.lalrpop_lr1_theory.proofs.StepLemmas.{some_same}
use Rattle.lalrpop_lr1_core.specs.declared.conflict.Action.{Action}
use Rattle.lalrpop_lane_tables.specs.AppliedSets.{IsAmongActions, IsReductionBy}

-- what is left of a list begins with what stands at its place
pub left_begins : {X : Type 0} (xs : List X) (k : ℕ) (x : X) (rest : List X) → x ∷ rest ≡ drop k xs →
    (slice_get xs k ≡ Some x) × (rest ≡ drop (k + 1) xs)
left_begins [] zero x rest e = let w : ⊥ = cc in absurd w
left_begins [] (suc k) x rest e = let w : ⊥ = cc in absurd w
left_begins (y ∷ ys) zero x rest e =
    let same : x ≡ y = cc in
    let others : rest ≡ ys = cc in
    (ap (λ z. Some z) (sym same), others ∙ sym (ap (λ n. drop n (y ∷ ys)) one))
  where
    one : 0 + 1 ≡ suc 0
    one = omega arith
left_begins (y ∷ ys) (suc k) x rest e =
    let deeper : (slice_get ys k ≡ Some x) × (rest ≡ drop (k + 1) ys) = left_begins ys k x rest e in
    (deeper.0, deeper.1 ∙ sym (ap (λ n. drop n (y ∷ ys)) (more k)))
  where
    more : (n : ℕ) → suc n + 1 ≡ suc (n + 1)
    more n = omega arith

pub none_left : {X : Type 0} (xs : List X) (k : ℕ) → [] ≡ drop k xs → length xs ≤ k
none_left [] k e = omega arith
none_left (y ∷ ys) zero e = let w : ⊥ = cc in absurd w
none_left (y ∷ ys) (suc k) e = omega (arith, none_left ys k e)

-- none of the first actions is the reduction
abbrev pub NoneBefore : List Action → Production → ℕ → Type 0
NoneBefore actions p place = (k : ℕ) (a : Action) → k < place → slice_get actions k ≡ Some a → IsReductionBy a p → ⊥

pub none_before_more : (actions : List Action) (p : Production) (place : ℕ) (a : Action) → NoneBefore actions p place →
    slice_get actions place ≡ Some a → (IsReductionBy a p → ⊥) → NoneBefore actions p (place + 1)
none_before_more actions p place a none at not k b h e r = ⊎_elim
    (λ before. none k b before e r)
    (λ here. not (subst (λ x. IsReductionBy x p) (some_same b a (sym e ∙ ap (slice_get actions) here ∙ at)) r)) (part k place h)
  where
    part : (j n : ℕ) → j < n + 1 → (j < n) ⊎ (j ≡ n)
    part j n h = grind arith

pub none_at_all : (actions : List Action) (p : Production) (place : ℕ) → NoneBefore actions p place → length actions ≤ place →
    IsAmongActions actions p → ⊥
none_at_all actions p place none all has =
    let at : (k : ℕ) × (slice_get actions k ≡ Some has.0) = contains_get actions has.0 has.1 in
    none at.0 has.0 (omega (arith, all, slice_get_within actions at.0 has.0 at.1)) at.1 has.2
