-- The one reduction of a state is the one action, and the one state is what stands at a place: for sets that are given to reductions.
use Rattle.std.proofs.Common.{◌≡◌, arith, ℕ, zero, suc, List, [], ◌∷◌, Some, refl, slice_get}
use Rattle.std.specs.Borrow.{Bor}
use Rattle.lalrpop_grammar_repr.specs.declared.production.Production.{Production}
use Rattle.lalrpop_lr1_core.specs.declared.conflict.Action.TheVariants.{Reduce}
use Rattle.lalrpop_lane_tables.specs.AppliedSets.{HaveActions}

pub only_action : (set : List ℕ) (p : Bor Production) → HaveActions (Reduce p ∷ []) ((set, p) ∷ [])
only_action set p zero d l = (Reduce p, (0, l, refl), refl)
only_action set p (suc k) d l = let w : ⊥ = omega (arith, l) in absurd w

pub only_at : {X : Type 0} (x y : X) (k : ℕ) → slice_get (x ∷ []) k ≡ Some y → x ≡ y
only_at x y zero e = cc
only_at x y (suc k) e = let w : ⊥ = cc in absurd w
