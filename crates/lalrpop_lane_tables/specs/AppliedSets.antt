-- What a context set makes of the reductions of a state, where its columns are those of actions.
use Rattle.std.specs.Prelude.{ℕ, List, Some, ◌≡◌, All, Contains, slice_get}
use Rattle.std.specs.Borrow.{Bor}
use Rattle.std.specs.List.{AllZip}
use Rattle.lalrpop_grammar_repr.specs.declared.production.Production.{Production}
use Rattle.lalrpop_lr1_core.specs.declared.conflict.Action.{Action}
use Rattle.lalrpop_lr1_core.specs.declared.conflict.Action.TheVariants.{Shift, Reduce}

-- the action is the reduction by the production
abbrev pub IsReductionBy : Action → Production → Type 0
IsReductionBy (Shift t m) p = ⊥
IsReductionBy (Reduce q) p = q.now ≡ p

-- one of the actions is the reduction by the production
abbrev pub IsAmongActions : List Action → Production → Type 0
IsAmongActions actions p = (a : Action) × Contains actions a × IsReductionBy a p

-- each reduction is one of the actions
abbrev pub HaveActions : List Action → List (List ℕ × Bor Production) → Type 0
HaveActions actions reductions = All (λ (r : List ℕ × Bor Production). IsAmongActions actions r.1.now) reductions

-- the reduction by the production stands among the actions in the place in which the set stands among the sets
abbrev pub HasSetOfAction : List Action → List (List ℕ) → Production → List ℕ → Type 0
HasSetOfAction actions sets p set =
    (c : ℕ) × (a : Action) × (slice_get actions c ≡ Some a) × IsReductionBy a p × (slice_get sets c ≡ Some set)

-- the same reductions in order, each with the set of its action
abbrev pub HaveSetsOfActions : List Action → List (List ℕ) → List (List ℕ × Bor Production) → List (List ℕ × Bor Production) → Type 0
HaveSetsOfActions actions sets =
    AllZip (λ (old new : List ℕ × Bor Production). (new.1 ≡ old.1) × HasSetOfAction actions sets old.1.now new.0)
