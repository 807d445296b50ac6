-- Symbols of which the first is another terminal: no trees of them begin with the terminal; for the search of the place where they do.
use Rattle.std.proofs.Common.{◌≡◌, ◌∙◌, Bool, true, false, List, [], ◌∷◌, ap, map, not, refl, Some, inl}
use Rattle.std.specs.Prelude.{IsTrue, slice_get}
use Rattle.lalrpop_grammar_symbols.specs.Symbols.{Terminal}
use Rattle.lalrpop_lr1_theory.specs.Productions.{Production, Symbol, terminal}
use Rattle.lalrpop_lr1_theory.proofs.StepLemmas.{some_same}
use Rattle.lalrpop_lr1_least_trees.specs.RestForests.{BeginsWith, HasNoRest, NoLeaves}
use Rattle.lalrpop_lr1_least_trees.proofs.RestLemmas.{no_begins}
use Rattle.lalrpop_lr1_least_trees.proofs.SymbolLemmas.{no_leaf}

-- an answer whose negation is true is false
pub is_not : (b : Bool) → IsTrue (not b) → b ≡ false
is_not true h = let z : ⊥ = cc in absurd z
is_not false h = refl

-- where the first symbol is another terminal, no trees of the symbols begin with the one that is asked for
pub other_first : {X : Type 0} (view : X → Symbol) (xs : List X) (x : X) (G : Production → Type 0) (own t : Terminal) →
    slice_get xs 0 ≡ Some x → view x ≡ terminal own → (BeginsWith t (own ∷ []) → ⊥) →
    HasNoRest G (map view xs) (BeginsWith t)
other_first view [] x G own t at is other = let z : ⊥ = cc in absurd z
other_first view (y ∷ ys) x G own t at is other =
    let one : view y ≡ terminal own = ap view (some_same y x at) ∙ is in
    no_begins G t (view y) (map view ys) 0 (inl (no_leaf G (view y) own one (BeginsWith t) other))
    (inl (no_leaf G (view y) own one NoLeaves (λ e. let z : ⊥ = cc in z)))
