-- Computed: names 0 and 1, terminals 2 and 3, by the rules 0 = 0 3 1; 0 = 1; 1 = 2. The least tree of 0 is by the rule 0 = 1.
use Rattle.std.proofs.Common.{◌≡◌, ℕ, zero, suc, ◌≤◌, true, List, [], ◌∷◌, length, refl, sym, subst, arith}
use Rattle.std.proofs.Common.{Option, Some, None, slice_get}
use Rattle.lalrpop_lr1_theory.proofs.StepLemmas.{some_same}
use Rattle.lalrpop_lr1_least_trees.specs.declared.least_counts.rule.NumberMove.{NumberMove}
use Rattle.lalrpop_lr1_least_trees.specs.declared.least_counts.rule.NumberMove.TheVariants.{Shift, Reduce}
use Rattle.lalrpop_lr1_least_trees.specs.LeastTrees.{BuildLeast, IsLeast}
use Rattle.lalrpop_lr1_least_trees.specs.NumberedTrees.{Builds, NumberRule, nothing, reduces, shifts}
use Rattle.lalrpop_lr1_least_trees.specs.Searches.{sum_of}
use Rattle.lalrpop_lr1_least_trees.proofs.BuildLemmas.{IsClosed, closed_below}

abbrev long_rule : NumberRule
long_rule = record { left = 0; right = 0 ∷ 3 ∷ 1 ∷ [] }

abbrev short_rule : NumberRule
short_rule = record { left = 0; right = 1 ∷ [] }

abbrev leaf_rule : NumberRule
leaf_rule = record { left = 1; right = 2 ∷ [] }

abbrev rules : List NumberRule
rules = long_rule ∷ short_rule ∷ leaf_rule ∷ []

-- the moves of a tree of 1, and of a tree of 0
leaf_built : Builds rules 2 true (1 ∷ []) (Shift 2 ∷ Reduce 2 ∷ [])
leaf_built = reduces 2 leaf_rule refl (shifts 2 refl (omega arith) nothing) nothing

short_built : Builds rules 2 true (0 ∷ []) (Shift 2 ∷ Reduce 2 ∷ Reduce 1 ∷ [])
short_built = reduces 1 short_rule refl leaf_built nothing

-- what trees have at least
abbrev counts : ℕ → Option ℕ
counts zero = Some 3
counts (suc zero) = Some 2
counts (suc (suc k)) = Some 1

Gives : NumberRule → ℕ → Type 0
Gives rule n = sum_of counts rule.right ≡ Some n → (c : ℕ) × (counts rule.left ≡ Some c) × (c ≤ suc n)

terminal : (s : ℕ) → 2 ≤ s → counts s ≡ Some 1
terminal zero h = absurd (omega arith)
terminal (suc zero) h = absurd (omega arith)
terminal (suc (suc k)) h = refl

each : (r : ℕ) (rule : NumberRule) (n : ℕ) → slice_get rules r ≡ Some rule → Gives rule n
unfolding Gives
each zero rule n at = subst (λ x. Gives x n) (some_same long_rule rule at) (λ e. (3, refl, omega (arith, some_same 6 n e)))
each (suc zero) rule n at = subst (λ x. Gives x n) (some_same short_rule rule at) (λ e. (3, refl, omega (arith, some_same 2 n e)))
each (suc (suc zero)) rule n at = subst (λ x. Gives x n) (some_same leaf_rule rule at) (λ e. (2, refl, omega (arith, some_same 1 n e)))
each (suc (suc (suc k))) rule n at = let w : ⊥ = cc in absurd w

closed : IsClosed rules 2 true counts
unfolding Gives
closed = record { terminal = λ s l h. terminal s h; closed = λ r rule n at e. each r rule n at e }

below : (s c : ℕ) → counts s ≡ Some c → (ms : List NumberMove) → Builds rules 2 true (s ∷ []) ms → c ≤ length ms
below zero c e ms b =
    let n = closed_below rules 2 true counts closed b in omega (arith, some_same 3 c e, some_same 3 n.0 n.1, n.2)
below (suc zero) c e ms b =
    let n = closed_below rules 2 true counts closed b in omega (arith, some_same 2 c e, some_same 2 n.0 n.1, n.2)
below (suc (suc k)) c e ms b =
    let n = closed_below rules 2 true counts closed b in omega (arith, some_same 1 c e, some_same 1 n.0 n.1, n.2)

-- the right answer
least : IsLeast rules 2 true 0 (Some (record { count = 3; rule = 1 }))
least = record {
  built = record { rule = short_rule; moves = Shift 2 ∷ Reduce 2 ∷ []; at = refl; left = refl; builds = leaf_built; count = refl };
  least = λ ms b. below 0 3 refl ms b;
}

-- fewer leaves and nodes than any tree has
too_few : IsLeast rules 2 true 0 (Some (record { count = 2; rule = 1 })) → ⊥
too_few h =
    let same : h.built.rule ≡ short_rule = some_same h.built.rule short_rule (sym h.built.at) in
    let right = subst (λ (x : NumberRule). Builds rules 2 true x.right h.built.moves) same h.built.builds in
    omega (arith, below 1 2 refl h.built.moves right, h.built.count)

-- a tree that isn't least
not_least : IsLeast rules 2 true 0 (Some (record { count = 7; rule = 0 })) → ⊥
not_least h = omega (arith, h.least (Shift 2 ∷ Reduce 2 ∷ Reduce 1 ∷ []) short_built)

-- no tree, where there is one
none : IsLeast rules 2 true 0 None → ⊥
none h = h (Shift 2 ∷ Reduce 2 ∷ Reduce 1 ∷ []) short_built

-- the moves of the least tree; those of another
moves : BuildLeast rules 2 true (0 ∷ []) (Shift 2 ∷ Reduce 2 ∷ Reduce 1 ∷ [])
moves = record { builds = short_built; least = λ ms b. below 0 3 refl ms b }

more_moves : BuildLeast rules 2 true (0 ∷ [])
    (Shift 2 ∷ Reduce 2 ∷ Reduce 1 ∷ Shift 3 ∷ Shift 2 ∷ Reduce 2 ∷ Reduce 0 ∷ []) → ⊥
more_moves h = omega (arith, h.least (Shift 2 ∷ Reduce 2 ∷ Reduce 1 ∷ []) short_built)
