-- Computed: nodes 0 to 3, edges 0 to 1, 1 to 2, 0 to 2 and 3 to 3, and a goal at 2. From 3 no path leads to it.
use Rattle.std.proofs.Common.{◌≡◌, ◌∙◌, ℕ, zero, suc, ◌<◌, List, [], ◌∷◌, Some, None, refl, sym, ap}
use Rattle.std.proofs.Common.{subst, arith, slice_get}
use Rattle.lalrpop_lr1_paths.specs.declared.graph_paths.graph.Edge.{Edge}
use Rattle.lalrpop_lr1_paths.specs.declared.graph_paths.graph.Goal.{Goal}
use Rattle.lalrpop_lr1_paths.specs.GraphPaths.{HasNoPathToGoal, IsPathIfSome, IsPathTo, capped_sum, ends, goes_on, path_weight}
use Rattle.lalrpop_lr1_paths.proofs.EntryLemmas.{same_there}

abbrev first : Edge
first = record { from = 0; to = 1; weight = 5 }

abbrev second : Edge
second = record { from = 1; to = 2; weight = 1 }

abbrev long : Edge
long = record { from = 0; to = 2; weight = 9 }

abbrev loop : Edge
loop = record { from = 3; to = 3; weight = 1 }

abbrev edges : List Edge
edges = first ∷ second ∷ long ∷ loop ∷ []

abbrev at_two : Goal
at_two = record { node = 2; weight = 0 }

abbrev goals : List Goal
goals = at_two ∷ []

-- a goal at the node itself; paths of one edge and of two
here : IsPathTo edges goals 2 [] 0
here = ends 2 0 at_two refl refl

one_edge : IsPathTo edges goals 0 (2 ∷ []) 0
one_edge = goes_on 0 2 long [] 0 refl refl here

two_edges : IsPathTo edges goals 0 (0 ∷ 1 ∷ []) 0
two_edges = goes_on 0 0 first (1 ∷ []) 0 refl refl (goes_on 1 1 second [] 0 refl refl here)

two_weigh : path_weight edges goals (0 ∷ 1 ∷ []) 0 ≡ 6
two_weigh = refl

one_weighs : path_weight edges goals (2 ∷ []) 0 ≡ 9
one_weighs = refl

-- a sum past the greatest number stops there
past_greatest : capped_sum 18446744073709551615 2 ≡ 18446744073709551615
past_greatest = refl

-- whence a path can lead to the goal
Reaches : ℕ → Type 0
Reaches n = n < 3

goal_below : (g : ℕ) (goal : Goal) → slice_get goals g ≡ Some goal → Reaches goal.node
unfolding Reaches
goal_below zero goal at = subst (λ (x : Goal). x.node < 3) (same_there goals 0 at_two goal refl at) (omega arith)
goal_below (suc g) goal at = let w : ⊥ = cc in absurd w

edge_below : (e : ℕ) (edge : Edge) → slice_get edges e ≡ Some edge → Reaches edge.to → Reaches edge.from
unfolding Reaches
edge_below zero edge at h = subst (λ (x : Edge). x.from < 3) (same_there edges 0 first edge refl at) (omega arith)
edge_below (suc zero) edge at h = subst (λ (x : Edge). x.from < 3) (same_there edges 1 second edge refl at) (omega arith)
edge_below (suc (suc zero)) edge at h = subst (λ (x : Edge). x.from < 3) (same_there edges 2 long edge refl at) (omega arith)
edge_below (suc (suc (suc zero))) edge at h =
    let l = subst (λ (x : Edge). x.to < 3) (sym (same_there edges 3 loop edge refl at)) h in absurd (omega (arith, l))
edge_below (suc (suc (suc (suc e)))) edge at h = let w : ⊥ = cc in absurd w

below : (n : ℕ) (es : List ℕ) (g : ℕ) → IsPathTo edges goals n es g → Reaches n
below n es g (ends node h goal at is) = subst Reaches is (goal_below h goal at)
below n es g (goes_on node e edge fs h at is path) = subst Reaches is (edge_below e edge at (below edge.to fs h path))

-- a node without a path
no_path_of_three : HasNoPathToGoal edges goals 3
unfolding Reaches
no_path_of_three es g path = omega (arith, below 3 es g path)

-- the edge at which a path begins leads from its node; where a path without edges is, there is the goal
begins : (n e : ℕ) (es fs : List ℕ) (g : ℕ) → IsPathTo edges goals n es g → es ≡ e ∷ fs →
    (edge : Edge) × (slice_get edges e ≡ Some edge) × (edge.from ≡ n) × IsPathTo edges goals edge.to fs g
begins n e es fs g (ends node h goal at is) same = let w : ⊥ = cc in absurd w
begins n e es fs g (goes_on node f edge gs h at is path) same =
    let number : f ≡ e = cc in
    let rest : gs ≡ fs = cc in
    (edge, ap (slice_get edges) (sym number) ∙ at, is, subst (λ l. IsPathTo edges goals edge.to l h) rest path)

stays : (n : ℕ) (es : List ℕ) (g : ℕ) → IsPathTo edges goals n es g → es ≡ [] →
    (goal : Goal) × (slice_get goals g ≡ Some goal) × (goal.node ≡ n)
stays n es g (ends node h goal at is) same = (goal, at, is)
stays n es g (goes_on node f edge gs h at is path) same = let w : ⊥ = cc in absurd w

-- an edge that leads from another node
other_edge : IsPathTo edges goals 0 (1 ∷ []) 0 → ⊥
other_edge p =
    let b = begins 0 1 (1 ∷ []) [] 0 p refl in
    omega (arith, ap (λ (x : Edge). x.from) (same_there edges 1 second b.0 refl b.1), b.2)

-- a path that stops before the goal
too_short : IsPathTo edges goals 0 (0 ∷ []) 0 → ⊥
too_short p =
    let b = begins 0 0 (0 ∷ []) [] 0 p refl in
    let to_one = ap (λ (x : Edge). x.to) (same_there edges 0 first b.0 refl b.1) in
    let s = stays b.0.to [] 0 b.3 refl in
    omega (arith, to_one, ap (λ (x : Goal). x.node) (same_there goals 0 at_two s.0 refl s.1), s.2)

-- no path, where there is one
none : IsPathIfSome edges goals 0 None → ⊥
none h = h (0 ∷ 1 ∷ []) 0 two_edges
