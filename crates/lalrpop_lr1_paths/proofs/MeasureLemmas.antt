-- Why the search ends: the edges to a node that gets a path are done with, and so is each entry.
use Rattle.std.proofs.Common.{◌≡◌, ◌∙◌, ℕ, suc, ◌+◌, List, [], ◌∷◌, length, Option, None, Bool, true, false, nat_eq}
use Rattle.std.proofs.Common.{ap, arith, refl}
use Rattle.lalrpop_lr1_paths.specs.declared.graph_paths.graph.Edge.{Edge}
use Rattle.lalrpop_lr1_paths.specs.Graphs.{entering_from, number_if}
use Rattle.lalrpop_lr1_paths.specs.PathSearches.{AddsNumber, left_by, search_left}
use Rattle.lalrpop_lr1_paths.proofs.EnteringLemmas.{is_node, is_no_node}

module _ (old new : ℕ → Option ℕ) (n k : ℕ) (fresh : old n ≡ None) (adds : AddsNumber old new n k) where
  one_done : (m : ℕ) (test : Bool) → nat_eq m n ≡ test → (j : ℕ) (js : List ℕ) →
      left_by (new m) + length (number_if test j js) ≡ left_by (old m) + length js
  one_done m true is j js =
      let same = is_node m n is in
      let was = ap left_by (ap old same ∙ fresh) in
      let now = ap left_by (ap new same ∙ adds.here) in
      omega (arith, was, now)
  one_done m false is j js = let kept = ap left_by (adds.others m (is_no_node m n is)) in omega (arith, kept)

  pub work_done : (from : ℕ) (edges : List Edge) →
      search_left edges new + length (entering_from from edges n) ≡ search_left edges old
  work_done from [] = refl
  work_done from (edge ∷ edges) =
      let more = work_done (suc from) edges in
      let one = one_done edge.to (nat_eq edge.to n) refl from (entering_from (suc from) edges n) in
      omega (arith, more, one)
