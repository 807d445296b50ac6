-- One entry after it was taken from the heap: the search goes on, with less to be done. For its loop.
use Rattle.std.proofs.Common.{◌≡◌, ◌+◌, ◌<◌, List, [], ◌∷◌, length, IsPermutation}
use Rattle.std.proofs.Common.{◌⊎◌, inl, inr, refl, sym, ap, subst, arith}
use Rattle.std.proofs.lemmas.List.Sorted.{length_permutation}
use Rattle.std.specs.declared.cmp.Reverse.{Reverse}
use Rattle.lalrpop_lr1_paths.specs.declared.graph_paths.graph.Goal.{Goal}
use Rattle.lalrpop_lr1_paths.specs.declared.graph_paths.graph.Graph.{Graph}
use Rattle.lalrpop_lr1_paths.specs.declared.graph_paths.path_table.PathTable.{PathTable}
use Rattle.lalrpop_lr1_paths.specs.declared.graph_paths.waiting.Entry.{Entry}
use Rattle.lalrpop_lr1_paths.specs.Graphs.{IsGraph, edges_at, graph_edges}
use Rattle.lalrpop_lr1_paths.specs.PathSearches.{IsPathSearch, KeepsPath, PassesPath, path_numbers, search_left}
use Rattle.lalrpop_lr1_paths.proofs.EnteringLemmas.{are_entering}
use Rattle.lalrpop_lr1_paths.proofs.MeasureLemmas.{work_done}
use Rattle.lalrpop_lr1_paths.proofs.SearchLemmas.{search_keeps, search_passes, search_reordered}

-- a list whose length is zero is the empty list
pub nothing_left : {X : Type 0} (xs : List X) → length xs ≡ 0 → xs ≡ []
nothing_left [] e = refl
nothing_left (x ∷ xs) e = absurd (omega arith)

module _ (graph : Graph) (is : IsGraph graph) (goals : List Goal) (entry : Reverse Entry) (old : PathTable)
    (before waited : List (Reverse Entry)) (popped : IsPermutation before (entry ∷ waited))
    (search : IsPathSearch (graph_edges graph) goals (path_numbers old) old.paths.items before)
    (new : PathTable) (waiting : List (Reverse Entry)) where
  after_pop : IsPathSearch (graph_edges graph) goals (path_numbers old) old.paths.items (entry ∷ waited)
  after_pop = search_reordered (graph_edges graph) goals (path_numbers old) old.paths.items before (entry ∷ waited) popped search

  pub step_keeps : PassesPath entry.0 old new waited waiting
      ⊎ KeepsPath (graph_edges graph) (edges_at graph.entering) entry.0 old new waited waiting →
      IsPathSearch (graph_edges graph) goals (path_numbers new) new.paths.items waiting
  step_keeps (inl p) =
      subst (λ (t : PathTable). IsPathSearch (graph_edges graph) goals (path_numbers t) t.paths.items waiting) (sym p.same)
      (subst (λ w. IsPathSearch (graph_edges graph) goals (path_numbers old) old.paths.items w) (sym p.waiting_same)
      (search_passes (graph_edges graph) goals (path_numbers old) old.paths.items entry waited after_pop p.there))
  step_keeps (inr k) =
      search_keeps (graph_edges graph) goals (edges_at graph.entering)
      (are_entering (graph_edges graph) (edges_at graph.entering) is.entering) (path_numbers old) (path_numbers new) old.paths.items
      new.paths.items entry waited waiting after_pop k.fresh k.number k.paths k.adds

  pub step_smaller : PassesPath entry.0 old new waited waiting
      ⊎ KeepsPath (graph_edges graph) (edges_at graph.entering) entry.0 old new waited waiting →
      search_left (graph_edges graph) (path_numbers new) + length waiting
      < search_left (graph_edges graph) (path_numbers old) + length before
  step_smaller (inl p) =
      let same = ap (λ (t : PathTable). search_left (graph_edges graph) (path_numbers t)) p.same in
      omega (arith, same, ap length p.waiting_same, length_permutation before (entry ∷ waited) popped)
  step_smaller (inr k) =
      let done = work_done (path_numbers old) (path_numbers new) entry.0.node (length old.paths.items) k.fresh k.number 0
      (graph_edges graph) in
      let all = ap length (is.entering entry.0.node) in
      omega (arith, done, all, k.adds.count, length_permutation before (entry ∷ waited) popped)
