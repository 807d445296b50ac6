-- Searches for patterns at the nodes of trees, part by part: for the walk.
use Rattle.std.proofs.Common.{◌≡◌, ℕ, zero, suc, List, [], ◌∷◌, inl, inr, map, drop}
use Rattle.lalrpop_grammar.specs.Trees.{trees}
use Rattle.lalrpop_grammar.specs.Views.{tree_view}
use Rattle.lalrpop_grammar.specs.declared.tree.WrittenTree.{WrittenTree}
use Rattle.lalrpop_grammar_language.specs.Enabled.{EnabledGrammar}
use Rattle.lalrpop_judge.specs.Faults.{HasSearch, HaveSearch}

module _ (g : EnabledGrammar) where
  -- a search among the trees from an index on is one among all
  pub later : (ts : List WrittenTree) (i : ℕ) → HaveSearch g (trees (map tree_view (drop i ts)))
      → HaveSearch g (trees (map tree_view ts))
  later [] zero h = h
  later [] (suc i) h = h
  later (t ∷ ts) zero h = h
  later (t ∷ ts) (suc i) h = inr (later ts i h)

  -- a search in one of the trees is one among them
  pub one_of : (ts rest : List WrittenTree) (i : ℕ) (t : WrittenTree) → drop i ts ≡ t ∷ rest → HasSearch g (tree_view t)
      → HaveSearch g (trees (map tree_view ts))
  one_of ts rest i t here h = later ts i (rw here (inl h))
