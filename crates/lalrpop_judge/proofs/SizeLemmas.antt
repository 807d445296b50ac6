-- How much there is of a tree: the measure of the walk.
use Rattle.std.proofs.Common.{◌≡◌, ℕ, zero, suc, ◌+◌, ◌<◌, List, [], ◌∷◌, ap, map, length, get_or, arith}
use Rattle.lalrpop_grammar.specs.Trees.{Tree, Trees, trees}
use Rattle.lalrpop_grammar.specs.Views.{tree_view}
use Rattle.lalrpop_grammar.specs.declared.tree.WrittenTree.{WrittenTree}

abbrev mutual
  -- how much there is of a tree
  pub weight : Tree → ℕ
  weight (Tree.rule n args place children) = suc (weights children)
  weight (Tree.list ts) = suc (weights ts)
  weight Tree.opt_none = 1
  weight (Tree.opt_some t) = suc (suc (weight t))
  weight (Tree.group ts) = suc (weights ts)
  weight (Tree.terminal token) = 1
  weight Tree.look = 1

  -- how much there is of a list of trees
  pub weights : Trees → ℕ
  weights Trees.none = 0
  weights (Trees.more t ts) = suc (weight t) + weights ts

-- a tree is smaller than a list that has it
pub weight_in : (ts : List WrittenTree) (i : ℕ) (t : WrittenTree) → i < length ts → t ≡ get_or ts i t
    → weight (tree_view t) < weights (trees (map tree_view ts))
weight_in [] i t h e = absurd (omega (arith, h))
weight_in (u ∷ us) zero t h e =
    let same : weight (tree_view t) ≡ weight (tree_view u) = ap (λ z. weight (tree_view z)) e in omega (arith, same)
weight_in (u ∷ us) (suc i) t h e =
    let within : i < length us = omega (arith, h) in
    let below = weight_in us i t within e in omega (arith, below)
