-- Trees over productions to which written trees are folded, and how often a tree is passed down to them as it is.
use Rattle.std.specs.Prelude.{◌≡◌, ◌<◌, ◌≤◌, ℕ, true, false, List, [], ◌∷◌}
use Rattle.lalrpop_grammar.specs.Trees.{Tree}
use Rattle.lalrpop_lr1_theory.specs.Productions.{Production, Symbol}
use Rattle.lalrpop_lr1_theory.specs.Spans.{SpannedForest, leaf_at, node_at, none_at, without_spans}
use Rattle.lalrpop_lr1_theory.specs.Trees.{AreOver, roots}
use Rattle.lalrpop_run_trees.specs.ActionLabels.{ChoiceLabel}
use Rattle.lalrpop_run_trees.specs.KeptTrees.{AreTreesOf}
use Rattle.lalrpop_run_trees.specs.declared.tree_parts.tree_part.TreePart.{TreePart}
use Rattle.lalrpop_run_parser.specs.PassingRanks.{label_rank}

-- Trees over productions, one for each symbol, whose written trees are these.
pub record AreFoldedTo (G : Production → Type 0) (label_of : ℕ → ChoiceLabel) (side : List Symbol) (us : List Tree)
    (ts : SpannedForest) : Type 0 where
  pub roots_are : roots (without_spans ts) ≡ side
  pub are_over : AreOver G (without_spans ts)
  pub are_of : AreTreesOf label_of ts us

-- the rank of the first tree is at most this
abbrev pub IsRankedWithin : (ℕ → ChoiceLabel) → ℕ → SpannedForest → Type 0
IsRankedWithin label_of most none_at = Unit {0}
IsRankedWithin label_of most (leaf_at t span ts) = Unit {0}
IsRankedWithin label_of most (node_at p cs ts) = label_rank (label_of p.action) ≤ most

-- each tree that is of the whole part is a node, and its rank is less
abbrev pub AreRankedUnder : (ℕ → ChoiceLabel) → ℕ → List TreePart → SpannedForest → Type 0
AreRankedUnder label_of rank qs none_at = Unit {0}
AreRankedUnder label_of rank [] (leaf_at t span ts) = Unit {0}
AreRankedUnder label_of rank [] (node_at p cs ts) = Unit {0}
AreRankedUnder label_of rank (q ∷ qs) (leaf_at t span ts) = (q.is_inside ≡ true) × AreRankedUnder label_of rank qs ts
AreRankedUnder label_of rank (q ∷ qs) (node_at p cs ts) =
    (q.is_inside ≡ false → label_rank (label_of p.action) < rank) × AreRankedUnder label_of rank qs ts
