-- Spans of leaves that are numbered, and moves that lead to trees: for making trees.
use Rattle.std.specs.Prelude.{ℕ, zero, suc, ◌+◌, List, [], ◌∷◌, length, ◌≡◌}
use Rattle.lalrpop_grammar_symbols.specs.Symbols.{TextSpan}
use Rattle.lalrpop_lr1_theory.specs.Productions.{Production}
use Rattle.lalrpop_lr1_theory.specs.Spans.{SpannedForest, leaf_at, leaf_spans, node_at, none_at, without_spans}
use Rattle.lalrpop_lr1_theory.specs.Trees.{Forest, LeadsByNode, Move, MovesLead, none, reduce, roots, shift}
use Rattle.lalrpop_lr1_interpret.specs.Stacks.{◌beside◌}

-- so many spans from a number on: n..n+1, n+1..n+2, and so on
abbrev pub numbered_spans : ℕ → ℕ → List TextSpan
numbered_spans n zero = []
numbered_spans n (suc k) = (n, n + 1) ∷ numbered_spans (suc n) k

-- the leaves are numbered from a number on
abbrev pub AreNumberedFrom : ℕ → SpannedForest → Type 0
AreNumberedFrom n ts = leaf_spans ts ≡ numbered_spans n (length (leaf_spans ts))

-- the moves build some trees
pub record LeadSomewhere (moves : List Move) : Type 0 where
  pub trees : Forest
  pub lead : MovesLead moves none trees

-- they build one tree
pub record LeadToOne (moves : List Move) : Type 0 where
  pub tree : Forest
  pub lead : MovesLead moves none tree
  pub one : length (roots tree) ≡ 1

-- a move can be made: for a reduction, the last trees have the roots that its production names
abbrev pub CanMove : Move → Forest → Type 0
CanMove (shift t) f = Unit {0}
CanMove (reduce p) f = LeadsByNode p (λ h. Unit {0}) f

-- a node was put over the last trees
abbrev pub PutsNode : Production → SpannedForest → SpannedForest → Type 0
PutsNode p old new = (kept children : SpannedForest) → old ≡ kept beside children → roots (without_spans children) ≡ p.right →
    new ≡ kept beside node_at p children none_at

-- A move was made: a leaf got the number, and the next one is the following; or a node was put over the last trees.
abbrev pub IsMoved : Move → ℕ → SpannedForest → ℕ → SpannedForest → Type 0
IsMoved (shift t) number old next new = (next ≡ number + 1) × (new ≡ old beside leaf_at t (number, number + 1) none_at)
IsMoved (reduce p) number old next new = (next ≡ number) × PutsNode p old new

-- Some moves were made, from a number on: the others lead on to where all of them lead, and the leaves are numbered.
pub record AreMaking (moves left : List Move) (from number : ℕ) (trees : SpannedForest) : Type 0 where
  pub lead : (g : Forest) → MovesLead moves none g → MovesLead left (without_spans trees) g
  pub spans : AreNumberedFrom from trees
  pub next : number ≡ from + length (leaf_spans trees)

-- the trees are those that the moves build, and the leaves are numbered
pub record AreMade (moves : List Move) (from : ℕ) (trees : SpannedForest) : Type 0 where
  pub trees_are : (g : Forest) → MovesLead moves none g → without_spans trees ≡ g
  pub spans : AreNumberedFrom from trees
