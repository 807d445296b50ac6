-- What the entries of a tree's list say of its moves and leaves, and which roots they leave behind: for the walk over the list.
use Rattle.std.specs.Prelude.{ℕ, suc, List, [], ◌∷◌, ◌≡◌, ◌≤◌, length, map, flat_map, drop}
use Rattle.std.specs.List.{sum_by}
use Rattle.lalrpop_grammar_symbols.specs.Symbols.{TextSpan}
use Rattle.lalrpop_lr1_theory.specs.Productions.{Production, Symbol, nonterminal, terminal}
use Rattle.lalrpop_lr1_theory.specs.Trees.{Move, nodes}
use Rattle.lalrpop_lr1_theory.specs.Spans.{SpannedForest, leaf_at, node_at, none_at, without_spans}
use Rattle.lalrpop_lr1_interpret.specs.MoveOrders.{Entry, EntryLabel, label_move, leaf_label, node_label}

-- the moves of a list
abbrev pub list_moves : List Entry → List Move
list_moves es = map (λ e. label_move e.label) es

-- the span of a leaf
abbrev pub label_spans : EntryLabel → List TextSpan
label_spans (leaf_label t span) = span ∷ []
label_spans (node_label p) = []

-- the spans of a list's leaves
abbrev pub list_spans : List Entry → List TextSpan
list_spans es = flat_map (λ e. label_spans e.label) es

-- the root of a tree: its symbol, and how many entries the tree has
pub record Root : Type 0 where
  pub symbol : Symbol
  pub size : ℕ

-- the root that an entry is
abbrev pub label_root : EntryLabel → ℕ → Root
label_root (leaf_label t span) n = record { symbol = terminal t; size = 1 }
label_root (node_label p) n = record { symbol = nonterminal p.left; size = n }

-- the roots of trees
abbrev pub tree_roots : SpannedForest → List Root
tree_roots none_at = []
tree_roots (leaf_at t span ts) = record { symbol = terminal t; size = 1 } ∷ tree_roots ts
tree_roots (node_at p cs ts) = record { symbol = nonterminal p.left; size = suc (nodes (without_spans cs)) } ∷ tree_roots ts

-- A node comes behind these roots, and all but the first of them are its children's: its production is the grammar's, their
-- symbols are its right side, and their entries with its own are as many as its size says.
pub record IsOverLast (G : Production → Type 0) (rs : List Root) (p : Production) (size kept : ℕ) : Type 0 where
  pub is : G p
  pub within : kept ≤ length rs
  pub symbols : map (λ r. r.symbol) (drop kept rs) ≡ p.right
  pub size_is : size ≡ suc (sum_by (λ r. r.size) (drop kept rs))

-- so many of the roots stay beside the tree of the entry that comes behind them: all of them beside a leaf
abbrev pub IsKeptBeside : (Production → Type 0) → List Root → EntryLabel → ℕ → ℕ → Type 0
IsKeptBeside G rs (leaf_label t span) size kept = kept ≡ length rs
IsKeptBeside G rs (node_label p) size kept = IsOverLast G rs p size kept
