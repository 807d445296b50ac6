-- How many nodes are left of a written tree that is taken apart. For its drop.
use Rattle.std.proofs.Common.{◌≡◌, ℕ, suc, ◌+◌, ◌≤◌, List, [], ◌∷◌, ap, ◌∙◌, refl, arith, map}
use Rattle.std.proofs.Common.{Option, Some, None, Vec, Global}
use Rattle.lalrpop_grammar_symbols.specs.declared.names.NonterminalString.{NonterminalString}
use Rattle.lalrpop_grammar_symbols.specs.declared.symbol.Symbol.{Symbol}
use Rattle.lalrpop_grammar.specs.declared.tree.WrittenTree.{WrittenTree}
use Rattle.lalrpop_grammar.specs.declared.tree.WrittenTree.TheVariants as variant
use Rattle.lalrpop_grammar.specs.Trees.{Tree, Trees, trees}
use Rattle.lalrpop_grammar.specs.Views.{tree_view}
use Rattle.lalrpop_grammar.proofs.TakingApartLemmas.{total}
use Rattle.lalrpop_grammar.proofs.TreeLemmas.{seen-Rule, seen-List, seen-Group}

-- how many nodes a tree has
abbrev mutual
  nodes : Tree → ℕ
  nodes (Tree.rule n args place ts) = suc (nodes_of ts)
  nodes (Tree.list ts) = suc (nodes_of ts)
  nodes Tree.opt_none = 1
  nodes (Tree.opt_some t) = suc (nodes t)
  nodes (Tree.group ts) = suc (nodes_of ts)
  nodes (Tree.terminal token) = 1
  nodes Tree.look = 1

  nodes_of : Trees → ℕ
  nodes_of Trees.none = 0
  nodes_of (Trees.more t ts) = nodes t + nodes_of ts

-- the nodes of a tree, itself among them
abbrev pub count : WrittenTree → ℕ
count t = nodes (tree_view t)

-- the nodes of the children that were taken out of a tree, if any were
abbrev pub count_kept : Option (Vec WrittenTree Global) → ℕ
count_kept None = 0
count_kept (Some v) = total count v.items

count_all : (ts : List WrittenTree) → nodes_of (trees (map tree_view ts)) ≡ total count ts
count_all [] = refl
count_all (t ∷ ts) = ap (λ n. count t + n) (count_all ts)

-- a tree has a node
has_node : (t : Tree) → 1 ≤ nodes t
has_node (Tree.rule n args place ts) = omega arith
has_node (Tree.list ts) = omega arith
has_node Tree.opt_none = omega arith
has_node (Tree.opt_some t) = omega arith
has_node (Tree.group ts) = omega arith
has_node (Tree.terminal token) = omega arith
has_node Tree.look = omega arith

-- what is below a tree's root has fewer nodes than the tree
abbrev pub IsBelow : Option (Vec WrittenTree Global) → WrittenTree → Type 0
IsBelow below t = suc (count_kept below) ≤ count t

-- where no children were taken out, nothing is below a tree
pub below-none : (below : Option (Vec WrittenTree Global)) (t : WrittenTree) → below ≡ None → IsBelow below t
below-none None t is = has_node (tree_view t)
below-none (Some v) t is = let same = ap count_kept is in let some = has_node (tree_view t) in omega (arith, same, some)

-- children that were taken out have one node less than their tree
pub below-some : (below : Option (Vec WrittenTree Global)) (v : Vec WrittenTree Global) (ts : List WrittenTree) (t : WrittenTree)
    → below ≡ Some v → v.items ≡ ts → count t ≡ suc (total count ts) → IsBelow below t
below-some below v ts t is items whole =
    let same = ap count_kept is in
    let all = ap (total count) items in
    omega (arith, same, all, whole)

-- a rule has one node more than its children
pub count-Rule : (t : WrittenTree) (n : NonterminalString) (args : List Symbol) (place : ℕ) (ts : List WrittenTree)
    → t ≡ variant.Rule n args place ts → count t ≡ suc (total count ts)
count-Rule t n args place ts e = ap nodes (seen-Rule t n args place ts e) ∙ ap suc (count_all ts)

-- a list has one node more than its elements
pub count-List : (t : WrittenTree) (ts : List WrittenTree) → t ≡ variant.List ts → count t ≡ suc (total count ts)
count-List t ts e = ap nodes (seen-List t ts e) ∙ ap suc (count_all ts)

-- a group has one node more than its elements
pub count-Group : (t : WrittenTree) (ts : List WrittenTree) → t ≡ variant.Group ts → count t ≡ suc (total count ts)
count-Group t ts e = ap nodes (seen-Group t ts e) ∙ ap suc (count_all ts)
