-- The program's trees as they are seen, one form at a time: for the leaves and the walk.
use Rattle.std.proofs.Common.{◌≡◌, ℕ, List, Option, Some, ap, sym, ◌∙◌, map}
use Rattle.lalrpop_grammar_symbols.specs.Views.{symbol_view, without_marks}
use Rattle.lalrpop_grammar_symbols.specs.declared.names.NonterminalString.{NonterminalString}
use Rattle.lalrpop_grammar_symbols.specs.declared.symbol.Symbol.{Symbol}
use Rattle.lalrpop_grammar.specs.Trees.{Tree, trees}
use Rattle.lalrpop_grammar.specs.Views.{tree_view, tree_step}
use Rattle.lalrpop_grammar.specs.declared.tree.WrittenTree.{WrittenTree, fold-roll-WrittenTree}
use Rattle.lalrpop_grammar.specs.declared.tree.WrittenTree.TheVariants as variant
use Rattle.lalrpop_grammar.specs.declared.tree.WrittenTree.TheOpen as layer

-- the program's node of a rule is seen as a node
pub seen-Rule : (t : WrittenTree) (n : NonterminalString) (args : List Symbol) (place : ℕ) (cs : List WrittenTree)
    → t ≡ variant.Rule n args place cs
    → tree_view t ≡ Tree.rule n.0 (map (λ s. without_marks (symbol_view s)) args) place (trees (map tree_view cs))
seen-Rule t n args place cs e =
    ap tree_view (e ∙ sym (variant.rolls-Rule n args place cs)) ∙ fold-roll-WrittenTree Tree tree_step (layer.Rule n args place cs)

-- the program's list of trees is seen as a list
pub seen-List : (t : WrittenTree) (cs : List WrittenTree) → t ≡ variant.List cs → tree_view t ≡ Tree.list (trees (map tree_view cs))
seen-List t cs e = ap tree_view (e ∙ sym (variant.rolls-List cs)) ∙ fold-roll-WrittenTree Tree tree_step (layer.List cs)

-- the program's group of trees is seen as a group
pub seen-Group : (t : WrittenTree) (cs : List WrittenTree) → t ≡ variant.Group cs
    → tree_view t ≡ Tree.group (trees (map tree_view cs))
seen-Group t cs e = ap tree_view (e ∙ sym (variant.rolls-Group cs)) ∙ fold-roll-WrittenTree Tree tree_step (layer.Group cs)

-- the program's option that holds a tree is seen as one that holds it
pub seen-Opt : (t : WrittenTree) (o : Option WrittenTree) (u : WrittenTree) → t ≡ variant.Opt o → o ≡ Some u
    → tree_view t ≡ Tree.opt_some (tree_view u)
seen-Opt t o u e f = ap tree_view (e ∙ ap (λ q. variant.Opt q) f ∙ sym (variant.rolls-Opt (Some u)))
    ∙ fold-roll-WrittenTree Tree tree_step (layer.Opt (Some u))
