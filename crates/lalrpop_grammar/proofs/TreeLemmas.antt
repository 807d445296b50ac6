-- What definitions see of a tree that is known to be of one variant: for functions that match on trees in other crates.
use Rattle.std.proofs.Common.{◌≡◌, ℕ, List, sym, ap, ◌∙◌, map}
use Rattle.lalrpop_grammar_symbols.specs.declared.names.NonterminalString.{NonterminalString}
use Rattle.lalrpop_grammar_symbols.specs.declared.symbol.Symbol.{Symbol}
use Rattle.lalrpop_grammar_symbols.specs.Views.{symbol_view, without_marks}
use Rattle.lalrpop_grammar.specs.declared.tree.WrittenTree.{WrittenTree, fold-roll-WrittenTree}
use Rattle.lalrpop_grammar.specs.declared.tree.WrittenTree.TheVariants as variant
use Rattle.lalrpop_grammar.specs.declared.tree.WrittenTree.TheOpen as layer
use Rattle.lalrpop_grammar.specs.Trees.{Tree, trees}
use Rattle.lalrpop_grammar.specs.Views.{tree_view, tree_step}

-- the program's node of a rule is seen as a node
pub seen-Rule : (t : WrittenTree) (n : NonterminalString) (args : List Symbol) (place : ℕ) (ts : List WrittenTree)
    → t ≡ variant.Rule n args place ts
    → tree_view t ≡ Tree.rule n.0 (map (λ s. without_marks (symbol_view s)) args) place (trees (map tree_view ts))
seen-Rule t n args place ts e =
    ap tree_view (e ∙ sym (variant.rolls-Rule n args place ts)) ∙ fold-roll-WrittenTree Tree tree_step (layer.Rule n args place ts)

-- the program's list of trees is seen as a list
pub seen-List : (t : WrittenTree) (ts : List WrittenTree) → t ≡ variant.List ts → tree_view t ≡ Tree.list (trees (map tree_view ts))
seen-List t ts e = ap tree_view (e ∙ sym (variant.rolls-List ts)) ∙ fold-roll-WrittenTree Tree tree_step (layer.List ts)

-- the program's group of trees is seen as a group
pub seen-Group : (t : WrittenTree) (ts : List WrittenTree) → t ≡ variant.Group ts
    → tree_view t ≡ Tree.group (trees (map tree_view ts))
seen-Group t ts e = ap tree_view (e ∙ sym (variant.rolls-Group ts)) ∙ fold-roll-WrittenTree Tree tree_step (layer.Group ts)
