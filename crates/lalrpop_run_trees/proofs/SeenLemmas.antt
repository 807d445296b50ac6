-- The program's written trees as they are seen, one form at a time: for the code that makes them.
use Rattle.std.proofs.Common.{◌≡◌, ℕ, List, [], ◌∷◌, ◌++◌, Some, None, refl, ap, sym, ◌∙◌, arith, length, map}
use Rattle.lalrpop_grammar_symbols.specs.Views.{span_view, symbol_view, terminal_view, without_marks}
use Rattle.lalrpop_grammar_symbols.specs.Symbols.{Text}
use Rattle.lalrpop_grammar_symbols.specs.declared.names.NonterminalString.{NonterminalString}
use Rattle.lalrpop_grammar_symbols.specs.declared.span.Span.{Span}
use Rattle.lalrpop_grammar_symbols.specs.declared.symbol.Symbol.{Symbol}
use Rattle.lalrpop_grammar_symbols.specs.declared.terminal.TerminalString.{TerminalString}
use Rattle.lalrpop_grammar.specs.Trees.{Tree, Trees, trees}
use Rattle.lalrpop_grammar.specs.Views.{tree_step, tree_view}
use Rattle.lalrpop_grammar.specs.Walks.{elements}
use Rattle.lalrpop_grammar.specs.declared.tree.WrittenTree.{WrittenTree, fold-roll-WrittenTree}
use Rattle.lalrpop_grammar.specs.declared.tree.WrittenTree.TheVariants as variant
use Rattle.lalrpop_grammar.specs.declared.tree.WrittenTree.TheOpen as layer
use Rattle.lalrpop_grammar_language.specs.Derivations.{append_tree, join_trees, plus_more_tree}
use Rattle.lalrpop_run_trees.proofs.ChildrenLemmas.{trees_joined}

-- a rule's tree is seen with its name, its arguments without marks, its place, and its children as they are seen
pub of_rule : (n : NonterminalString) (args : List Symbol) (place : ℕ) (cs : List WrittenTree) →
    tree_view (variant.Rule n args place cs)
    ≡ Tree.rule n.0 (map (λ s. without_marks (symbol_view s)) args) place (trees (map tree_view cs))
of_rule n args place cs =
    ap tree_view (sym (variant.rolls-Rule n args place cs)) ∙ fold-roll-WrittenTree Tree tree_step (layer.Rule n args place cs)

-- a list is seen as the list of its trees as they are seen
pub of_list : (cs : List WrittenTree) → tree_view (variant.List cs) ≡ Tree.list (trees (map tree_view cs))
of_list cs = ap tree_view (sym (variant.rolls-List cs)) ∙ fold-roll-WrittenTree Tree tree_step (layer.List cs)

-- a group is seen as the group of its trees as they are seen
pub of_group : (cs : List WrittenTree) → tree_view (variant.Group cs) ≡ Tree.group (trees (map tree_view cs))
of_group cs = ap tree_view (sym (variant.rolls-Group cs)) ∙ fold-roll-WrittenTree Tree tree_step (layer.Group cs)

-- an option with a tree is seen as one, with its tree as it is seen
pub of_some : (t : WrittenTree) → tree_view (variant.Opt (Some t)) ≡ Tree.opt_some (tree_view t)
of_some t = ap tree_view (sym (variant.rolls-Opt (Some t))) ∙ fold-roll-WrittenTree Tree tree_step (layer.Opt (Some t))

pub of_none : tree_view (variant.Opt None) ≡ Tree.opt_none
of_none = ap tree_view (sym (variant.rolls-Opt None)) ∙ fold-roll-WrittenTree Tree tree_step (layer.Opt None)

pub of_terminal : (t : TerminalString) (text : Text) (span : Span) → tree_view (variant.Terminal t text span)
    ≡ Tree.terminal (record { terminal = terminal_view t; text = text; span = span_view span })
of_terminal t text span =
    ap tree_view (sym (variant.rolls-Terminal t text span)) ∙ fold-roll-WrittenTree Tree tree_step (layer.Terminal t text span)

pub of_look : tree_view variant.Look ≡ Tree.look
of_look = ap tree_view (sym variant.rolls-Look) ∙ fold-roll-WrittenTree Tree tree_step layer.Look

-- with one written tree more, one tree more is seen, at the end
pub viewed_more : (ts : List WrittenTree) (t : WrittenTree) → map tree_view (ts ++ t ∷ []) ≡ map tree_view ts ++ tree_view t ∷ []
viewed_more [] t = refl
viewed_more (u ∷ ts) t = ap (λ l. tree_view u ∷ l) (viewed_more ts t)

append_elements : (v u : Tree) (ts : Trees) → Some ts ≡ elements v →
    Tree.list (join_trees ts (Trees.more u Trees.none)) ≡ append_tree v u
append_elements (Tree.list us) u ts e = let same : ts ≡ us = cc in ap (λ l. Tree.list (join_trees l (Trees.more u Trees.none))) same
append_elements (Tree.rule n args place us) u ts e = let no : ⊥ = cc in absurd no
append_elements Tree.opt_none u ts e = let no : ⊥ = cc in absurd no
append_elements (Tree.opt_some t) u ts e = let no : ⊥ = cc in absurd no
append_elements (Tree.group us) u ts e = let no : ⊥ = cc in absurd no
append_elements (Tree.terminal token) u ts e = let no : ⊥ = cc in absurd no
append_elements Tree.look u ts e = let no : ⊥ = cc in absurd no

append_none : (v u : Tree) → None ≡ elements v → Tree.opt_none ≡ append_tree v u
append_none (Tree.list us) u e = let no : ⊥ = cc in absurd no
append_none (Tree.rule n args place us) u e = refl
append_none Tree.opt_none u e = refl
append_none (Tree.opt_some t) u e = refl
append_none (Tree.group us) u e = refl
append_none (Tree.terminal token) u e = refl
append_none Tree.look u e = refl

-- the list with one more element
pub of_longer : (l : WrittenTree) (ts : List WrittenTree) (t : WrittenTree) →
    Some (trees (map tree_view ts)) ≡ elements (tree_view l) →
    tree_view (variant.List (ts ++ t ∷ [])) ≡ append_tree (tree_view l) (tree_view t)
of_longer l ts t e =
    of_list (ts ++ t ∷ []) ∙ ap Tree.list (ap trees (viewed_more ts t) ∙ trees_joined (map tree_view ts) (tree_view t))
    ∙ append_elements (tree_view l) (tree_view t) (trees (map tree_view ts)) e

-- what is no list has no longer one
pub of_no_list : (l : WrittenTree) (u : Tree) → None ≡ elements (tree_view l) →
    tree_view (variant.Opt None) ≡ append_tree (tree_view l) u
of_no_list l u e = of_none ∙ append_none (tree_view l) u e

-- the first two of some trees
pub of_two : (l t : WrittenTree) (rest : List WrittenTree) (ts : List WrittenTree) → ts ≡ l ∷ t ∷ rest →
    append_tree (tree_view l) (tree_view t) ≡ plus_more_tree (trees (map tree_view ts))
of_two l t rest ts e = ap (λ us. plus_more_tree (trees (map tree_view us))) (sym e)

-- where there is just one tree, there is no list with one more: it is seen as an option without a tree
pub of_one : (l : WrittenTree) (ts : List WrittenTree) → ts ≡ l ∷ [] →
    tree_view (variant.Opt None) ≡ plus_more_tree (trees (map tree_view ts))
of_one l ts e = of_none ∙ ap (λ us. plus_more_tree (trees (map tree_view us))) (sym e)

-- where there are no trees, there is no list with one more: it is seen as an option without a tree
pub of_nothing : (ts : List WrittenTree) → ts ≡ [] → tree_view (variant.Opt None) ≡ plus_more_tree (trees (map tree_view ts))
of_nothing ts e = of_none ∙ ap (λ us. plus_more_tree (trees (map tree_view us))) (sym e)

-- a list by its length
pub no_item : (ts : List WrittenTree) → length ts ≡ 0 → ts ≡ []
no_item [] e = refl
no_item (t ∷ ts) e = absurd (omega (arith, e))

-- a list of length one that begins with a tree is that tree alone
pub one_item : (ts : List WrittenTree) (t : WrittenTree) (rest : List WrittenTree) → ts ≡ t ∷ rest →
    length ts ≡ 1 → ts ≡ t ∷ []
one_item ts t rest e h = e ∙ ap (λ us. t ∷ us) (no_item rest (omega (arith, ap length e, h)))
