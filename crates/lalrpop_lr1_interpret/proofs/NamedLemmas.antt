-- Parse trees and lists of them as they are seen: for parse trees, and for whoever makes lists of them.
use Rattle.std.proofs.Common.{◌≡◌, ◌∙◌, ◌+◌, ◌<◌, ℕ, suc, List, [], ◌∷◌}
use Rattle.std.proofs.Common.{◌++◌, length, take, refl, sym, ap}
use Rattle.std.proofs.Common.{arith, length-append, append_assoc, get_or}
use Rattle.std.proofs.lemmas.List.{take_more}
use Rattle.lalrpop_grammar_symbols.specs.Views.{terminal_view}
use Rattle.lalrpop_grammar_symbols.specs.declared.names.NonterminalString.{NonterminalString}
use Rattle.lalrpop_grammar_symbols.specs.declared.terminal.TerminalString.{TerminalString}
use Rattle.lalrpop_lr1_theory.specs.Trees.{Forest, leaf, node, none, roots, ◌and◌}
use Rattle.lalrpop_lr1_interpret.specs.NamedTrees.{NamedForest, name_forest, named_leaf, named_leaves, named_node, no_trees}
use Rattle.lalrpop_lr1_interpret.specs.NamedTrees.{parse_tree_before, parse_tree_step, parse_tree_view, parse_tree_views}
use Rattle.lalrpop_lr1_interpret.specs.declared.parse_trees.parse_tree.ParseTree.{ParseTree}
use Rattle.lalrpop_lr1_interpret.specs.declared.parse_trees.parse_tree.ParseTree.TheOpen as layer
use Rattle.lalrpop_lr1_interpret.specs.declared.parse_trees.parse_tree.ParseTree.TheFolds.{fold-roll-ParseTree, fold_out-ParseTree}
use Rattle.lalrpop_lr1_interpret.specs.declared.parse_trees.parse_tree.ParseTree.TheVariants.{Nonterminal, Terminal, rolls-Nonterminal}
use Rattle.lalrpop_lr1_interpret.specs.declared.parse_trees.parse_tree.ParseTree.TheVariants.{rolls-Terminal}

infixr 60 ◌along◌
-- the trees of one list, then those of the other
abbrev pub ◌along◌ : NamedForest → NamedForest → NamedForest
no_trees along us = us
(named_leaf t ts) along us = named_leaf t (ts along us)
(named_node n cs ts) along us = named_node n cs (ts along us)

-- how many trees a list has
abbrev pub named_count : NamedForest → ℕ
named_count no_trees = 0
named_count (named_leaf t ts) = suc (named_count ts)
named_count (named_node n cs ts) = suc (named_count ts)

-- named trees of two forests in a row are those of the first, then those of the second
pub name_forest-and : (ts us : Forest) → name_forest (ts and us) ≡ name_forest ts along name_forest us
name_forest-and none us = refl
name_forest-and (leaf t ts) us = ap (named_leaf t) (name_forest-and ts us)
name_forest-and (node p cs ts) us = ap (named_node p.left (name_forest cs)) (name_forest-and ts us)

-- a forest has as many named trees as it has roots
pub named_long : (ts : Forest) → named_count (name_forest ts) ≡ length (roots ts)
named_long none = refl
named_long (leaf t ts) = ap suc (named_long ts)
named_long (node p cs ts) = ap suc (named_long ts)

count-along : (ts us : NamedForest) → named_count (ts along us) ≡ named_count ts + named_count us
count-along no_trees us = omega arith
count-along (named_leaf t ts) us = omega (arith, count-along ts us)
count-along (named_node n cs ts) us = omega (arith, count-along ts us)

leaves-along : (ts us : NamedForest) → named_leaves (ts along us) ≡ named_leaves ts ++ named_leaves us
leaves-along no_trees us = refl
leaves-along (named_leaf t ts) us = ap (λ l. t ∷ l) (leaves-along ts us)
leaves-along (named_node n cs ts) us =
    ap (λ l. named_leaves cs ++ l) (leaves-along ts us) ∙ sym (append_assoc (named_leaves cs) (named_leaves ts) (named_leaves us))

step-along : (x : layer.ParseTree-F (NamedForest → NamedForest)) (us vs : NamedForest) →
    parse_tree_step x (us along vs) ≡ parse_tree_step x us along vs
step-along (layer.Nonterminal n trees) us vs = refl
step-along (layer.Terminal t) us vs = refl

pub before-along : (t : ParseTree) (us vs : NamedForest) → parse_tree_before t (us along vs) ≡ parse_tree_before t us along vs
before-along t us vs =
    let e = fold_out-ParseTree (NamedForest → NamedForest) parse_tree_step t in
    ap (λ f. f (us along vs)) e ∙ step-along _ us vs ∙ ap (λ f. f us along vs) (sym e)

-- parse trees of two lists in a row are seen as those of the first, then those of the second
pub named_views_more : (ts us : List ParseTree) → parse_tree_views (ts ++ us) ≡ parse_tree_views ts along parse_tree_views us
named_views_more [] us = refl
named_views_more (t ∷ ts) us = ap (parse_tree_before t) (named_views_more ts us)
    ∙ before-along t (parse_tree_views ts) (parse_tree_views us)

step_long : (x : layer.ParseTree-F (NamedForest → NamedForest)) (us : NamedForest) →
    named_count (parse_tree_step x us) ≡ suc (named_count us)
step_long (layer.Nonterminal n trees) us = refl
step_long (layer.Terminal t) us = refl

-- parse trees are seen as as many trees as there are
pub named_views_long : (ts : List ParseTree) → named_count (parse_tree_views ts) ≡ length ts
named_views_long [] = refl
named_views_long (t ∷ ts) =
    ap (λ f. named_count (f (parse_tree_views ts))) (fold_out-ParseTree (NamedForest → NamedForest) parse_tree_step t)
    ∙ step_long _ (parse_tree_views ts) ∙ ap suc (named_views_long ts)

named_too_long : (b c d : NamedForest) → b ≡ c along d → named_count b ≡ named_count d → 0 < named_count c → ⊥
named_too_long b c d e h k = omega (arith, ap named_count e, count-along c d, h, k)

-- lists of trees that end with as many trees end with the same
pub same_named_ends : (a b c d : NamedForest) → a along b ≡ c along d → named_count b ≡ named_count d → (a ≡ c) × (b ≡ d)
same_named_ends no_trees b no_trees d e h = (refl, e)
same_named_ends no_trees b (named_leaf t c) d e h = absurd (named_too_long b (named_leaf t c) d e h (omega arith))
same_named_ends no_trees b (named_node n cs c) d e h = absurd (named_too_long b (named_node n cs c) d e h (omega arith))
same_named_ends (named_leaf t a) b no_trees d e h = absurd (named_too_long d (named_leaf t a) b (sym e) (sym h) (omega arith))
same_named_ends (named_node n cs a) b no_trees d e h = absurd (named_too_long d (named_node n cs a) b (sym e) (sym h) (omega arith))
same_named_ends (named_leaf t a) b (named_node m ds c) d e h = let z : ⊥ = cc in absurd z
same_named_ends (named_node n cs a) b (named_leaf u c) d e h = let z : ⊥ = cc in absurd z
same_named_ends (named_leaf t a) b (named_leaf u c) d e h =
    let x : t ≡ u = cc in
    let f : a along b ≡ c along d = cc in
    let r = same_named_ends a b c d f h in
    (ap (λ k. named_leaf k a) x ∙ ap (named_leaf u) r.0, r.1)
same_named_ends (named_node n cs a) b (named_node m ds c) d e h =
    let x : n ≡ m = cc in
    let y : cs ≡ ds = cc in
    let f : a along b ≡ c along d = cc in
    let r = same_named_ends a b c d f h in
    (ap (λ k. named_node k cs a) x ∙ ap (λ k. named_node m k a) y ∙ ap (named_node m ds) r.0, r.1)

-- the only tree of a stack
pub only_named : (ts rest : List ParseTree) (tree : ParseTree) (seen : Forest) → parse_tree_views ts ≡ name_forest seen →
    length (roots seen) ≡ 1 → ts ≡ rest ++ tree ∷ [] → parse_tree_view tree ≡ name_forest seen
only_named ts [] tree seen e one a = sym (ap parse_tree_views a) ∙ e
only_named ts (x ∷ rest) tree seen e one a =
    absurd (omega (arith, named_views_long ts, ap named_count e, named_long seen, one, ap length a, length-append rest (tree ∷ [])))

-- the leaves of one tree more
pub leaves_more : (ts : List ParseTree) (i : ℕ) (t : ParseTree) → i < length ts → t ≡ get_or ts i t →
    named_leaves (parse_tree_views (take (i + 1) ts)) ≡ named_leaves (parse_tree_views (take i ts)) ++ named_leaves (parse_tree_view t)
leaves_more ts i t h read =
    let more : take (i + 1) ts ≡ take i ts ++ t ∷ [] = take_more ts i t h ∙ ap (λ y. take i ts ++ y ∷ []) (sym read) in
    ap (λ l. named_leaves (parse_tree_views l)) more ∙ ap named_leaves (named_views_more (take i ts) (t ∷ []))
    ∙ leaves-along (parse_tree_views (take i ts)) (parse_tree_view t)

-- a leaf, and a node
pub terminal_seen : (t : TerminalString) → parse_tree_view (Terminal t) ≡ named_leaf (terminal_view t) no_trees
terminal_seen t =
    ap (λ x. parse_tree_before x no_trees) (sym (rolls-Terminal t))
    ∙ ap (λ f. f no_trees) (fold-roll-ParseTree (NamedForest → NamedForest) parse_tree_step (layer.Terminal t))

-- a parse tree of a nonterminal is seen as a node with its name over the trees below it
pub nonterminal_seen : (n : NonterminalString) (trees : List ParseTree) →
    parse_tree_view (Nonterminal n trees) ≡ named_node n.0 (parse_tree_views trees) no_trees
nonterminal_seen n trees =
    ap (λ x. parse_tree_before x no_trees) (sym (rolls-Nonterminal n trees))
    ∙ ap (λ f. f no_trees) (fold-roll-ParseTree (NamedForest → NamedForest) parse_tree_step (layer.Nonterminal n trees))
