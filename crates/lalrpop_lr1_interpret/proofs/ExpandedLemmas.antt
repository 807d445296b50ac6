-- Expanded trees and lists of them as they are seen: for trees and for stacks of them.
use Rattle.std.proofs.Common.{◌≡◌, ◌∙◌, ◌+◌, ◌<◌, ℕ, zero, suc, List, [], ◌∷◌, ◌++◌}
use Rattle.std.proofs.Common.{length, refl, subst, sym, ap}
use Rattle.std.proofs.Common.{arith, length-append, Some}
use Rattle.std.specs.Borrow.{Bor}
use Rattle.std.proofs.lemmas.List.{length-map, map-append}
use Rattle.lalrpop_grammar_repr.specs.declared.production.Production.{Production}
use Rattle.lalrpop_lr1_theory.proofs.TreeLemmas.{roots-and}
use Rattle.lalrpop_lr1_theory.specs.Spans.{SpannedForest, leaf_at, node_at, none_at, without_spans}
use Rattle.lalrpop_lr1_theory.specs.Trees.{roots}
use Rattle.lalrpop_lr1_core.specs.Views.{production_view}
use Rattle.lalrpop_lr1_interpret.specs.ExpandedViews.{expanded_view, expanded_views, nth_tree}
use Rattle.lalrpop_lr1_interpret.specs.MoveOrders.{HasTreeSizes, IsMoveOrder, node_label, trees_of}
use Rattle.lalrpop_lr1_interpret.specs.Stacks.{◌beside◌}
use Rattle.lalrpop_lr1_interpret.specs.TreeEntries.{tree_entry_view, tree_entry_views, tree_label_view}
use Rattle.lalrpop_lr1_interpret.specs.declared.parse.expanded_tree.ExpandedTree.{ExpandedTree}
use Rattle.lalrpop_lr1_interpret.specs.declared.parse.tree_entry.TreeEntry.{TreeEntry}
use Rattle.lalrpop_lr1_interpret.specs.declared.parse.tree_entry.TreeLabel.TheVariants as labels
use Rattle.lalrpop_lr1_interpret.proofs.MoveOrderLemmas.{joined_sizes, joined_trees, node_order, node_trees}
use Rattle.lalrpop_lr1_interpret.proofs.StackLemmas.{beside-beside, beside-none, without-beside}

-- trees are fewer than with others in front
too_long : (b c d : SpannedForest) → b ≡ c beside d → length (roots (without_spans b)) ≡ length (roots (without_spans d)) →
    0 < length (roots (without_spans c)) → ⊥
too_long b c d e h k =
    let f = ap (λ x. length (roots (without_spans x))) e ∙ ap (λ x. length (roots x)) (without-beside c d)
    ∙ ap length (roots-and (without_spans c) (without_spans d)) ∙ length-append (roots (without_spans c)) (roots (without_spans d)) in
    omega (arith, f, h, k)

-- what is seen of more trees
pub views_more : (ts us : List ExpandedTree) → expanded_views (ts ++ us) ≡ expanded_views ts beside expanded_views us
views_more [] us = refl
views_more (t ∷ ts) us =
    ap (λ f. expanded_view t beside f) (views_more ts us)
    ∙ sym (beside-beside (expanded_view t) (expanded_views ts) (expanded_views us))

-- what is seen of one tree alone
pub views_one : (t : ExpandedTree) → expanded_views (t ∷ []) ≡ expanded_view t
views_one t = beside-none (expanded_view t)

-- as many roots as both have together
pub roots-beside : (ts us : SpannedForest) →
    length (roots (without_spans (ts beside us))) ≡ length (roots (without_spans ts)) + length (roots (without_spans us))
roots-beside ts us =
    ap (λ f. length (roots f)) (without-beside ts us) ∙ ap length (roots-and (without_spans ts) (without_spans us))
    ∙ length-append (roots (without_spans ts)) (roots (without_spans us))

-- trees as they are seen have as many roots as there are trees
pub views_long : (ts : List ExpandedTree) → length (roots (without_spans (expanded_views ts))) ≡ length ts
views_long [] = refl
views_long (t ∷ ts) =
    roots-beside (expanded_view t) (expanded_views ts)
    ∙ omega (arith, t.in_order.1, views_long ts)

-- one tree in front of others is the first of them, and is found there
one_first : (one rest : SpannedForest) → length (roots (without_spans one)) ≡ 1 → nth_tree (one beside rest) 0 ≡ Some one
one_first none_at rest h = absurd (omega (arith, h))
one_first (leaf_at t span none_at) rest h = refl
one_first (leaf_at t span (leaf_at u place ts)) rest h = absurd (omega (arith, h))
one_first (leaf_at t span (node_at p cs ts)) rest h = absurd (omega (arith, h))
one_first (node_at p cs none_at) rest h = refl
one_first (node_at p cs (leaf_at u place ts)) rest h = absurd (omega (arith, h))
one_first (node_at p cs (node_at q ds ts)) rest h = absurd (omega (arith, h))

one_later : (one rest : SpannedForest) (n : ℕ) → length (roots (without_spans one)) ≡ 1 →
    nth_tree (one beside rest) (suc n) ≡ nth_tree rest n
one_later none_at rest n h = absurd (omega (arith, h))
one_later (leaf_at t span none_at) rest n h = refl
one_later (leaf_at t span (leaf_at u place ts)) rest n h = absurd (omega (arith, h))
one_later (leaf_at t span (node_at p cs ts)) rest n h = absurd (omega (arith, h))
one_later (node_at p cs none_at) rest n h = refl
one_later (node_at p cs (leaf_at u place ts)) rest n h = absurd (omega (arith, h))
one_later (node_at p cs (node_at q ds ts)) rest n h = absurd (omega (arith, h))

-- the last of trees beside one another, and those before it
pub last_found : (ts one : SpannedForest) → length (roots (without_spans one)) ≡ 1 →
    nth_tree (ts beside one) (length (roots (without_spans ts))) ≡ Some one
last_found none_at one h = ap (λ f. nth_tree f 0) (sym (beside-none one)) ∙ one_first one none_at h
last_found (leaf_at t span ts) one h = last_found ts one h
last_found (node_at p cs ts) one h = last_found ts one h

pub before_last : (ts one : SpannedForest) (n : ℕ) → length (roots (without_spans one)) ≡ 1 →
    (n ≡ length (roots (without_spans ts)) → ⊥) → nth_tree (ts beside one) n ≡ nth_tree ts n
before_last none_at one zero h k = absurd (k refl)
before_last none_at one (suc n) h k = ap (λ f. nth_tree f (suc n)) (sym (beside-none one)) ∙ one_later one none_at n h
before_last (leaf_at t span ts) one zero h k = refl
before_last (leaf_at t span ts) one (suc n) h k = before_last ts one n h (λ e. k (ap suc e))
before_last (node_at p cs ts) one zero h k = refl
before_last (node_at p cs ts) one (suc n) h k = before_last ts one n h (λ e. k (ap suc e))

-- one tree's entries behind those of others
pub joined_more : (before after : List TreeEntry) (tree : ExpandedTree) (rest seen : SpannedForest) →
    after ≡ before ++ tree.entries.items → HasTreeSizes (tree_entry_views before) →
    trees_of (tree_entry_views before) beside (expanded_view tree beside rest) ≡ seen →
    HasTreeSizes (tree_entry_views after) × (trees_of (tree_entry_views after) beside rest ≡ seen)
joined_more before after tree rest seen a h e =
    let own = tree.entries.items in
    let parts : tree_entry_views after ≡ tree_entry_views before ++ tree_entry_views own = ap tree_entry_views a ∙ map-append tree_entry_view before own in (
      subst HasTreeSizes (sym parts) (joined_sizes (tree_entry_views before) (tree_entry_views own) h tree.in_order.0),
      ap (λ l. trees_of l beside rest) parts
          ∙ ap (λ f. f beside rest) (joined_trees (tree_entry_views before) (tree_entry_views own) h tree.in_order.0)
          ∙ beside-beside (trees_of (tree_entry_views before)) (expanded_view tree) rest
          ∙ e,
    )

-- a node's entry behind those of its children
pub node_order_seen : (es after : List TreeEntry) (last : TreeEntry) (p : Bor Production) → HasTreeSizes (tree_entry_views es) →
    last.label ≡ labels.Node p → last.size ≡ suc (length es) → after ≡ es ++ last ∷ [] →
    IsMoveOrder (tree_entry_views after)
    × (trees_of (tree_entry_views after) ≡ node_at (production_view p.now) (trees_of (tree_entry_views es)) none_at)
node_order_seen es after last p h l n a =
    let q = production_view p.now in
    let size : last.size ≡ suc (length (tree_entry_views es)) = n ∙ ap suc (sym (length-map es tree_entry_view)) in
    let parts : tree_entry_views after ≡ tree_entry_views es ++ record { label = node_label q; size = last.size } ∷ [] =
    ap tree_entry_views a ∙ map-append tree_entry_view es (last ∷ [])
    ∙ ap (λ k. tree_entry_views es ++ record { label = tree_label_view k; size = last.size } ∷ []) l in (
      subst IsMoveOrder (sym parts) (node_order (tree_entry_views es) q last.size h size),
      ap trees_of parts ∙ node_trees (tree_entry_views es) q last.size h size,
    )

-- lists of trees that end with as many trees end with the same
pub same_ends : (a b c d : SpannedForest) → a beside b ≡ c beside d →
    length (roots (without_spans b)) ≡ length (roots (without_spans d)) → (a ≡ c) × (b ≡ d)
same_ends none_at b none_at d e h = (refl, e)
same_ends none_at b (leaf_at t span c) d e h = absurd (too_long b (leaf_at t span c) d e h (omega arith))
same_ends none_at b (node_at p cs c) d e h = absurd (too_long b (node_at p cs c) d e h (omega arith))
same_ends (leaf_at t span a) b none_at d e h = absurd (too_long d (leaf_at t span a) b (sym e) (sym h) (omega arith))
same_ends (node_at p cs a) b none_at d e h = absurd (too_long d (node_at p cs a) b (sym e) (sym h) (omega arith))
same_ends (leaf_at t span a) b (node_at q ds c) d e h = let z : ⊥ = cc in absurd z
same_ends (node_at p cs a) b (leaf_at u place c) d e h = let z : ⊥ = cc in absurd z
same_ends (leaf_at t span a) b (leaf_at u place c) d e h =
    let x : t ≡ u = cc in
    let y : span ≡ place = cc in
    let f : a beside b ≡ c beside d = cc in
    let r = same_ends a b c d f h in
    (ap (λ k. leaf_at k span a) x ∙ ap (λ k. leaf_at u k a) y ∙ ap (leaf_at u place) r.0, r.1)
same_ends (node_at p cs a) b (node_at q ds c) d e h =
    let x : p ≡ q = cc in
    let y : cs ≡ ds = cc in
    let f : a beside b ≡ c beside d = cc in
    let r = same_ends a b c d f h in
    (ap (λ k. node_at k cs a) x ∙ ap (λ k. node_at q k a) y ∙ ap (node_at q ds) r.0, r.1)
