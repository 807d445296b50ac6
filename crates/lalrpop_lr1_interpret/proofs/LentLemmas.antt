-- The last tree of a list, its root and its children: for trees that are lent.
use Rattle.std.proofs.Common.{◌≡◌, ◌∙◌, ◌+◌, ◌-◌, ◌<◌, ◌≤◌, ℕ, suc, List, [], ◌∷◌, ◌++◌, Some}
use Rattle.std.proofs.Common.{length, take, drop, refl, sym, ap, subst, arith, length-append, append_assoc}
use Rattle.std.proofs.Common.{get_or}
use Rattle.std.proofs.Math.ListN.{get_or-map}
use Rattle.std.proofs.Math.Seq.{drop-append_seam, take-append_seam}
use Rattle.std.proofs.lemmas.List.{drop-map, get_or_push, length-map, take-map, take_all, take_more}
use Rattle.lalrpop_lr1_theory.specs.Trees.{nodes, roots}
use Rattle.lalrpop_lr1_theory.specs.Spans.{SpannedForest, leaf_at, node_at, none_at, without_spans}
use Rattle.lalrpop_lr1_interpret.specs.ExpandedViews.{root_children, root_label}
use Rattle.lalrpop_lr1_interpret.specs.MoveOrders.{Entry, HasTreeSizes, IsMoveOrder, tree_entries, leaf_label, node_label, trees_of}
use Rattle.lalrpop_lr1_interpret.specs.Stacks.{◌beside◌}
use Rattle.lalrpop_lr1_interpret.specs.TreeEntries.{tree_entry_view, tree_entry_views, tree_label_view}
use Rattle.lalrpop_lr1_interpret.specs.declared.parse.tree_entry.TreeEntry.{TreeEntry}
use Rattle.lalrpop_lr1_interpret.proofs.ExpandedLemmas.{roots-beside}
use Rattle.lalrpop_lr1_interpret.proofs.MoveOrderLemmas.{count_of_list, entries-beside, entries-long, entries_of_trees, has_sizes, trees_are}

-- trees as those before the last one, and the last one
pub record HasLastTree (ts : SpannedForest) : Type 0 where
  pub before : SpannedForest
  pub tree : SpannedForest
  pub parts : ts ≡ before beside tree
  pub one : length (roots (without_spans tree)) ≡ 1

pub last_tree : (ts : SpannedForest) → 0 < nodes (without_spans ts) → HasLastTree ts
last_tree none_at h = absurd (omega (arith, h))
last_tree (leaf_at t span none_at) h = record { before = none_at; tree = leaf_at t span none_at; parts = refl; one = refl }
last_tree (leaf_at t span (leaf_at u place ts)) h =
    let r = last_tree (leaf_at u place ts) (omega arith) in
    record { before = leaf_at t span r.before; tree = r.tree; parts = ap (leaf_at t span) r.parts; one = r.one }
last_tree (leaf_at t span (node_at q ds ts)) h =
    let r = last_tree (node_at q ds ts) (omega arith) in
    record { before = leaf_at t span r.before; tree = r.tree; parts = ap (leaf_at t span) r.parts; one = r.one }
last_tree (node_at p cs none_at) h = record { before = none_at; tree = node_at p cs none_at; parts = refl; one = refl }
last_tree (node_at p cs (leaf_at u place ts)) h =
    let r = last_tree (leaf_at u place ts) (omega arith) in
    record { before = node_at p cs r.before; tree = r.tree; parts = ap (node_at p cs) r.parts; one = r.one }
last_tree (node_at p cs (node_at q ds ts)) h =
    let r = last_tree (node_at q ds ts) (omega arith) in
    record { before = node_at p cs r.before; tree = r.tree; parts = ap (node_at p cs) r.parts; one = r.one }

-- the list of one tree: that of its children, then its root
pub record HasRootEntry (ts : SpannedForest) : Type 0 where
  pub root : Entry
  pub list : tree_entries ts ≡ tree_entries (root_children ts) ++ root ∷ []
  pub label : root_label ts ≡ Some root.label
  pub size : root.size ≡ nodes (without_spans ts)

pub root_entry : (ts : SpannedForest) → length (roots (without_spans ts)) ≡ 1 → HasRootEntry ts
root_entry none_at h = absurd (omega (arith, h))
root_entry (leaf_at t span none_at) h =
    record { root = record { label = leaf_label t span; size = 1 }; list = refl; label = refl; size = refl }
root_entry (leaf_at t span (leaf_at u place ts)) h = absurd (omega (arith, h))
root_entry (leaf_at t span (node_at p cs ts)) h = absurd (omega (arith, h))
root_entry (node_at p cs none_at) h = record {
  root = record { label = node_label p; size = suc (nodes (without_spans cs)) };
  list = refl;
  label = refl;
  size = omega arith;
}
root_entry (node_at p cs (leaf_at u place ts)) h = absurd (omega (arith, h))
root_entry (node_at p cs (node_at q ds ts)) h = absurd (omega (arith, h))

-- a list of one tree at least, parted before its last tree
pub record HasLastList (es : List Entry) (last : Entry) : Type 0 where
  pub before : List Entry
  pub own : List Entry
  pub parts : es ≡ before ++ own
  pub long : length own ≡ last.size
  pub sizes : HasTreeSizes before
  pub order : IsMoveOrder own
  pub trees : trees_of es ≡ trees_of before beside trees_of own

last_same : (xs ys : List Entry) (x y : Entry) → xs ++ x ∷ [] ≡ ys ++ y ∷ [] → x ≡ y
last_same [] [] x y e = cc
last_same [] (b ∷ []) x y e = let z : ⊥ = cc in absurd z
last_same [] (b ∷ d ∷ ys) x y e = let z : ⊥ = cc in absurd z
last_same (a ∷ []) [] x y e = let z : ⊥ = cc in absurd z
last_same (a ∷ c ∷ xs) [] x y e = let z : ⊥ = cc in absurd z
last_same (a ∷ xs) (b ∷ ys) x y e = let f : xs ++ x ∷ [] ≡ ys ++ y ∷ [] = cc in last_same xs ys x y f

pub last_list : (es rest : List Entry) (last : Entry) → HasTreeSizes es → es ≡ rest ++ last ∷ [] → HasLastList es last
last_list es rest last h e =
    let some : 0 < nodes (without_spans (trees_of es)) =
    omega (arith, count_of_list es h, ap length e, length-append rest (last ∷ [])) in
    let t = last_tree (trees_of es) some in
    let r = root_entry t.tree t.one in
    let list : es ≡ tree_entries t.before ++ tree_entries t.tree =
    sym (entries_of_trees es h) ∙ ap tree_entries t.parts ∙ entries-beside t.before t.tree in
    let ends : rest ++ last ∷ [] ≡ (tree_entries t.before ++ tree_entries (root_children t.tree)) ++ r.root ∷ [] =
    sym e ∙ list ∙ ap (λ l. tree_entries t.before ++ l) r.list
    ∙ sym (append_assoc (tree_entries t.before) (tree_entries (root_children t.tree)) (r.root ∷ [])) in
    let same : last ≡ r.root =
    last_same rest (tree_entries t.before ++ tree_entries (root_children t.tree)) last r.root ends in
    let own_is = trees_are (tree_entries t.tree) t.tree refl in
    let before_is = trees_are (tree_entries t.before) t.before refl in
    record {
      before = tree_entries t.before;
      own = tree_entries t.tree;
      parts = list;
      long = entries-long t.tree ∙ sym r.size ∙ ap (λ x. x.size) (sym same);
      sizes = has_sizes (tree_entries t.before) t.before refl;
      order = (has_sizes (tree_entries t.tree) t.tree refl, ap (λ f. length (roots (without_spans f))) own_is ∙ t.one);
      trees = t.parts ∙ ap (λ f. f beside t.tree) (sym before_is) ∙ ap (λ f. trees_of (tree_entries t.before) beside f) (sym own_is);
    }

-- what stands at the root of a list's tree
pub root_read : (es : List TreeEntry) (d : TreeEntry) → IsMoveOrder (tree_entry_views es) →
    root_label (trees_of (tree_entry_views es)) ≡ Some (tree_label_view (get_or es (length es - 1) d).label)
root_read es d h =
    let seen = tree_entry_views es in
    let t = trees_of seen in
    let r = root_entry t h.1 in
    let front = tree_entries (root_children t) in
    let n = length es - 1 in
    let list : seen ≡ front ++ r.root ∷ [] = sym (entries_of_trees seen h.0) ∙ r.list in
    let long : length front ≡ n = omega (arith, ap length list, length-append front (r.root ∷ []), length-map es tree_entry_view) in
    let read : r.root ≡ tree_entry_view (get_or es n d) =
    sym (get_or_push front r.root (tree_entry_view d) n long) ∙ ap (λ l. get_or l n (tree_entry_view d)) (sym list)
    ∙ get_or-map tree_entry_view es n d in
    r.label ∙ ap (λ e. Some e.label) read

-- the list of its children
pub root_below : (es below : List TreeEntry) → IsMoveOrder (tree_entry_views es) → below ≡ take (length es - 1) es →
    HasTreeSizes (tree_entry_views below) × (trees_of (tree_entry_views below) ≡ root_children (trees_of (tree_entry_views es)))
root_below es below h b =
    let seen = tree_entry_views es in
    let t = trees_of seen in
    let r = root_entry t h.1 in
    let front = tree_entries (root_children t) in
    let n = length es - 1 in
    let list : seen ≡ front ++ r.root ∷ [] = sym (entries_of_trees seen h.0) ∙ r.list in
    let long : n ≡ length front = omega (arith, ap length list, length-append front (r.root ∷ []), length-map es tree_entry_view) in
    let same : tree_entry_views below ≡ front =
    ap tree_entry_views b ∙ sym (take-map tree_entry_view n es) ∙ ap (λ l. take n l) list ∙ ap (λ k. take k (front ++ r.root ∷ [])) long
    ∙ take-append_seam front (r.root ∷ []) in
    (has_sizes (tree_entry_views below) (root_children t) same, trees_are (tree_entry_views below) (root_children t) same)

-- a list parted before its last tree
pub record PartsBeforeLast (es : List TreeEntry) (size : ℕ) : Type 0 where
  pub within : size ≤ length es
  pub before : HasTreeSizes (tree_entry_views (take (length es - size) es))
  pub own : IsMoveOrder (tree_entry_views (drop (length es - size) es))
  pub trees : trees_of (tree_entry_views es)
      ≡ trees_of (tree_entry_views (take (length es - size) es)) beside trees_of (tree_entry_views (drop (length es - size) es))

pub parts_before_last : (es : List TreeEntry) (d : TreeEntry) → HasTreeSizes (tree_entry_views es) → 0 < length es →
    PartsBeforeLast es (get_or es (length es - 1) d).size
parts_before_last es d h some =
    let seen = tree_entry_views es in
    let n = length es - 1 in
    let m : length seen ≡ length es = length-map es tree_entry_view in
    let last = get_or es n d in
    let whole : seen ≡ take n seen ++ tree_entry_view last ∷ [] =
    sym (take_all (n + 1) seen (omega (arith, m, some)))
    ∙ take_more seen n (tree_entry_view d) (omega (arith, m, some))
    ∙ ap (λ x. take n seen ++ x ∷ []) (get_or-map tree_entry_view es n d) in
    let l = last_list seen (take n seen) (tree_entry_view last) h whole in
    let k = length es - last.size in
    let sum = length-append l.before l.own in
    let long : k ≡ length l.before = omega (arith, ap length l.parts, sum, l.long, m) in
    let front : tree_entry_views (take k es) ≡ l.before =
    sym (take-map tree_entry_view k es) ∙ ap (λ x. take k x) l.parts ∙ ap (λ j. take j (l.before ++ l.own)) long
    ∙ take-append_seam l.before l.own in
    let back : tree_entry_views (drop k es) ≡ l.own =
    sym (drop-map tree_entry_view k es) ∙ ap (λ x. drop k x) l.parts ∙ ap (λ j. drop j (l.before ++ l.own)) long
    ∙ drop-append_seam l.before l.own in
    record {
      within = omega (arith, ap length l.parts, sum, l.long, m);
      before = subst HasTreeSizes (sym front) l.sizes;
      own = subst IsMoveOrder (sym back) l.order;
      trees = l.trees ∙ ap (λ x. trees_of x beside trees_of l.own) (sym front)
          ∙ ap (λ x. trees_of (tree_entry_views (take k es)) beside trees_of x) (sym back);
    }

-- the same, where the last entry was read
pub parts_at : (es : List TreeEntry) (last : TreeEntry) (place : ℕ) → HasTreeSizes (tree_entry_views es) → 0 < length es →
    place ≡ length es - 1 → last ≡ get_or es place last → PartsBeforeLast es last.size
parts_at es last place h some e r =
    subst (PartsBeforeLast es) (sym (ap (λ x. x.size) (r ∙ ap (λ k. get_or es k last) e))) (parts_before_last es last h some)

-- roots are at most as many as leaves and nodes
pub roots_few : (ts : SpannedForest) → length (roots (without_spans ts)) ≤ nodes (without_spans ts)
roots_few none_at = omega arith
roots_few (leaf_at t span ts) = omega (arith, roots_few ts)
roots_few (node_at p cs ts) = omega (arith, roots_few ts)

below_few : (ts : SpannedForest) → nodes (without_spans (root_children ts)) ≤ nodes (without_spans ts)
below_few none_at = omega arith
below_few (leaf_at t span ts) = omega arith
below_few (node_at p cs ts) = omega arith

-- children are at most as many as entries
pub children_few : (es : List TreeEntry) → IsMoveOrder (tree_entry_views es) →
    length (roots (without_spans (root_children (trees_of (tree_entry_views es))))) ≤ length es
children_few es h =
    let t = trees_of (tree_entry_views es) in
    omega (
      arith,
      roots_few (root_children t),
      below_few t,
      count_of_list (tree_entry_views es) h.0,
      length-map es tree_entry_view,
    )

-- one fewer without the last
pub one_fewer : (ts before last : SpannedForest) → ts ≡ before beside last → length (roots (without_spans last)) ≡ 1 →
    length (roots (without_spans ts)) ≡ length (roots (without_spans before)) + 1
one_fewer ts before last e h =
    ap (λ f. length (roots (without_spans f))) e ∙ roots-beside before last ∙ omega (arith, h)
