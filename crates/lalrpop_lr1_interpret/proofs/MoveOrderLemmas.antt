-- Lists of entries and the trees that they are, both ways: for expanded trees.
use Rattle.std.proofs.Common.{◌≡◌, ◌∙◌, ◌+◌, ◌-◌, ◌<◌, ◌≤◌, ◌⊎◌, inl, inr, ℕ, suc, Bool, true, false, List, [], ◌∷◌, ◌++◌}
use Rattle.std.proofs.Common.{length, map, refl, sym, ap, arith, append_assoc}
use Rattle.std.specs.Prelude.{leb, cond}
use Rattle.std.proofs.lemmas.Bool.{le-leb}
use Rattle.std.proofs.lemmas.Bool.Decides.{leb_tells}
use Rattle.std.proofs.lemmas.List.{append-nil, length-map, map-append}
use Rattle.lalrpop_lr1_theory.specs.Productions.{Production}
use Rattle.lalrpop_lr1_theory.specs.Trees.{moves, nodes, reduce, roots, shift}
use Rattle.lalrpop_lr1_theory.specs.Spans.{SpannedForest, leaf_at, node_at, none_at, without_spans}
use Rattle.lalrpop_lr1_theory.proofs.TreeLemmas.{length-moves, nodes-and}
use Rattle.lalrpop_lr1_interpret.specs.MoveOrders.{Entry, EntryLabel, HasTreeSizes, IsMoveOrder, tree_entries, first_trees, label_move}
use Rattle.lalrpop_lr1_interpret.specs.MoveOrders.{last_trees, leaf_label, node_label, trees_after, trees_of, with_label}
use Rattle.lalrpop_lr1_interpret.specs.Stacks.{◌beside◌}
use Rattle.lalrpop_lr1_interpret.proofs.StackLemmas.{beside-none, beside-beside, without-beside}

cond_true : {A : Type 0} (m n : ℕ) (x y : A) → m ≤ n → cond (leb m n) x y ≡ x
cond_true m n x y h = ap (λ b. cond b x y) (le-leb m n h)

cond_false : {A : Type 0} (m n : ℕ) (x y : A) → n < m → cond (leb m n) x y ≡ y
cond_false {A} m n x y h = go (leb_tells m n)
  where
    go : ((leb m n ≡ true) × (m ≤ n)) ⊎ ((leb m n ≡ false) × (n < m)) → cond (leb m n) x y ≡ y
    go (inl k) = absurd (omega (arith, h, k.1))
    go (inr k) = ap (λ b. cond b x y) k.0

-- leaves and nodes of trees beside others
pub count-beside : (ts us : SpannedForest) → nodes (without_spans (ts beside us)) ≡ nodes (without_spans ts) + nodes (without_spans us)
count-beside ts us = ap nodes (without-beside ts us) ∙ nodes-and (without_spans ts) (without_spans us)

-- all of the trees, where they have no more
last_all : (us : SpannedForest) → last_trees (nodes (without_spans us)) us ≡ us
last_all none_at = refl
last_all (leaf_at t span us) =
    let n = suc (nodes (without_spans us)) in
    cond_true n n (leaf_at t span us) (last_trees n us) (omega arith)
last_all (node_at p cs us) =
    let n = nodes (without_spans (node_at p cs us)) in
    cond_true n n (node_at p cs us) (last_trees n us) (omega arith)

first_all : (us : SpannedForest) → first_trees (nodes (without_spans us)) us ≡ none_at
first_all none_at = refl
first_all (leaf_at t span us) =
    let n = suc (nodes (without_spans us)) in
    cond_true n n none_at (leaf_at t span (first_trees n us)) (omega arith)
first_all (node_at p cs us) =
    let n = nodes (without_spans (node_at p cs us)) in
    cond_true n n none_at (node_at p cs (first_trees n us)) (omega arith)

-- the last of trees beside others, counted by the others' leaves and nodes, are the others
pub last-beside : (ts us : SpannedForest) → last_trees (nodes (without_spans us)) (ts beside us) ≡ us
last-beside none_at us = last_all us
last-beside (leaf_at t span ts) us =
    let n = nodes (without_spans us) in
    cond_false (suc (nodes (without_spans (ts beside us)))) n (leaf_at t span (ts beside us)) (last_trees n (ts beside us))
    (omega (arith, count-beside ts us))
    ∙ last-beside ts us
last-beside (node_at p cs ts) us =
    let n = nodes (without_spans us) in
    cond_false (suc (nodes (without_spans cs) + nodes (without_spans (ts beside us)))) n (node_at p cs (ts beside us))
    (last_trees n (ts beside us))
    (omega (arith, count-beside ts us))
    ∙ last-beside ts us

pub first-beside : (ts us : SpannedForest) → first_trees (nodes (without_spans us)) (ts beside us) ≡ ts
first-beside none_at us = first_all us
first-beside (leaf_at t span ts) us =
    let n = nodes (without_spans us) in
    cond_false (suc (nodes (without_spans (ts beside us)))) n none_at (leaf_at t span (first_trees n (ts beside us)))
    (omega (arith, count-beside ts us))
    ∙ ap (leaf_at t span) (first-beside ts us)
first-beside (node_at p cs ts) us =
    let n = nodes (without_spans us) in
    cond_false (suc (nodes (without_spans cs) + nodes (without_spans (ts beside us)))) n none_at
    (node_at p cs (first_trees n (ts beside us)))
    (omega (arith, count-beside ts us))
    ∙ ap (node_at p cs) (first-beside ts us)

-- a node over the last trees, counted by their leaves and nodes
pub node_over : (ts cs : SpannedForest) (p : Production) (n : ℕ) → n ≡ suc (nodes (without_spans cs)) →
    with_label (ts beside cs) (node_label p) n ≡ ts beside node_at p cs none_at
node_over ts cs p n e =
    let m : n - 1 ≡ nodes (without_spans cs) = omega (arith, e) in
    ap (λ k. first_trees k (ts beside cs) beside node_at p (last_trees k (ts beside cs)) none_at) m
    ∙ ap (λ f. f beside node_at p (last_trees (nodes (without_spans cs)) (ts beside cs)) none_at) (first-beside ts cs)
    ∙ ap (λ f. ts beside node_at p f none_at) (last-beside ts cs)

-- more entries
pub after_more : (ts : SpannedForest) (es ds : List Entry) → trees_after ts (es ++ ds) ≡ trees_after (trees_after ts es) ds
after_more ts [] ds = refl
after_more ts (e ∷ es) ds = after_more (with_label ts e.label e.size) es ds

-- the entries of trees add these trees
pub after_entries : (ts us : SpannedForest) → trees_after ts (tree_entries us) ≡ ts beside us
after_entries ts none_at = sym (beside-none ts)
after_entries ts (leaf_at t span us) =
    after_entries (ts beside leaf_at t span none_at) us ∙ beside-beside ts (leaf_at t span none_at) us
after_entries ts (node_at p cs us) =
    let n = suc (nodes (without_spans cs)) in
    after_more ts (tree_entries cs) (record { label = node_label p; size = n } ∷ tree_entries us)
    ∙ ap (λ f. trees_after (with_label f (node_label p) n) (tree_entries us)) (after_entries ts cs)
    ∙ ap (λ f. trees_after f (tree_entries us)) (node_over ts cs p n refl)
    ∙ after_entries (ts beside node_at p cs none_at) us
    ∙ beside-beside ts (node_at p cs none_at) us

-- a list of entries has one reading: the trees whose entries it has
pub trees_of_entries : (ts : SpannedForest) → trees_of (tree_entries ts) ≡ ts
trees_of_entries ts = after_entries none_at ts

-- entries of trees beside others
pub entries-beside : (ts us : SpannedForest) → tree_entries (ts beside us) ≡ tree_entries ts ++ tree_entries us
entries-beside none_at us = refl
entries-beside (leaf_at t span ts) us = ap (λ l. record { label = leaf_label t span; size = 1 } ∷ l) (entries-beside ts us)
entries-beside (node_at p cs ts) us =
    let e : Entry = record { label = node_label p; size = suc (nodes (without_spans cs)) } in
    ap (λ l. tree_entries cs ++ e ∷ l) (entries-beside ts us) ∙ sym (append_assoc (tree_entries cs) (e ∷ tree_entries ts) (tree_entries us))

-- the labels are the moves, in order
pub entries-moves : (ts : SpannedForest) → map (λ e. label_move e.label) (tree_entries ts) ≡ moves (without_spans ts)
entries-moves none_at = refl
entries-moves (leaf_at t span ts) = ap (λ l. shift t ∷ l) (entries-moves ts)
entries-moves (node_at p cs ts) =
    let e : Entry = record { label = node_label p; size = suc (nodes (without_spans cs)) } in
    map-append (λ d. label_move d.label) (tree_entries cs) (e ∷ tree_entries ts)
    ∙ ap (λ l. l ++ reduce p ∷ map (λ d. label_move d.label) (tree_entries ts)) (entries-moves cs)
    ∙ ap (λ l. moves (without_spans cs) ++ reduce p ∷ l) (entries-moves ts)

-- as many entries as leaves and nodes
pub entries-long : (ts : SpannedForest) → length (tree_entries ts) ≡ nodes (without_spans ts)
entries-long ts =
    sym (length-map (tree_entries ts) (λ e. label_move e.label)) ∙ ap length (entries-moves ts) ∙ length-moves (without_spans ts)

-- no tree is lost where trees are parted
pub cut-beside : (n : ℕ) (ts : SpannedForest) → first_trees n ts beside last_trees n ts ≡ ts
cut-beside n none_at = refl
cut-beside n (leaf_at t span ts) = go (leb (suc (nodes (without_spans ts))) n) (cut-beside n ts)
  where
    go : (b : Bool) → first_trees n ts beside last_trees n ts ≡ ts → cond b none_at (leaf_at t span (first_trees n ts)) beside cond b (leaf_at t span ts) (last_trees n ts)
        ≡ leaf_at t span ts
    go true e = refl
    go false e = ap (leaf_at t span) e
cut-beside n (node_at p cs ts) = go (leb (nodes (without_spans (node_at p cs ts))) n) (cut-beside n ts)
  where
    go : (b : Bool) → first_trees n ts beside last_trees n ts ≡ ts → cond b none_at (node_at p cs (first_trees n ts)) beside cond b (node_at p cs ts) (last_trees n ts)
        ≡ node_at p cs ts
    go true e = refl
    go false e = ap (node_at p cs) e

abbrev labels_of : List Entry → List EntryLabel
labels_of es = map (λ e. e.label) es

labels-more : (xs ys : List Entry) → labels_of (xs ++ ys) ≡ labels_of xs ++ labels_of ys
labels-more xs ys = map-append (λ e. e.label) xs ys

label_added : (ts : SpannedForest) (l : EntryLabel) (n : ℕ) →
    labels_of (tree_entries (with_label ts l n)) ≡ labels_of (tree_entries ts) ++ l ∷ []
label_added ts (leaf_label t span) n =
    ap labels_of (entries-beside ts (leaf_at t span none_at))
    ∙ labels-more (tree_entries ts) (tree_entries (leaf_at t span none_at))
label_added ts (node_label p) n =
    let k = n - 1 in
    let f = first_trees k ts in
    let g = last_trees k ts in
    ap labels_of (entries-beside f (node_at p g none_at))
    ∙ ap labels_of (sym (append_assoc (tree_entries f) (tree_entries g) (record { label = node_label p; size = suc (nodes (without_spans g)) } ∷ [])))
    ∙ ap (λ x. labels_of (x ++ record { label = node_label p; size = suc (nodes (without_spans g)) } ∷ [])) (sym (entries-beside f g) ∙ ap tree_entries (cut-beside k ts))
    ∙ labels-more (tree_entries ts) (record { label = node_label p; size = suc (nodes (without_spans g)) } ∷ [])

labels_added : (ts : SpannedForest) (es : List Entry) →
    labels_of (tree_entries (trees_after ts es)) ≡ labels_of (tree_entries ts) ++ labels_of es
labels_added ts [] = sym (append-nil (labels_of (tree_entries ts)))
labels_added ts (e ∷ es) =
    labels_added (with_label ts e.label e.size) es
    ∙ ap (λ l. l ++ labels_of es) (label_added ts e.label e.size)
    ∙ append_assoc (labels_of (tree_entries ts)) (e.label ∷ []) (labels_of es)

abbrev entry : EntryLabel → ℕ → Entry
entry l n = record { label = l; size = n }

-- entries are told by their labels and their sizes
same_entries : (xs ys : List Entry) → labels_of xs ≡ labels_of ys → map (λ e. e.size) xs ≡ map (λ e. e.size) ys → xs ≡ ys
same_entries [] [] l s = refl
same_entries [] (y ∷ ys) l s = let z : ⊥ = cc in absurd z
same_entries (x ∷ xs) [] l s = let z : ⊥ = cc in absurd z
same_entries (x ∷ xs) (y ∷ ys) l s =
    let a : x.label ≡ y.label = cc in
    let b : x.size ≡ y.size = cc in
    let c : labels_of xs ≡ labels_of ys = cc in
    let d : map (λ e. e.size) xs ≡ map (λ e. e.size) ys = cc in
    ap (λ k. entry k x.size ∷ xs) a
    ∙ ap (λ k. entry y.label k ∷ xs) b
    ∙ ap (λ k. y ∷ k) (same_entries xs ys c d)

-- a list with the sizes of its subtrees is that of its trees
pub entries_of_trees : (es : List Entry) → HasTreeSizes es → tree_entries (trees_of es) ≡ es
entries_of_trees es h = same_entries (tree_entries (trees_of es)) es (labels_added none_at es) h

-- the entries of trees have the sizes of their subtrees
pub has_sizes : (es : List Entry) (ts : SpannedForest) → es ≡ tree_entries ts → HasTreeSizes es
has_sizes es ts e = ap (λ l. map (λ d. d.size) (tree_entries (trees_of l))) e
    ∙ ap (λ f. map (λ d. d.size) (tree_entries f)) (trees_of_entries ts) ∙ ap (λ l. map (λ d. d.size) l) (sym e)

pub trees_are : (es : List Entry) (ts : SpannedForest) → es ≡ tree_entries ts → trees_of es ≡ ts
trees_are es ts e = ap trees_of e ∙ trees_of_entries ts

-- the moves of the trees of a list are its labels, in order
pub moves_are_labels : (es : List Entry) → moves (without_spans (trees_of es)) ≡ map (λ e. label_move e.label) es
moves_are_labels es = go (labels_added none_at es)
  where
    move_labels : (xs : List Entry) → map label_move (labels_of xs) ≡ map (λ e. label_move e.label) xs
    move_labels [] = refl
    move_labels (x ∷ xs) = ap (λ l. label_move x.label ∷ l) (move_labels xs)

    go : labels_of (tree_entries (trees_of es)) ≡ labels_of es → moves (without_spans (trees_of es)) ≡ map (λ e. label_move e.label) es
    go e = sym (entries-moves (trees_of es)) ∙ sym (move_labels (tree_entries (trees_of es))) ∙ ap (λ l. map label_move l) e ∙ move_labels es

-- lists one behind another
pub joined_sizes : (es ds : List Entry) → HasTreeSizes es → HasTreeSizes ds → HasTreeSizes (es ++ ds)
joined_sizes es ds h k =
    has_sizes (es ++ ds) (trees_of es beside trees_of ds)
    (sym (entries-beside (trees_of es) (trees_of ds) ∙ ap (λ l. l ++ tree_entries (trees_of ds)) (entries_of_trees es h)
    ∙ ap (λ l. es ++ l) (entries_of_trees ds k)))

pub joined_trees : (es ds : List Entry) → HasTreeSizes es → HasTreeSizes ds → trees_of (es ++ ds) ≡ trees_of es beside trees_of ds
joined_trees es ds h k =
    trees_are (es ++ ds) (trees_of es beside trees_of ds)
    (sym (entries-beside (trees_of es) (trees_of ds) ∙ ap (λ l. l ++ tree_entries (trees_of ds)) (entries_of_trees es h)
    ∙ ap (λ l. es ++ l) (entries_of_trees ds k)))

-- as many leaves and nodes as entries
pub count_of_list : (es : List Entry) → HasTreeSizes es → nodes (without_spans (trees_of es)) ≡ length es
count_of_list es h = sym (entries-long (trees_of es)) ∙ ap length (entries_of_trees es h)

-- a node behind the list of its children
node_list : (es : List Entry) (p : Production) (n : ℕ) → HasTreeSizes es → n ≡ suc (length es) →
    es ++ record { label = node_label p; size = n } ∷ [] ≡ tree_entries (node_at p (trees_of es) none_at)
node_list es p n h e =
    sym (ap (λ l. l ++ record { label = node_label p; size = suc (nodes (without_spans (trees_of es))) } ∷ []) (entries_of_trees es h)
    ∙ ap (λ k. es ++ record { label = node_label p; size = k } ∷ []) (ap suc (count_of_list es h) ∙ sym e))

pub node_trees : (es : List Entry) (p : Production) (n : ℕ) → HasTreeSizes es → n ≡ suc (length es) →
    trees_of (es ++ record { label = node_label p; size = n } ∷ []) ≡ node_at p (trees_of es) none_at
node_trees es p n h e = trees_are (es ++ record { label = node_label p; size = n } ∷ []) (node_at p (trees_of es) none_at) (node_list es p n h e)

pub node_order : (es : List Entry) (p : Production) (n : ℕ) → HasTreeSizes es → n ≡ suc (length es) →
    IsMoveOrder (es ++ record { label = node_label p; size = n } ∷ [])
node_order es p n h e = (
  has_sizes (es ++ record { label = node_label p; size = n } ∷ []) (node_at p (trees_of es) none_at) (node_list es p n h e),
  ap (λ f. length (roots (without_spans f))) (node_trees es p n h e),
)
