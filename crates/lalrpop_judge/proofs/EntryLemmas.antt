-- Entries one beside the other, and what is left of a list: for the tests of fronts.
use Rattle.std.proofs.Common.{◌≡◌, ◌↔◌, ◌∙◌, ℕ, zero, suc, ◌+◌, ◌<◌, ◌≤◌, Bool, false, IsTrue, List, []}
use Rattle.std.proofs.Common.{◌∷◌, ◌++◌, take, drop, length, get_or, Some, refl, sym, ap, arith, append_assoc}
use Rattle.std.specs.Prelude.{slice_get}
use Rattle.std.specs.Borrow.{Bor}
use Rattle.std.proofs.Math.Seq.{drop-append_seam, take-add, take-append_seam}
use Rattle.std.proofs.lemmas.List.{drop-map, length-map, length-take, take-append-drop, take_all, take_more}
use Rattle.lalrpop_grammar_repr.specs.declared.production.Production.{Production}
use Rattle.lalrpop_lr1_theory.specs.Productions as theory
use Rattle.lalrpop_lr1_theory.specs.Spans.{SpannedForest}
use Rattle.lalrpop_lr1_theory.proofs.StepLemmas.{some_same}
use Rattle.lalrpop_lr1_core.specs.Views.{production_view}
use Rattle.lalrpop_lr1_core.proofs.ProductionViewLemmas.{same_production}
use Rattle.lalrpop_lr1_interpret.specs.ExpandedViews.{expanded_view, expanded_views}
use Rattle.lalrpop_lr1_interpret.specs.MoveOrders.{Entry, EntryLabel, node_label, tree_entries}
use Rattle.lalrpop_lr1_interpret.specs.TreeEntries.{tree_entry_view, tree_entry_views, tree_label_view}
use Rattle.lalrpop_lr1_interpret.specs.declared.parse.expanded_tree.ExpandedTree.{ExpandedTree}
use Rattle.lalrpop_lr1_interpret.specs.declared.parse.tree_entry.TreeEntry.{TreeEntry}
use Rattle.lalrpop_lr1_interpret.specs.declared.parse.tree_entry.TreeLabel.{TreeLabel}
use Rattle.lalrpop_lr1_interpret.specs.declared.parse.tree_entry.TreeLabel.TheVariants as labels
use Rattle.lalrpop_lr1_interpret.proofs.ExpandedLemmas.{views_more, views_one}
use Rattle.lalrpop_lr1_interpret.proofs.MoveOrderLemmas.{entries-beside}

node_same : (p q : theory.Production) → node_label p ≡ node_label q → p ≡ q
node_same p q e = cc

abbrev entry : EntryLabel → ℕ → Entry
entry l n = record { label = l; size = n }

-- two nodes are one where their productions are
pub same_nodes : (a b : TreeLabel) (p q : Bor Production) (r : Bool) → a ≡ labels.Node p → b ≡ labels.Node q →
    (IsTrue r ↔ (p.now ≡ q.now)) → IsTrue r ↔ (tree_label_view a ≡ tree_label_view b)
same_nodes a b p q r d e h = (
  λ t. ap tree_label_view d ∙ ap (λ v. node_label (production_view v)) (h.0 t) ∙ sym (ap tree_label_view e),
  λ m. h.1 (same_production p.now q.now
      (node_same (production_view p.now) (production_view q.now) (sym (ap tree_label_view d) ∙ m ∙ ap tree_label_view e))),
)

-- two entries are one where their labels are and their sizes
pub same_entries : (a b : TreeEntry) (r : Bool) → a.size ≡ b.size → (IsTrue r ↔ (tree_label_view a.label ≡ tree_label_view b.label)) →
    IsTrue r ↔ (tree_entry_view a ≡ tree_entry_view b)
same_entries a b r s h = (
  λ t. ap (λ l. entry l a.size) (h.0 t) ∙ ap (λ n. entry (tree_label_view b.label) n) s,
  λ e. h.1 (ap (λ (x : Entry). x.label) e),
)

-- what is read in a list
read_entry : (all : List TreeEntry) (i : ℕ) (a : TreeEntry) → i < length all → a ≡ get_or all i a →
    slice_get (tree_entry_views all) i ≡ Some (tree_entry_view a)
read_entry [] i a h e = absurd (omega arith)
read_entry (x ∷ all) zero a h e = ap (λ y. Some (tree_entry_view y)) (sym e)
read_entry (x ∷ all) (suc i) a h e = read_entry all i a (omega arith) e

take_get : (xs : List Entry) (n i : ℕ) → i < n → slice_get (take n xs) i ≡ slice_get xs i
take_get xs zero i h = absurd (omega arith)
take_get [] (suc n) i h = refl
take_get (x ∷ xs) (suc n) zero h = refl
take_get (x ∷ xs) (suc n) (suc i) h = take_get xs n i (omega arith)

-- at one place the entries are two, so the others aren't the front
pub other_front : (all front : List TreeEntry) (i : ℕ) (a b : TreeEntry) → i < length front → length front ≤ length all →
    a ≡ get_or all i a → b ≡ get_or front i b → (tree_entry_view a ≡ tree_entry_view b → ⊥) →
    take (length front) (tree_entry_views all) ≡ tree_entry_views front → ⊥
other_front all front i a b h l at_a at_b differ e =
    differ (some_same (tree_entry_view a) (tree_entry_view b)
    (sym (read_entry all i a (omega arith) at_a) ∙ sym (take_get (tree_entry_views all) (length front) i h)
    ∙ ap (λ es. slice_get es i) e ∙ read_entry front i b h at_b))

take_on : (xs : List Entry) (i : ℕ) (m : Entry) → slice_get xs i ≡ Some m → take (i + 1) xs ≡ take i xs ++ m ∷ []
take_on [] i m e = let z : ⊥ = cc in absurd z
take_on (x ∷ xs) zero m e = ap (λ y. y ∷ []) (some_same x m e)
take_on (x ∷ xs) (suc i) m e =
    let n : suc i + 1 ≡ suc (i + 1) = omega arith in
    ap (λ k. take k (x ∷ xs)) n ∙ ap (λ l. x ∷ l) (take_on xs i m e)

-- one entry more is the same
pub front_more : (all front : List TreeEntry) (i : ℕ) (a b : TreeEntry) → i < length front → length front ≤ length all →
    a ≡ get_or all i a → b ≡ get_or front i b → tree_entry_view a ≡ tree_entry_view b →
    take i (tree_entry_views all) ≡ take i (tree_entry_views front) →
    take (i + 1) (tree_entry_views all) ≡ take (i + 1) (tree_entry_views front)
front_more all front i a b h l at_a at_b same e =
    take_on (tree_entry_views all) i (tree_entry_view a) (read_entry all i a (omega arith) at_a)
    ∙ ap (λ es. es ++ tree_entry_view a ∷ []) e ∙ ap (λ m. take i (tree_entry_views front) ++ m ∷ []) same
    ∙ sym (take_on (tree_entry_views front) i (tree_entry_view b) (read_entry front i b h at_b))

-- the list of one tree more
list_more : (trees : List ExpandedTree) (i : ℕ) (t : ExpandedTree) → i < length trees → t ≡ get_or trees i t →
    tree_entries (expanded_views (take (i + 1) trees))
    ≡ tree_entries (expanded_views (take i trees)) ++ tree_entries (expanded_view t)
list_more trees i t h read =
    ap (λ l. tree_entries (expanded_views l)) (take_more trees i t h ∙ ap (λ y. take i trees ++ y ∷ []) (sym read))
    ∙ ap tree_entries (views_more (take i trees) (t ∷ []))
    ∙ entries-beside (expanded_views (take i trees)) (expanded_views (t ∷ []))
    ∙ ap (λ f. tree_entries (expanded_views (take i trees)) ++ tree_entries f) (views_one t)

-- a list that begins with others is at least as long
pub front_fits : (left front : List TreeEntry) → take (length front) (tree_entry_views left) ≡ tree_entry_views front →
    length front ≤ length left
front_fits left front e =
    omega (
      arith,
      ap length e,
      length-take (length front) (tree_entry_views left),
      length-map left tree_entry_view,
      length-map front tree_entry_view,
    )

-- one tree's list more is in front
pub front_on : (all left front : List TreeEntry) (trees : List ExpandedTree) (place i : ℕ) (t : ExpandedTree) → i < length trees →
    t ≡ get_or trees i t → tree_entry_views front ≡ tree_entries (expanded_view t) → left ≡ drop place all →
    take (length front) (tree_entry_views left) ≡ tree_entry_views front →
    take place (tree_entry_views all) ≡ tree_entries (expanded_views (take i trees)) →
    take (place + length front) (tree_entry_views all) ≡ tree_entries (expanded_views (take (i + 1) trees))
front_on all left front trees place i t h read f l begins inv =
    let n = length front in
    take-add place n (tree_entry_views all) ∙ ap (λ x. x ++ take n (drop place (tree_entry_views all))) inv
    ∙ ap (λ x. tree_entries (expanded_views (take i trees)) ++ take n x)
    (drop-map tree_entry_view place all ∙ sym (ap tree_entry_views l))
    ∙ ap (λ x. tree_entries (expanded_views (take i trees)) ++ x) (begins ∙ f)
    ∙ sym (list_more trees i t h read)

-- one tree's list isn't behind those in front, so the list doesn't begin with those of all trees
pub front_not : (all left front : List TreeEntry) (trees : List ExpandedTree) (place i : ℕ) (t : ExpandedTree) → i < length trees →
    t ≡ get_or trees i t → tree_entry_views front ≡ tree_entries (expanded_view t) → left ≡ drop place all → place ≤ length all →
    (take (length front) (tree_entry_views left) ≡ tree_entry_views front → ⊥) →
    take place (tree_entry_views all) ≡ tree_entries (expanded_views (take i trees)) → (rest : List Entry) →
    tree_entry_views all ≡ tree_entries (expanded_views trees) ++ rest → ⊥
front_not all left front trees place i t h read f l within ne inv rest e =
    let before = tree_entries (expanded_views (take i trees)) in
    let own = tree_entries (expanded_view t) in
    let behind = tree_entries (expanded_views (drop (i + 1) trees)) in
    let whole : tree_entries (expanded_views trees) ≡ before ++ (own ++ behind) =
    ap (λ x. tree_entries (expanded_views x)) (sym (take-append-drop (i + 1) trees))
    ∙ ap tree_entries (views_more (take (i + 1) trees) (drop (i + 1) trees))
    ∙ entries-beside (expanded_views (take (i + 1) trees)) (expanded_views (drop (i + 1) trees))
    ∙ ap (λ x. x ++ behind) (list_more trees i t h read)
    ∙ append_assoc before own behind in
    let all_is : tree_entry_views all ≡ before ++ (own ++ (behind ++ rest)) =
    e ∙ ap (λ x. x ++ rest) whole ∙ append_assoc before (own ++ behind) rest
    ∙ ap (λ x. before ++ x) (append_assoc own behind rest) in
    let long : place ≡ length before =
    omega (arith, ap length inv, length-take place (tree_entry_views all), length-map all tree_entry_view, within) in
    let left_is : tree_entry_views left ≡ own ++ (behind ++ rest) =
    ap tree_entry_views l ∙ sym (drop-map tree_entry_view place all) ∙ ap (drop place) all_is
    ∙ ap (λ n. drop n (before ++ (own ++ (behind ++ rest)))) long ∙ drop-append_seam before (own ++ (behind ++ rest)) in
    let own_long : length front ≡ length own = sym (length-map front tree_entry_view) ∙ ap length f in
    ne
    (ap (take (length front)) left_is ∙ ap (λ n. take n (own ++ (behind ++ rest))) own_long
    ∙ take-append_seam own (behind ++ rest) ∙ sym f)

-- all trees' lists are in front
pub front_all : (all : List TreeEntry) (trees : List ExpandedTree) (place i : ℕ) → length trees ≤ i →
    take place (tree_entry_views all) ≡ tree_entries (expanded_views (take i trees)) →
    take place (tree_entry_views all) ≡ tree_entries (expanded_views trees)
front_all all trees place i h e = e ∙ ap (λ x. tree_entries (expanded_views x)) (take_all i trees h)

-- what is left of a tree's list
pub left_list : (es left : List TreeEntry) (tree shared : SpannedForest) (place : ℕ) → tree_entry_views es ≡ tree_entries tree →
    take place (tree_entry_views es) ≡ tree_entries shared → left ≡ drop place es →
    tree_entries tree ≡ tree_entries shared ++ tree_entry_views left
left_list es left tree shared place e f l =
    sym e ∙ sym (take-append-drop place (tree_entry_views es)) ∙ ap (λ x. x ++ drop place (tree_entry_views es)) f
    ∙ ap (λ x. tree_entries shared ++ x) (drop-map tree_entry_view place es ∙ sym (ap tree_entry_views l))

-- nothing is true and false
pub never : (r : Bool) → r ≡ false → IsTrue r → ⊥
never r e t = let z : ⊥ = cc in z
