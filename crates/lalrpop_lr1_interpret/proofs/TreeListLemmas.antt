-- Lists of trees that grow by a leaf or a node over the last of them, and that are cut: for trees in one list.
use Rattle.std.proofs.Common.{◌≡◌, ◌∙◌, ◌+◌, ◌-◌, ◌<◌, ◌≤◌, ℕ, suc, List, [], ◌∷◌, ◌++◌, length, refl, sym, ap, subst, arith}
use Rattle.std.proofs.Common.{append_assoc, get_or, length-append, reverse, take, Bool, true, false}
use Rattle.std.specs.Prelude.{cond, MatchOption, None, OnErr, OnOk, Option, Result, Ok, Err, Some, Vec}
use Rattle.std.specs.declared.alloc.Global.{Global}
use Rattle.std.specs.Borrow.{Bor}
use Rattle.std.proofs.Math.ListN.{get_or-map}
use Rattle.std.proofs.Math.Seq.{take-append_seam}
use Rattle.std.proofs.lemmas.List.{get_or_append_left, get_or_push, length-map, map-append, reverse-append, take-map}
use Rattle.lalrpop_grammar_repr.specs.declared.production.Production.{Production}
use Rattle.lalrpop_grammar_symbols.specs.Views.{span_view, terminal_view}
use Rattle.lalrpop_grammar_symbols.specs.declared.terminal.TerminalString.{TerminalString}
use Rattle.lalrpop_grammar_symbols.specs.declared.span.Span.{Span}
use Rattle.lalrpop_lr1_theory.specs.Trees.{nodes, roots}
use Rattle.lalrpop_lr1_theory.specs.Spans.{SpannedForest, leaf_at, node_at, none_at, without_spans}
use Rattle.lalrpop_lr1_core.specs.Views.{production_view}
use Rattle.lalrpop_lr1_interpret.specs.ExpandedViews.{expanded_view, expanded_views, root_children}
use Rattle.lalrpop_lr1_interpret.specs.ListParts.{HasLastTrees}
use Rattle.lalrpop_lr1_interpret.specs.MoveOrders.{Entry, HasTreeSizes, tree_entries, leaf_label, node_label, trees_of}
use Rattle.lalrpop_lr1_interpret.specs.Stacks.{◌beside◌}
use Rattle.lalrpop_lr1_interpret.specs.TreeEntries.{tree_entry_view, tree_entry_views, tree_label_view}
use Rattle.lalrpop_lr1_interpret.specs.declared.parse.expanded_tree.ExpandedTree.{ExpandedTree}
use Rattle.lalrpop_lr1_interpret.specs.declared.parse.tree_entry.TreeEntry.{TreeEntry}
use Rattle.lalrpop_lr1_interpret.specs.declared.parse.tree_entry.TreeLabel.TheVariants as labels
use Rattle.lalrpop_lr1_interpret.proofs.ExpandedLemmas.{roots-beside}
use Rattle.lalrpop_lr1_interpret.proofs.LentLemmas.{last_tree, root_entry, roots_few}
use Rattle.lalrpop_lr1_interpret.proofs.MoveOrderLemmas.{count-beside, count_of_list, entries-beside, entries-long, entries_of_trees, has_sizes}
use Rattle.lalrpop_lr1_interpret.proofs.MoveOrderLemmas.{joined_sizes, joined_trees, trees_are}
use Rattle.lalrpop_lr1_interpret.proofs.StackLemmas.{beside-beside, beside-none}

-- one of the last trees more
pub last_more : (es : List TreeEntry) (d : TreeEntry) (count size : ℕ) → HasTreeSizes (tree_entry_views es) →
    HasLastTrees (trees_of (tree_entry_views es)) count size → count < length (roots (without_spans (trees_of (tree_entry_views es)))) →
    (size < length es) × HasLastTrees (trees_of (tree_entry_views es)) (count + 1) (size + (get_or es (length es - size - 1) d).size)
last_more es d count size h l few =
    let seen = tree_entry_views es in
    let all = ap (λ f. length (roots (without_spans f))) l.parts ∙ roots-beside l.kept l.children in
    let r = last_tree l.kept (omega (arith, few, all, l.many, roots_few l.kept)) in
    let e = root_entry r.tree r.one in
    let front = tree_entries r.before ++ tree_entries (root_children r.tree) in
    let back = tree_entries l.children in
    let kept_list : tree_entries l.kept ≡ front ++ e.root ∷ [] =
    ap tree_entries r.parts ∙ entries-beside r.before r.tree ∙ ap (λ x. tree_entries r.before ++ x) e.list
    ∙ sym (append_assoc (tree_entries r.before) (tree_entries (root_children r.tree)) (e.root ∷ [])) in
    let list : seen ≡ (front ++ e.root ∷ []) ++ back =
    sym (entries_of_trees seen h) ∙ ap tree_entries l.parts ∙ entries-beside l.kept l.children
    ∙ ap (λ x. x ++ back) kept_list in
    let n = length es - size - 1 in
    let one = length-append front (e.root ∷ []) in
    let sum = length-append (front ++ e.root ∷ []) back in
    let long = length-map es tree_entry_view in
    let behind : length back ≡ size = entries-long l.children ∙ l.size_is in
    let place : length front ≡ n = omega (arith, ap length list, sum, one, long, behind) in
    let read : tree_entry_view (get_or es n d) ≡ e.root =
    sym (get_or-map tree_entry_view es n d) ∙ ap (λ x. get_or x n (tree_entry_view d)) list
    ∙ get_or_append_left (front ++ e.root ∷ []) back (tree_entry_view d) n (omega (arith, one, place))
    ∙ get_or_push front e.root (tree_entry_view d) n place in (
      omega (arith, ap length list, sum, one, long, behind),
      record {
        kept = r.before;
        children = r.tree beside l.children;
        parts = l.parts ∙ ap (λ f. f beside l.children) r.parts ∙ beside-beside r.before r.tree l.children;
        many = roots-beside r.tree l.children ∙ omega (arith, r.one, l.many);
        size_is = count-beside r.tree l.children ∙ omega (arith, l.size_is, e.size, ap (λ x. x.size) read);
      },
    )

-- a node's entry behind a list that ends with its children's
pub node_added : (es after : List TreeEntry) (last : TreeEntry) (p : Bor Production) (kept children : SpannedForest) →
    HasTreeSizes (tree_entry_views es) → trees_of (tree_entry_views es) ≡ kept beside children → last.label ≡ labels.Node p →
    last.size ≡ suc (nodes (without_spans children)) → after ≡ es ++ last ∷ [] →
    HasTreeSizes (tree_entry_views after)
    × (trees_of (tree_entry_views after) ≡ kept beside node_at (production_view p.now) children none_at)
node_added es after last p kept children h t l n a =
    let q = production_view p.now in
    let ts = kept beside node_at q children none_at in
    let seen = tree_entry_views es in
    let own : List Entry = record { label = node_label q; size = suc (nodes (without_spans children)) } ∷ [] in
    let list : tree_entry_views after ≡ tree_entries ts =
    ap tree_entry_views a ∙ map-append tree_entry_view es (last ∷ [])
    ∙ ap (λ k. seen ++ record { label = tree_label_view k; size = last.size } ∷ []) l
    ∙ ap (λ k. seen ++ record { label = node_label q; size = k } ∷ []) n
    ∙ ap (λ x. x ++ own) (sym (entries_of_trees seen h) ∙ ap tree_entries t ∙ entries-beside kept children)
    ∙ append_assoc (tree_entries kept) (tree_entries children) own
    ∙ sym (entries-beside kept (node_at q children none_at)) in
    (has_sizes (tree_entry_views after) ts list, trees_are (tree_entry_views after) ts list)

-- a leaf's entry behind a list
pub leaf_added : (es after : List TreeEntry) (t : TerminalString) (span : Span) (ts : SpannedForest) →
    HasTreeSizes (tree_entry_views es) → trees_of (tree_entry_views es) ≡ ts →
    after ≡ es ++ record { label = labels.Leaf t span; size = 1 } ∷ [] →
    HasTreeSizes (tree_entry_views after)
    × (trees_of (tree_entry_views after) ≡ ts beside leaf_at (terminal_view t) (span_view span) none_at)
leaf_added es after t span ts h e a =
    let seen = tree_entry_views es in
    let own : List Entry = record { label = leaf_label (terminal_view t) (span_view span); size = 1 } ∷ [] in
    let parts : tree_entry_views after ≡ seen ++ own =
    ap tree_entry_views a ∙ map-append tree_entry_view es (record { label = labels.Leaf t span; size = 1 } ∷ []) in (
      subst HasTreeSizes (sym parts) (joined_sizes seen own h refl),
      ap trees_of parts ∙ joined_trees seen own h refl
          ∙ ap (λ f. f beside leaf_at (terminal_view t) (span_view span) none_at) e,
    )

-- the last trees have at most as many entries as there are
pub last_fit : (es : List TreeEntry) (count size : ℕ) → HasTreeSizes (tree_entry_views es) →
    HasLastTrees (trees_of (tree_entry_views es)) count size → size ≤ length es
last_fit es count size h l =
    omega (
      arith,
      count_of_list (tree_entry_views es) h,
      length-map es tree_entry_view,
      ap (λ f. nodes (without_spans f)) l.parts,
      count-beside l.kept l.children,
      l.size_is,
    )

-- and fewer, where there are more trees
pub last_leave : (es : List TreeEntry) (count size : ℕ) → HasTreeSizes (tree_entry_views es) →
    HasLastTrees (trees_of (tree_entry_views es)) count size → count < length (roots (without_spans (trees_of (tree_entry_views es)))) →
    size < length es
last_leave es count size h l few =
    omega (
      arith,
      few,
      ap (λ f. length (roots (without_spans f))) l.parts,
      roots-beside l.kept l.children,
      l.many,
      roots_few l.kept,
      count_of_list (tree_entry_views es) h,
      length-map es tree_entry_view,
      ap (λ f. nodes (without_spans f)) l.parts,
      count-beside l.kept l.children,
      l.size_is,
    )

-- no trees yet
pub none_yet : (ts : SpannedForest) → HasLastTrees ts 0 0
none_yet ts = record { kept = ts; children = none_at; parts = sym (beside-none ts); many = refl; size_is = refl }

-- a list that grew, or didn't for want of memory
pub either_order : (grew : Bool) (es more after : List TreeEntry) → after ≡ cond grew more es → HasTreeSizes (tree_entry_views es) →
    HasTreeSizes (tree_entry_views more) → HasTreeSizes (tree_entry_views after)
either_order true es more after e h k = subst (λ l. HasTreeSizes (tree_entry_views l)) (sym e) k
either_order false es more after e h k = subst (λ l. HasTreeSizes (tree_entry_views l)) (sym e) h

-- a list that was cut, or wasn't for want of memory
pub cut_order : {A E : Type 0} (r : Result A E) (old now : Vec TreeEntry Global) (part : List TreeEntry) →
    OnOk r (now.items ≡ part) → OnErr r (now ≡ old) → HasTreeSizes (tree_entry_views old.items) → HasTreeSizes (tree_entry_views part) →
    HasTreeSizes (tree_entry_views now.items)
cut_order (Ok x) old now part e f h k = subst (λ l. HasTreeSizes (tree_entry_views l)) (sym e) k
cut_order (Err x) old now part e f h k = subst (λ (v : Vec TreeEntry Global). HasTreeSizes (tree_entry_views v.items)) (sym f) h

-- the first of the trees, by how many leaves and nodes they have
pub first_kept : (es : List TreeEntry) (first others : SpannedForest) (n : ℕ) → HasTreeSizes (tree_entry_views es) →
    trees_of (tree_entry_views es) ≡ first beside others → nodes (without_spans first) ≡ n →
    tree_entry_views (take n es) ≡ tree_entries first
first_kept es first others n h e k =
    sym (take-map tree_entry_view n es)
    ∙ ap (λ l. take n l) (sym (entries_of_trees (tree_entry_views es) h) ∙ ap tree_entries e ∙ entries-beside first others)
    ∙ ap (λ j. take j (tree_entries first ++ tree_entries others)) (sym k ∙ sym (entries-long first))
    ∙ take-append_seam (tree_entries first) (tree_entries others)

-- one tree more that was taken off the end of a list
pub taken_more : (whole before left : SpannedForest) (done more : List ExpandedTree) (tree : ExpandedTree) →
    before beside expanded_views (reverse done) ≡ whole → before ≡ left beside expanded_view tree → more ≡ done ++ tree ∷ [] →
    left beside expanded_views (reverse more) ≡ whole
taken_more whole before left done more tree e b m =
    ap (λ l. left beside expanded_views (reverse l)) m
    ∙ ap (λ l. left beside expanded_views l) (reverse-append done (tree ∷ []))
    ∙ sym (beside-beside left (expanded_view tree) (expanded_views (reverse done)))
    ∙ ap (λ f. f beside expanded_views (reverse done)) (sym b)
    ∙ e

-- what is known where no tree was taken off
pub none_taken_off : (last : Option ExpandedTree) (Empty : Type 0) (Taken : ExpandedTree → Type 0) → MatchOption last Empty Taken →
    ((tree : ExpandedTree) → last ≡ Some tree → ⊥) → Empty
none_taken_off None Empty Taken h none = h
none_taken_off (Some tree) Empty Taken h none = absurd (none tree refl)
