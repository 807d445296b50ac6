-- The written trees of the trees that the first entries of a list are, one entry after another: for unfolding.
use Rattle.std.proofs.Common.{◌≡◌, ◌∙◌, ◌+◌, ◌-◌, ◌<◌, ◌≤◌, ℕ, List, [], ◌∷◌, ◌++◌}
use Rattle.std.proofs.Common.{length, length-append, map, ap, ap₂, sym, arith, drop, get_or, subst, take}
use Rattle.std.proofs.Math.Seq.{drop-append_seam, take-append_seam}
use Rattle.std.proofs.lemmas.List.{drop-map, length-map, map-append, take-append-drop, take-map, take_all, take_more}
use Rattle.lalrpop_grammar.specs.Trees.{Tree}
use Rattle.lalrpop_grammar.specs.Views.{tree_view}
use Rattle.lalrpop_grammar.specs.declared.tree.WrittenTree.{WrittenTree}
use Rattle.lalrpop_grammar_language.specs.Derivations.{leaf_token}
use Rattle.lalrpop_grammar_symbols.specs.Symbols.{Terminal, TextSpan}
use Rattle.lalrpop_lr1_interpret.specs.MoveOrders.{Entry, EntryLabel, tree_entries, first_trees, last_trees, leaf_label, node_label, trees_after}
use Rattle.lalrpop_lr1_interpret.specs.MoveOrders.{trees_of, with_label}
use Rattle.lalrpop_lr1_interpret.specs.Stacks.{◌beside◌}
use Rattle.lalrpop_lr1_interpret.specs.TreeEntries.{tree_entry_view, tree_entry_views, tree_label_view}
use Rattle.lalrpop_lr1_interpret.specs.declared.parse.tree_entry.TreeEntry.{TreeEntry}
use Rattle.lalrpop_lr1_interpret.proofs.MoveOrderLemmas.{after_more, cut-beside, entries-long, trees_are}
use Rattle.lalrpop_lr1_interpret.proofs.LentLemmas.{roots_few}
use Rattle.lalrpop_lr1_interpret.proofs.StackLemmas.{without-beside}
use Rattle.lalrpop_lr1_theory.specs.Productions.{Production}
use Rattle.lalrpop_lr1_theory.specs.Spans.{SpannedForest, leaf_at, node_at, none_at, without_spans}
use Rattle.lalrpop_lr1_theory.specs.Trees.{AreOver, roots}
use Rattle.lalrpop_lr1_theory.proofs.TreeLemmas.{over-and, over-split}
use Rattle.lalrpop_run_trees.specs.ActionLabels.{ChoiceLabel}
use Rattle.lalrpop_run_trees.specs.LabelledTrees.{shown_trees, tree_by_label}
use Rattle.lalrpop_run_trees.proofs.TakenLemmas.{shown_count}
use Rattle.lalrpop_run_parser.proofs.WrittenStackLemmas.{shown_beside}

module _ (G : Production → Type 0) where
  -- of trees beside others both are over the productions
  pub over_parts : (ts us : SpannedForest) → AreOver G (without_spans (ts beside us)) →
      AreOver G (without_spans ts) × AreOver G (without_spans us)
  over_parts ts us h = over-split G (without_spans ts) (without_spans us) (subst (AreOver G) (without-beside ts us) h)

  -- what stands before an entry is over the productions where what stands behind it is
  over_label : (ts : SpannedForest) (l : EntryLabel) (n : ℕ) → AreOver G (without_spans (with_label ts l n)) →
      AreOver G (without_spans ts)
  over_label ts (leaf_label t span) n h = (over_parts ts (leaf_at t span none_at) h).0
  over_label ts (node_label p) n h =
      let first = first_trees (n - 1) ts in
      let last = last_trees (n - 1) ts in
      let both = over_parts first (node_at p last none_at) h in
      subst (λ f. AreOver G (without_spans f)) (cut-beside (n - 1) ts)
      (subst (AreOver G) (sym (without-beside first last)) (over-and G (without_spans first) (without_spans last) both.0 both.1.2))

  pub over_after : (ts : SpannedForest) (es : List Entry) → AreOver G (without_spans (trees_after ts es)) →
      AreOver G (without_spans ts)
  over_after ts [] h = h
  over_after ts (e ∷ es) h = over_label ts e.label e.size (over_after (with_label ts e.label e.size) es h)

  -- so are the trees of the first entries
  pub over_first : (es : List TreeEntry) (i : ℕ) → AreOver G (without_spans (trees_of (tree_entry_views es))) →
      AreOver G (without_spans (trees_of (tree_entry_views (take i es))))
  over_first es i h =
      let front = tree_entry_views (take i es) in
      let back = tree_entry_views (drop i es) in
      over_after (trees_of front) back
      (subst (λ f. AreOver G (without_spans f))
      (ap (λ l. trees_of (tree_entry_views l)) (sym (take-append-drop i es))
      ∙ ap trees_of (map-append tree_entry_view (take i es) (drop i es)) ∙ after_more none_at front back) h)

-- the trees of one entry more
pub trees_next : (es : List TreeEntry) (i : ℕ) (e : TreeEntry) → i < length es → e ≡ get_or es i e →
    trees_of (tree_entry_views (take (i + 1) es)) ≡ with_label (trees_of (tree_entry_views (take i es))) (tree_label_view e.label) e.size
trees_next es i e less read =
    let front = take i es in
    ap (λ l. trees_of (tree_entry_views l)) (take_more es i e less ∙ ap (λ x. front ++ x ∷ []) (sym read))
    ∙ ap trees_of (map-append tree_entry_view front (e ∷ []))
    ∙ after_more none_at (tree_entry_views front) (tree_entry_view e ∷ [])

-- trees that end with as many as a node wants: those in front, and these
pub record HasBelow (before below : List Tree) (front back : List WrittenTree) : Type 0 where
  pub front_is : map tree_view front ≡ before
  pub back_is : map tree_view back ≡ below
  pub long : length back ≡ length below

pub below_cut : (before below : List Tree) (count k : ℕ) (old front back : List WrittenTree) → map tree_view old ≡ before ++ below →
    length below ≡ count → k ≡ length old - count → front ≡ take k old → back ≡ drop k old → HasBelow before below front back
below_cut before below count k old front back e long k_is f b =
    let place : k ≡ length before =
    omega (arith, k_is, ap length e, length-map old tree_view, length-append before below, long) in
    let back_is : map tree_view back ≡ below =
    ap (λ l. map tree_view l) b ∙ sym (drop-map tree_view k old) ∙ ap₂ (λ j l. drop j l) place e ∙ drop-append_seam before below in
    record {
      front_is = ap (λ l. map tree_view l) f ∙ sym (take-map tree_view k old) ∙ ap₂ (λ j l. take j l) place e
          ∙ take-append_seam before below;
      back_is = back_is;
      long = sym (length-map back tree_view) ∙ ap length back_is;
    }

-- one written tree more
pub written_more : (old new : List WrittenTree) (m : WrittenTree) (before : List Tree) (u : Tree) → map tree_view old ≡ before →
    tree_view m ≡ u → new ≡ old ++ m ∷ [] → map tree_view new ≡ before ++ u ∷ []
written_more old new m before u h e a =
    ap (λ l. map tree_view l) a ∙ map-append tree_view old (m ∷ []) ∙ ap₂ (λ l x. l ++ x ∷ []) h e

-- with a leaf more
pub leaf_shown : (label_of : ℕ → ChoiceLabel) (trees : SpannedForest) (l : EntryLabel) (t : Terminal) (span : TextSpan) (n : ℕ)
    (old new : List Tree) → l ≡ leaf_label t span → old ≡ shown_trees label_of trees →
    new ≡ old ++ Tree.terminal (leaf_token t span) ∷ [] → new ≡ shown_trees label_of (with_label trees l n)
leaf_shown label_of trees l t span n old new is h e =
    e ∙ ap (λ x. x ++ Tree.terminal (leaf_token t span) ∷ []) h ∙ sym (shown_beside label_of trees (leaf_at t span none_at))
    ∙ ap (λ x. shown_trees label_of (with_label trees x n)) (sym is)

-- With a node more: its children's written trees are the last, as many as its production has symbols.
pub record HasNodeBelow (T : Production → Type 0) (label_of : ℕ → ChoiceLabel) (trees : SpannedForest) (l : EntryLabel) (p : Production)
    (n : ℕ) : Type 0 where
  pub before : List Tree
  pub below : List Tree
  pub told : T p
  pub parts : shown_trees label_of trees ≡ before ++ below
  pub long : length below ≡ length p.right
  pub shown : before ++ tree_by_label (label_of p.action) below ∷ [] ≡ shown_trees label_of (with_label trees l n)

pub node_below : (T : Production → Type 0) (label_of : ℕ → ChoiceLabel) (trees : SpannedForest) (l : EntryLabel) (p : Production)
    (n : ℕ) → l ≡ node_label p → AreOver T (without_spans (with_label trees l n)) → HasNodeBelow T label_of trees l p n
node_below T label_of trees l p n is over =
    let first = first_trees (n - 1) trees in
    let last = last_trees (n - 1) trees in
    let both = over_parts T first (node_at p last none_at) (subst (λ x. AreOver T (without_spans (with_label trees x n))) is over) in
    record {
      before = shown_trees label_of first;
      below = shown_trees label_of last;
      told = both.1.0;
      parts = ap (λ f. shown_trees label_of f) (sym (cut-beside (n - 1) trees)) ∙ shown_beside label_of first last;
      long = shown_count label_of last ∙ ap length both.1.1;
      shown = sym (shown_beside label_of first (node_at p last none_at))
          ∙ ap (λ x. shown_trees label_of (with_label trees x n)) (sym is);
    }

-- at the end the last written tree is the only one
pub only_written : (label_of : ℕ → ChoiceLabel) (whole : SpannedForest) (made rest : List WrittenTree) (m : WrittenTree) →
    length (roots (without_spans whole)) ≡ 1 → made ≡ rest ++ m ∷ [] → map tree_view made ≡ shown_trees label_of whole →
    tree_view m ∷ [] ≡ shown_trees label_of whole
only_written label_of whole made [] m one e shown = ap (λ l. map tree_view l) (sym e) ∙ shown
only_written label_of whole made (x ∷ rest) m one e shown =
    absurd (omega (
      arith,
      ap length shown,
      length-map made tree_view,
      shown_count label_of whole,
      one,
      ap length e,
      length-append rest (m ∷ []),
    ))

-- the entries of a tree, to the last one
pub whole_trees : (es : List TreeEntry) (ts : SpannedForest) → tree_entry_views es ≡ tree_entries ts → trees_of (tree_entry_views es) ≡ ts
whole_trees es ts e = trees_are (tree_entry_views es) ts e

pub whole_list : (es : List TreeEntry) (i : ℕ) (ts : SpannedForest) → tree_entry_views es ≡ tree_entries ts → length es ≤ i →
    trees_of (tree_entry_views (take i es)) ≡ ts
whole_list es i ts e h = ap (λ l. trees_of (tree_entry_views l)) (take_all i es h) ∙ whole_trees es ts e

-- one at least
pub some_entries : (es : List TreeEntry) (ts : SpannedForest) → tree_entry_views es ≡ tree_entries ts →
    length (roots (without_spans ts)) ≡ 1 → 0 < length es
some_entries es ts e one = omega (arith, length-map es tree_entry_view, ap length e, entries-long ts, roots_few ts, one)
