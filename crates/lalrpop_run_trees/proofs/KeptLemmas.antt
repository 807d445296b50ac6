-- The trees that a label keeps of a tree: the tree is that of the label over them, they are its only ones, as many as the label keeps, and
-- they have its leaves; for taking apart.
use Rattle.std.proofs.Common.{◌≡◌, ◌+◌, suc, List, [], ◌∷◌, ◌++◌, length, ap, ap₂, sym, ◌∙◌, subst}
use Rattle.std.proofs.Common.{append_assoc, length-append}
use Rattle.std.specs.Prelude.{drop, flat_map}
use Rattle.std.proofs.lemmas.List.{append-nil}
use Rattle.std.proofs.Math.Seq.{drop-append_seam}
use Rattle.std.proofs.lemmas.Grind.{flat_map-append}
use Rattle.lalrpop_grammar.specs.Trees.{Tree, leaves, trees}
use Rattle.lalrpop_grammar_language.specs.Derivations.{tree_by_origin}
use Rattle.lalrpop_grammar_language.specs.Labels.{Inlinings, Label}
use Rattle.lalrpop_run_trees.specs.ActionLabels.{ChoiceInlinings, ChoiceLabel, kept_count, kept_counts}
use Rattle.lalrpop_run_trees.specs.LabelledTrees.{tree_by_label, trees_by_inlinings}
use Rattle.lalrpop_run_trees.specs.KeptTrees.{AreAllKeptBy, AreKeptBy}
use Rattle.lalrpop_run_trees.proofs.ChildrenLemmas.{children_leaves, children_once, children_tree}

mutual
  -- they are as many as the label keeps
  pub kept_long : (label : ChoiceLabel) (t : Tree) (us : List Tree) → AreKeptBy label t us → length us ≡ kept_count label
  kept_long (Label.choose x o inlinings) t us (children, by, all) = all_long inlinings children us all

  pub all_long : (inlinings : ChoiceInlinings) (children us : List Tree) → AreAllKeptBy inlinings children us →
      length us ≡ kept_counts inlinings
  all_long Inlinings.none children us h = ap length h.1
  all_long (Inlinings.kept inlinings) children us h = ap length h.trees_are ∙ ap suc (all_long inlinings h.others h.left h.rest)
  all_long (Inlinings.inlined label inlinings) children us h =
      ap length h.trees_are ∙ length-append h.front h.left
      ∙ ap₂ (λ a b. a + b) (kept_long label h.first h.front h.kept) (all_long inlinings h.others h.left h.rest)

mutual
  -- the tree is that of the label over them, and whatever comes behind
  kept_tree_before : (label : ChoiceLabel) (t : Tree) (us vs : List Tree) → AreKeptBy label t us → tree_by_label label (us ++ vs) ≡ t
  kept_tree_before (Label.choose x o inlinings) t us vs (children, by, all) =
      ap (λ l. tree_by_origin o (trees l)) (all_trees_before inlinings children us vs all) ∙ children_tree o t children by

  all_trees_before : (inlinings : ChoiceInlinings) (children us vs : List Tree) → AreAllKeptBy inlinings children us →
      trees_by_inlinings inlinings (us ++ vs) ≡ children
  all_trees_before Inlinings.none children us vs h = sym h.0
  all_trees_before (Inlinings.kept inlinings) children us vs h =
      ap (λ l. trees_by_inlinings (Inlinings.kept inlinings) (l ++ vs)) h.trees_are
      ∙ ap (λ l. h.first ∷ l) (all_trees_before inlinings h.others h.left vs h.rest) ∙ sym h.children_are
  all_trees_before (Inlinings.inlined label inlinings) children us vs h =
      ap (λ l. trees_by_inlinings (Inlinings.inlined label inlinings) l)
      (ap (λ l. l ++ vs) h.trees_are ∙ append_assoc h.front h.left vs)
      ∙ ap₂ (λ u l. u ∷ l) (kept_tree_before label h.first h.front (h.left ++ vs) h.kept)
      (ap (λ n. trees_by_inlinings inlinings (drop n (h.front ++ (h.left ++ vs)))) (sym (kept_long label h.first h.front h.kept))
      ∙ ap (λ l. trees_by_inlinings inlinings l) (drop-append_seam h.front (h.left ++ vs))
      ∙ all_trees_before inlinings h.others h.left vs h.rest)
      ∙ sym h.children_are

-- a tree is what its label makes of the trees that the label keeps of it
pub kept_tree : (label : ChoiceLabel) (t : Tree) (us : List Tree) → AreKeptBy label t us → tree_by_label label us ≡ t
kept_tree label t us h = ap (λ l. tree_by_label label l) (sym (append-nil us)) ∙ kept_tree_before label t us [] h

-- lists are equal where both parts are
pub cons_same : (x y : Tree) (xs ys : List Tree) → x ∷ xs ≡ y ∷ ys → (x ≡ y) × (xs ≡ ys)
cons_same x y xs ys e = (cc, cc)

mutual
  -- there are no others
  pub kept_once : (label : ChoiceLabel) (t : Tree) (us vs : List Tree) → AreKeptBy label t us → AreKeptBy label t vs → us ≡ vs
  kept_once (Label.choose x o inlinings) t us vs (children, by, all) (others, also, every) =
      all_once inlinings others us vs
      (subst (λ l. AreAllKeptBy inlinings l us) (children_once o t children others by also) all) every

  all_once : (inlinings : ChoiceInlinings) (children us vs : List Tree) → AreAllKeptBy inlinings children us →
      AreAllKeptBy inlinings children vs → us ≡ vs
  all_once Inlinings.none children us vs h k = h.1 ∙ sym k.1
  all_once (Inlinings.kept inlinings) children us vs h k =
      let same = cons_same k.first h.first k.others h.others (sym k.children_are ∙ h.children_are) in
      h.trees_are
      ∙ ap₂ (λ u l. u ∷ l) (sym same.0)
      (all_once inlinings h.others h.left k.left h.rest (subst (λ l. AreAllKeptBy inlinings l k.left) same.1 k.rest))
      ∙ sym k.trees_are
  all_once (Inlinings.inlined label inlinings) children us vs h k =
      let same = cons_same k.first h.first k.others h.others (sym k.children_are ∙ h.children_are) in
      h.trees_are
      ∙ ap₂ (λ a b. a ++ b)
      (kept_once label h.first h.front k.front h.kept (subst (λ u. AreKeptBy label u k.front) same.0 k.kept))
      (all_once inlinings h.others h.left k.left h.rest (subst (λ l. AreAllKeptBy inlinings l k.left) same.1 k.rest))
      ∙ sym k.trees_are

mutual
  -- they have its leaves
  pub kept_leaves : (label : ChoiceLabel) (t : Tree) (us : List Tree) → AreKeptBy label t us → leaves t ≡ flat_map leaves us
  kept_leaves (Label.choose x o inlinings) t us (children, by, all) =
      children_leaves o t children by ∙ all_leaves inlinings children us all

  all_leaves : (inlinings : ChoiceInlinings) (children us : List Tree) → AreAllKeptBy inlinings children us →
      flat_map leaves children ≡ flat_map leaves us
  all_leaves Inlinings.none children us h = ap (λ l. flat_map leaves l) (h.0 ∙ sym h.1)
  all_leaves (Inlinings.kept inlinings) children us h =
      ap (λ l. flat_map leaves l) h.children_are
      ∙ ap (λ l. leaves h.first ++ l) (all_leaves inlinings h.others h.left h.rest)
      ∙ ap (λ l. flat_map leaves l) (sym h.trees_are)
  all_leaves (Inlinings.inlined label inlinings) children us h =
      ap (λ l. flat_map leaves l) h.children_are
      ∙ ap₂ (λ a b. a ++ b) (kept_leaves label h.first h.front h.kept) (all_leaves inlinings h.others h.left h.rest)
      ∙ sym (flat_map-append leaves h.front h.left)
      ∙ ap (λ l. flat_map leaves l) (sym h.trees_are)
