-- The written tree of an expanded tree, taken apart, is that of its label over the written trees of its children: for the trees that
-- a parse makes.
use Rattle.std.proofs.Common.{◌≡◌, ◌+◌, ℕ, suc, List, [], ◌∷◌, length, refl, ap, ap₂, sym, ◌∙◌, arith}
use Rattle.std.specs.Prelude.{drop}
use Rattle.std.proofs.lemmas.List.{drop-drop}
use Rattle.lalrpop_grammar.specs.Trees.{Tree, Trees, trees}
use Rattle.lalrpop_grammar.specs.WrittenGrammar.{Origin}
use Rattle.lalrpop_grammar_language.specs.Derivations.{tree_by_origin, written_tree, written_trees}
use Rattle.lalrpop_grammar_language.specs.Expansion.{Nonterminal}
use Rattle.lalrpop_grammar_language.specs.Labels.{Inlinings, Label}
use Rattle.lalrpop_grammar_language.specs.BaseTrees.{BaseTrees}
use Rattle.lalrpop_grammar_language.specs.ExpandedTrees.{ExpandedTree, ExpandedTrees, base_tree, base_trees, take_tree, take_trees}
use Rattle.lalrpop_grammar_language.specs.WrittenTrees.{derivation_of_tree, derivations_of_trees, tree_written}
use Rattle.lalrpop_lr1_theory.specs.Productions.{Production}
use Rattle.lalrpop_lr1_theory.specs.Spans.{SpannedForest, leaf_at, node_at, none_at, without_spans}
use Rattle.lalrpop_lr1_theory.specs.Trees.{AreOver, roots}
use Rattle.lalrpop_run_theory.specs.ExpansionTrees.{first_expanded, trees_by_labels, written_of_forest}
use Rattle.lalrpop_run_trees.specs.ActionLabels.{ChoiceInlinings, ChoiceLabel, kept_count, kept_counts}
use Rattle.lalrpop_run_trees.specs.LabelledTrees.{shown_trees, tree_by_label, trees_by_inlinings}

-- the written trees of trees before inlining
abbrev written_list : BaseTrees Nonterminal Origin → List Tree
written_list BaseTrees.none = []
written_list (BaseTrees.more d ds) = written_tree (derivation_of_tree d) ∷ written_list ds

trees_written : (ds : BaseTrees Nonterminal Origin) → trees (written_list ds) ≡ written_trees (derivations_of_trees ds)
trees_written BaseTrees.none = refl
trees_written (BaseTrees.more d ds) = ap (Trees.more (written_tree (derivation_of_tree d))) (trees_written ds)

-- What a label takes from the front of trees: a tree, and what is left.
record Takes (label : ChoiceLabel) (ds : BaseTrees Nonterminal Origin) (left : ℕ) : Type 0 where
  tree_is : written_tree (derivation_of_tree (take_tree label ds).0) ≡ tree_by_label label (written_list ds)
  rest_is : written_list (take_tree label ds).1 ≡ drop (kept_count label) (written_list ds)
  left_is : length (written_list (take_tree label ds).1) ≡ left

-- the same of what a label says of symbols
record TakeAll (inlinings : ChoiceInlinings) (ds : BaseTrees Nonterminal Origin) (left : ℕ) : Type 0 where
  trees_are : written_list (take_trees inlinings ds).0 ≡ trees_by_inlinings inlinings (written_list ds)
  rest_is : written_list (take_trees inlinings ds).1 ≡ drop (kept_counts inlinings) (written_list ds)
  left_is : length (written_list (take_trees inlinings ds).1) ≡ left

-- one more symbol that is inlined
inlined_takes : (label : ChoiceLabel) (inlinings : ChoiceInlinings) (ds : BaseTrees Nonterminal Origin) (left : ℕ) →
    Takes label ds (kept_counts inlinings + left) → TakeAll inlinings (take_tree label ds).1 left →
    TakeAll (Inlinings.inlined label inlinings) ds left
inlined_takes label inlinings ds left a b =
    record {
      trees_are = ap₂ (λ t l. t ∷ l) a.tree_is (b.trees_are ∙ ap (λ l. trees_by_inlinings inlinings l) a.rest_is);
      rest_is =
          b.rest_is ∙ ap (λ l. drop (kept_counts inlinings) l) a.rest_is
          ∙ drop-drop (kept_counts inlinings) (kept_count label) (written_list ds);
      left_is = b.left_is;
    }

mutual
  takes : (label : ChoiceLabel) (ds : BaseTrees Nonterminal Origin) (left : ℕ) →
      length (written_list ds) ≡ kept_count label + left → Takes label ds left
  takes (Label.choose x o inlinings) ds left e =
      let a = take_all inlinings ds left e in
      record {
        tree_is =
            ap (λ l. tree_by_origin o l) (sym (trees_written (take_trees inlinings ds).0) ∙ ap (λ l. trees l) a.trees_are);
        rest_is = a.rest_is;
        left_is = a.left_is;
      }

  take_all : (inlinings : ChoiceInlinings) (ds : BaseTrees Nonterminal Origin) (left : ℕ) →
      length (written_list ds) ≡ kept_counts inlinings + left → TakeAll inlinings ds left
  take_all Inlinings.none ds left e = record { trees_are = refl; rest_is = refl; left_is = omega (arith, e) }
  take_all (Inlinings.kept inlinings) BaseTrees.none left e = absurd (omega (arith, e))
  take_all (Inlinings.kept inlinings) (BaseTrees.more d ds) left e =
      let a = take_all inlinings ds left (omega (arith, e)) in
      record {
        trees_are = ap (λ l. written_tree (derivation_of_tree d) ∷ l) a.trees_are;
        rest_is = a.rest_is;
        left_is = a.left_is;
      }
  take_all (Inlinings.inlined label inlinings) ds left e =
      let a = takes label ds (kept_counts inlinings + left) (omega (arith, e)) in
      inlined_takes label inlinings ds left a (take_all inlinings (take_tree label ds).1 left a.left_is)

-- the label of each production keeps as many symbols as stand on its right side
abbrev pub KeepSymbols : (ℕ → ChoiceLabel) → SpannedForest → Type 0
KeepSymbols label_of ts = AreOver (λ p. kept_count (label_of p.action) ≡ length p.right) (without_spans ts)

-- trees over productions have as many roots as written trees are shown of them
pub shown_count : (label_of : ℕ → ChoiceLabel) (ts : SpannedForest) →
    length (shown_trees label_of ts) ≡ length (roots (without_spans ts))
shown_count label_of none_at = refl
shown_count label_of (leaf_at t span ts) = ap suc (shown_count label_of ts)
shown_count label_of (node_at p cs ts) = ap suc (shown_count label_of ts)

-- the written tree of a node
node_taken : (label_of : ℕ → ChoiceLabel) (p : Production) (cs : SpannedForest) →
    kept_count (label_of p.action) ≡ length p.right → roots (without_spans cs) ≡ p.right →
    written_list (base_trees (trees_by_labels label_of cs)) ≡ shown_trees label_of cs →
    written_tree (derivation_of_tree (base_tree (ExpandedTree.node (label_of p.action) (trees_by_labels label_of cs))))
    ≡ tree_by_label (label_of p.action) (shown_trees label_of cs)
node_taken label_of p cs keeps right inner =
    let counted : length (written_list (base_trees (trees_by_labels label_of cs))) ≡ kept_count (label_of p.action) + 0 =
    omega (arith, ap length inner, shown_count label_of cs, ap length right, keeps) in
    (takes (label_of p.action) (base_trees (trees_by_labels label_of cs)) 0 counted).tree_is
    ∙ ap (λ l. tree_by_label (label_of p.action) l) inner

written_are_shown : (label_of : ℕ → ChoiceLabel) (ts : SpannedForest) → KeepSymbols label_of ts →
    written_list (base_trees (trees_by_labels label_of ts)) ≡ shown_trees label_of ts
written_are_shown label_of none_at h = refl
written_are_shown label_of (leaf_at t span ts) h = ap₂ (λ u l. u ∷ l) refl (written_are_shown label_of ts h)
written_are_shown label_of (node_at p cs ts) h =
    ap₂ (λ u l. u ∷ l) (node_taken label_of p cs h.0 h.1 (written_are_shown label_of cs h.2)) (written_are_shown label_of ts h.3)

first_written : (es : ExpandedTrees Nonterminal Origin) (v : Tree) (vs : List Tree) → written_list (base_trees es) ≡ v ∷ vs →
    tree_written (first_expanded es) ≡ v
first_written ExpandedTrees.none v vs e = absurd (cc)
first_written (ExpandedTrees.more d ds) v vs e = cc

-- the written tree that one tree over productions stands for is the one that is shown
pub written_is_shown : (label_of : ℕ → ChoiceLabel) (ts : SpannedForest) (v : Tree) → KeepSymbols label_of ts →
    shown_trees label_of ts ≡ v ∷ [] → written_of_forest label_of ts ≡ v
written_is_shown label_of ts v keeps e =
    first_written (trees_by_labels label_of ts) v [] (written_are_shown label_of ts keeps ∙ e)
