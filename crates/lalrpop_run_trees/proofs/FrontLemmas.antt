-- The tree of a label reads as many trees as the label keeps, and no more; for the trees of actions.
use Rattle.std.proofs.Common.{◌≡◌, ◌≤◌, ℕ, List, [], ◌∷◌, ◌++◌, length, refl, ap, ap₂, sym, ◌∙◌, arith}
use Rattle.std.specs.Prelude.{drop, take}
use Rattle.std.proofs.lemmas.List.{drop-append-le, length-drop, length-take-le, take-append-drop}
use Rattle.lalrpop_grammar.specs.Trees.{Tree, trees}
use Rattle.lalrpop_grammar.specs.WrittenGrammar.{Origin}
use Rattle.lalrpop_grammar_language.specs.Derivations.{tree_by_origin}
use Rattle.lalrpop_grammar_language.specs.Expansion.{Nonterminal}
use Rattle.lalrpop_grammar_language.specs.Labels.{Inlinings, Label}
use Rattle.lalrpop_run_trees.specs.ActionLabels.{ChoiceInlinings, ChoiceLabel, all_kept, kept_count, kept_counts}
use Rattle.lalrpop_run_trees.specs.LabelledTrees.{tree_by_label, trees_by_inlinings}

mutual
  front_tree : (label : ChoiceLabel) (us vs : List Tree) → kept_count label ≤ length us →
      tree_by_label label (us ++ vs) ≡ tree_by_label label us
  front_tree (Label.choose x o inlinings) us vs h = ap (λ l. tree_by_origin o (trees l)) (front_trees inlinings us vs h)

  front_trees : (inlinings : ChoiceInlinings) (us vs : List Tree) → kept_counts inlinings ≤ length us →
      trees_by_inlinings inlinings (us ++ vs) ≡ trees_by_inlinings inlinings us
  front_trees Inlinings.none us vs h = refl
  front_trees (Inlinings.kept inlinings) [] vs h = absurd (omega (arith, h))
  front_trees (Inlinings.kept inlinings) (u ∷ us) vs h = ap (λ l. u ∷ l) (front_trees inlinings us vs (omega (arith, h)))
  front_trees (Inlinings.inlined label inlinings) us vs h =
      ap₂ (λ t l. t ∷ l) (front_tree label us vs (omega (arith, h)))
      (ap (λ l. trees_by_inlinings inlinings l) (drop-append-le (kept_count label) us vs (omega (arith, h)))
      ∙ front_trees inlinings (drop (kept_count label) us) vs (omega (arith, h, length-drop (kept_count label) us)))

-- the tree over the first trees, as many as the label keeps
pub tree_of_front : (label : ChoiceLabel) (n : ℕ) (ts : List Tree) → kept_count label ≡ n → n ≤ length ts →
    tree_by_label label (take n ts) ≡ tree_by_label label ts
tree_of_front label n ts e h =
    sym (front_tree label (take n ts) (drop n ts) (omega (arith, e, length-take-le n ts h)))
    ∙ ap (λ l. tree_by_label label l) (take-append-drop n ts)

-- where all are kept, they stay
pub kept_trees : (ts : List Tree) → trees_by_inlinings (all_kept {N = Nonterminal} {C = Origin} (length ts)) ts ≡ ts
kept_trees [] = refl
kept_trees (t ∷ ts) = ap (λ l. t ∷ l) (kept_trees ts)
