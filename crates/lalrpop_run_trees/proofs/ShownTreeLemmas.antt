-- The tree of a label commutes with showing leaves, and showing leaves keeps how many there are: for the trees that a parse makes.
use Rattle.std.proofs.Common.{◌≡◌, ◌+◌, List, [], ◌∷◌, length, refl, ap, ap₂, sym, ◌∙◌, length-append}
use Rattle.std.specs.Prelude.{drop, map}
use Rattle.std.proofs.lemmas.List.{drop-map}
use Rattle.lalrpop_grammar.specs.Trees.{Tree, Trees, leaves, leaves_of, trees}
use Rattle.lalrpop_grammar.specs.WrittenGrammar.{Origin}
use Rattle.lalrpop_grammar_language.specs.Derivations.{append_tree, first_tree, join_trees, plus_more_tree, tree_by_origin}
use Rattle.lalrpop_grammar_language.specs.Derivations.{with_shown, with_shown_all}
use Rattle.lalrpop_grammar_language.specs.Labels.{Inlinings, Label}
use Rattle.lalrpop_run_trees.specs.ActionLabels.{ChoiceInlinings, ChoiceLabel, kept_count}
use Rattle.lalrpop_run_trees.specs.LabelledTrees.{tree_by_label, trees_by_inlinings}

shown_list : (us : List Tree) → with_shown_all (trees us) ≡ trees (map with_shown us)
shown_list [] = refl
shown_list (u ∷ us) = ap (Trees.more (with_shown u)) (shown_list us)

shown_first : (ts : Trees) → with_shown (first_tree ts) ≡ first_tree (with_shown_all ts)
shown_first Trees.none = refl
shown_first (Trees.more t ts) = refl

shown_join : (ts us : Trees) → with_shown_all (join_trees ts us) ≡ join_trees (with_shown_all ts) (with_shown_all us)
shown_join Trees.none us = refl
shown_join (Trees.more t ts) us = ap (Trees.more (with_shown t)) (shown_join ts us)

shown_longer : (t u : Tree) → with_shown (append_tree t u) ≡ append_tree (with_shown t) (with_shown u)
shown_longer (Tree.rule n args place ts) u = refl
shown_longer (Tree.list ts) u = ap Tree.list (shown_join ts (Trees.more u Trees.none))
shown_longer Tree.opt_none u = refl
shown_longer (Tree.opt_some t) u = refl
shown_longer (Tree.group ts) u = refl
shown_longer (Tree.terminal k) u = refl
shown_longer Tree.look u = refl

shown_more : (ts : Trees) → with_shown (plus_more_tree ts) ≡ plus_more_tree (with_shown_all ts)
shown_more Trees.none = refl
shown_more (Trees.more t Trees.none) = refl
shown_more (Trees.more t (Trees.more u rest)) = shown_longer t u

shown_choice : (o : Origin) (ts : Trees) → with_shown (tree_by_origin o ts) ≡ tree_by_origin o (with_shown_all ts)
shown_choice Origin.start ts = shown_first ts
shown_choice (Origin.alternative n args place) ts = refl
shown_choice Origin.pass_down ts = shown_first ts
shown_choice Origin.plus_one ts = refl
shown_choice Origin.plus_more ts = shown_more ts
shown_choice Origin.star_none ts = refl
shown_choice Origin.star_some ts = shown_first ts
shown_choice Origin.opt_none ts = refl
shown_choice Origin.opt_some ts = ap Tree.opt_some (shown_first ts)
shown_choice Origin.group ts = refl
shown_choice Origin.look ts = refl

mutual
  -- the tree of a label over trees whose leaves are shown
  pub shown_tree : (label : ChoiceLabel) (ts : List Tree) →
      with_shown (tree_by_label label ts) ≡ tree_by_label label (map with_shown ts)
  shown_tree (Label.choose x o inlinings) ts =
      shown_choice o (trees (trees_by_inlinings inlinings ts))
      ∙ ap (λ l. tree_by_origin o l) (shown_list (trees_by_inlinings inlinings ts) ∙ ap trees (all_shown inlinings ts))

  all_shown : (inlinings : ChoiceInlinings) (ts : List Tree) →
      map with_shown (trees_by_inlinings inlinings ts) ≡ trees_by_inlinings inlinings (map with_shown ts)
  all_shown Inlinings.none ts = refl
  all_shown (Inlinings.kept inlinings) [] = ap (λ l. Tree.opt_none ∷ l) (all_shown inlinings [])
  all_shown (Inlinings.kept inlinings) (t ∷ ts) = ap (λ l. with_shown t ∷ l) (all_shown inlinings ts)
  all_shown (Inlinings.inlined label inlinings) ts =
      ap₂ (λ u l. u ∷ l) (shown_tree label ts)
      (all_shown inlinings (drop (kept_count label) ts)
      ∙ ap (λ l. trees_by_inlinings inlinings l) (sym (drop-map with_shown (kept_count label) ts)))

mutual
  -- a tree has as many leaves once they are shown
  pub shown_leaves : (t : Tree) → length (leaves (with_shown t)) ≡ length (leaves t)
  shown_leaves (Tree.rule n args place ts) = all_shown_leaves ts
  shown_leaves (Tree.list ts) = all_shown_leaves ts
  shown_leaves Tree.opt_none = refl
  shown_leaves (Tree.opt_some t) = shown_leaves t
  shown_leaves (Tree.group ts) = all_shown_leaves ts
  shown_leaves (Tree.terminal k) = refl
  shown_leaves Tree.look = refl

  all_shown_leaves : (ts : Trees) → length (leaves_of (with_shown_all ts)) ≡ length (leaves_of ts)
  all_shown_leaves Trees.none = refl
  all_shown_leaves (Trees.more t ts) =
      length-append (leaves (with_shown t)) (leaves_of (with_shown_all ts))
      ∙ ap₂ (λ a b. a + b) (shown_leaves t) (all_shown_leaves ts) ∙ sym (length-append (leaves t) (leaves_of ts))
