-- What written trees on a stack stand for once a leaf is put beside them, and once a node is put over the last of them; for the stack.
use Rattle.std.proofs.Common.{◌≡◌, ◌+◌, ◌-◌, ◌≤◌, ℕ, List, [], ◌∷◌, ◌++◌, length, refl, ap}
use Rattle.std.proofs.Common.{ap₂, sym, ◌∙◌, arith, subst}
use Rattle.std.proofs.Common.{length-append}
use Rattle.std.specs.Prelude.{drop, flat_map, map, take}
use Rattle.std.proofs.Math.Seq.{drop-append_seam, take-append_seam}
use Rattle.std.proofs.lemmas.Grind.{flat_map-append}
use Rattle.std.proofs.lemmas.List.{append-nil, drop-map, length-drop, length-map, length-take-le, map-append, take-append-drop, take-map}
use Rattle.lalrpop_grammar.specs.Trees.{Token, Tree, leaves}
use Rattle.lalrpop_grammar.specs.Views.{tree_view}
use Rattle.lalrpop_grammar.specs.declared.origin.Origin as choices
use Rattle.lalrpop_grammar.specs.declared.tree.WrittenTree.{WrittenTree}
use Rattle.lalrpop_grammar_language.specs.Derivations.{leaf_token, with_shown}
use Rattle.lalrpop_grammar_repr.specs.declared.action.ActionFnDefn.{ActionFnDefn}
use Rattle.lalrpop_lr1_interpret.specs.Stacks.{◌beside◌}
use Rattle.lalrpop_lr1_interpret.proofs.StackLemmas.{without-beside}
use Rattle.lalrpop_lr1_theory.specs.Productions.{Production}
use Rattle.lalrpop_lr1_theory.specs.Spans.{SpannedForest, leaf_at, node_at, none_at, without_spans}
use Rattle.lalrpop_lr1_theory.specs.Trees.{AreOver, roots}
use Rattle.lalrpop_lr1_theory.proofs.TreeLemmas.{over-and, over-split, roots-and}
use Rattle.lalrpop_run_trees.specs.ActionLabels.{ChoiceLabel, TellsLabel}
use Rattle.lalrpop_run_trees.specs.LabelledTrees.{IsPart, StandByActions, StandForTrees, shown_trees, tree_by_label}
use Rattle.lalrpop_run_trees.proofs.PartLemmas.{part_of_part, part_same, parts_joined, tree_leaves}
use Rattle.lalrpop_run_trees.proofs.ShownTreeLemmas.{shown_tree}
use Rattle.lalrpop_run_trees.proofs.TakenLemmas.{shown_count}
use Rattle.lalrpop_run_trees.proofs.ToldLemmas.{told_count}

-- what is shown of trees beside others
pub shown_beside : (label_of : ℕ → ChoiceLabel) (ts us : SpannedForest) →
    shown_trees label_of (ts beside us) ≡ shown_trees label_of ts ++ shown_trees label_of us
shown_beside label_of none_at us = refl
shown_beside label_of (leaf_at t span ts) us = ap (λ l. Tree.terminal (leaf_token t span) ∷ l) (shown_beside label_of ts us)
shown_beside label_of (node_at p cs ts) us =
    ap (λ l. tree_by_label (label_of p.action) (shown_trees label_of cs) ∷ l) (shown_beside label_of ts us)

roots_beside : (ts us : SpannedForest) →
    length (roots (without_spans (ts beside us))) ≡ length (roots (without_spans ts)) + length (roots (without_spans us))
roots_beside ts us =
    ap (λ f. length (roots f)) (without-beside ts us) ∙ ap length (roots-and (without_spans ts) (without_spans us))
    ∙ length-append (roots (without_spans ts)) (roots (without_spans us))

-- of two lists joined, as long as the first is: the first, and the second
first_joined : {A : Type 0} (n : ℕ) (xs ys zs : List A) → xs ≡ ys ++ zs → length ys ≡ n → take n xs ≡ ys
first_joined n xs ys zs e h = ap₂ (λ k l. take k l) (sym h) e ∙ take-append_seam ys zs

second_joined : {A : Type 0} (n : ℕ) (xs ys zs : List A) → xs ≡ ys ++ zs → length ys ≡ n → drop n xs ≡ zs
second_joined n xs ys zs e h = ap₂ (λ k l. drop k l) (sym h) e ∙ drop-append_seam ys zs

module _ (actions : List ActionFnDefn) (origins : List choices.Origin) where
  abbrev Tells : (ℕ → ChoiceLabel) → Production → Type 0
  Tells label_of p = TellsLabel actions origins p.action (length p.right) (label_of p.action)

  -- a leaf beside the trees
  pub stands_with_leaf : (ts : SpannedForest) (tokens : List Token) (us : List Tree) (k : Token) →
      StandByActions actions origins ts tokens us →
      StandByActions actions origins (ts beside leaf_at k.terminal k.span none_at) (tokens ++ k ∷ []) (us ++ Tree.terminal k ∷ [])
  stands_with_leaf ts tokens us k s = record {
    count = length-append us (Tree.terminal k ∷ []) ∙ ap (λ n. n + 1) s.count
        ∙ sym (roots_beside ts (leaf_at k.terminal k.span none_at));
    stand = λ label_of over.
        let is_over = over-split (Tells label_of) (without_spans ts) (without_spans (leaf_at k.terminal k.span none_at))
        (subst (AreOver (Tells label_of)) (without-beside ts (leaf_at k.terminal k.span none_at)) over) in
        let old = s.stand label_of is_over.0 in
        record {
          shown =
              map-append with_shown us (Tree.terminal k ∷ [])
              ∙ ap (λ l. l ++ Tree.terminal (leaf_token k.terminal k.span) ∷ []) old.shown
              ∙ sym (shown_beside label_of ts (leaf_at k.terminal k.span none_at));
          are_tokens =
              subst (λ l. IsPart l (tokens ++ k ∷ [])) (sym (flat_map-append leaves us (Tree.terminal k ∷ [])))
              (parts_joined (flat_map leaves us) tokens (k ∷ []) (k ∷ []) old.are_tokens (part_same (k ∷ [])));
        };
  }

  module _ (kept children : SpannedForest) (tokens : List Token) (us : List Tree) (p : Production) (first : ℕ)
      (s : StandByActions actions origins (kept beside children) tokens us)
      (right : roots (without_spans children) ≡ p.right) (begins : first ≡ length us - length p.right) where
    counted : length us ≡ length (roots (without_spans kept)) + length p.right
    counted = s.count ∙ roots_beside kept children ∙ ap (λ r. length (roots (without_spans kept)) + length r) right

    first_is : length (roots (without_spans kept)) ≡ first
    first_is = omega (arith, counted, begins)

    last_are : length (drop first us) ≡ length p.right
    last_are = omega (arith, counted, begins, length-drop first us)

    module _ (v : Tree) (made : (label : ChoiceLabel) → TellsLabel actions origins p.action (length p.right) label
        → v ≡ tree_by_label label (drop first us)) (label_of : ℕ → ChoiceLabel)
        (told : TellsLabel actions origins p.action (length p.right) (label_of p.action))
        (old : StandForTrees label_of (kept beside children) tokens us) where
      in_two : map with_shown us ≡ shown_trees label_of kept ++ shown_trees label_of children
      in_two = old.shown ∙ shown_beside label_of kept children

      kept_long : length (shown_trees label_of kept) ≡ first
      kept_long = shown_count label_of kept ∙ first_is

      node_shown : with_shown v ≡ tree_by_label (label_of p.action) (shown_trees label_of children)
      node_shown =
          ap with_shown (made (label_of p.action) told) ∙ shown_tree (label_of p.action) (drop first us)
          ∙ ap (λ l. tree_by_label (label_of p.action) l)
          (sym (drop-map with_shown first us)
          ∙ second_joined first (map with_shown us) (shown_trees label_of kept) (shown_trees label_of children) in_two kept_long)

      kept_shown : map with_shown (take first us) ≡ shown_trees label_of kept
      kept_shown =
          sym (take-map with_shown first us)
          ∙ first_joined first (map with_shown us) (shown_trees label_of kept) (shown_trees label_of children) in_two kept_long

      node_part : IsPart (leaves v) (flat_map leaves (drop first us))
      node_part =
          subst (λ t. IsPart (leaves t) (flat_map leaves (drop first us))) (sym (made (label_of p.action) told))
          (tree_leaves (label_of p.action) (drop first us)
          (told_count actions origins p.action (length p.right) (label_of p.action) told ∙ sym last_are))

      all_part : IsPart (flat_map leaves (take first us ++ v ∷ [])) tokens
      all_part =
          let both : flat_map leaves (take first us) ++ flat_map leaves (drop first us) ≡ flat_map leaves us =
          sym (flat_map-append leaves (take first us) (drop first us)) ∙ ap (flat_map leaves) (take-append-drop first us) in
          let new : flat_map leaves (take first us ++ v ∷ []) ≡ flat_map leaves (take first us) ++ leaves v =
          flat_map-append leaves (take first us) (v ∷ []) ∙ ap (λ l. flat_map leaves (take first us) ++ l) (append-nil (leaves v)) in
          part_of_part (flat_map leaves (take first us ++ v ∷ [])) (flat_map leaves us) tokens
          (subst (λ l. IsPart (flat_map leaves (take first us ++ v ∷ [])) l) both
          (subst (λ l. IsPart l (flat_map leaves (take first us) ++ flat_map leaves (drop first us))) (sym new)
          (parts_joined (flat_map leaves (take first us)) (flat_map leaves (take first us)) (leaves v)
          (flat_map leaves (drop first us)) (part_same (flat_map leaves (take first us))) node_part)))
          old.are_tokens

      node_stands : StandForTrees label_of (kept beside node_at p children none_at) tokens (take first us ++ v ∷ [])
      node_stands = record {
        shown =
            map-append with_shown (take first us) (v ∷ []) ∙ ap₂ (λ l t. l ++ t ∷ []) kept_shown node_shown
            ∙ sym (shown_beside label_of kept (node_at p children none_at));
        are_tokens = all_part;
      }

    -- a node over the last of the trees
    pub stands_with_node : (v : Tree) → ((label : ChoiceLabel) → TellsLabel actions origins p.action (length p.right) label
        → v ≡ tree_by_label label (drop first us)) →
        StandByActions actions origins (kept beside node_at p children none_at) tokens (take first us ++ v ∷ [])
    stands_with_node v made = record {
      count =
          length-append (take first us) (v ∷ [])
          ∙ ap (λ n. n + 1) (length-take-le first us (omega (arith, counted, begins)) ∙ sym first_is)
          ∙ sym (roots_beside kept (node_at p children none_at));
      stand = λ label_of over.
          let is_over = over-split (Tells label_of) (without_spans kept) (without_spans (node_at p children none_at))
          (subst (AreOver (Tells label_of)) (without-beside kept (node_at p children none_at)) over) in
          let inside = subst (AreOver (Tells label_of)) (sym (without-beside kept children))
          (over-and (Tells label_of) (without_spans kept) (without_spans children) is_over.0 is_over.1.2) in
          node_stands v made label_of is_over.1.0 (s.stand label_of inside);
    }

  -- there are as many trees as the node wants
  pub node_fits : (kept children : SpannedForest) (tokens : List Token) (us : List Tree) (p : Production) →
      StandByActions actions origins (kept beside children) tokens us → roots (without_spans children) ≡ p.right →
      length p.right ≤ length us
  node_fits kept children tokens us p s right = omega (arith, s.count ∙ roots_beside kept children, ap length right)

  -- the stack with a leaf more
  pub leaf_on : (ts : SpannedForest) (tokens : List Token) (items new : List WrittenTree) (tree : WrittenTree) (k : Token) →
      StandByActions actions origins ts tokens (map tree_view items) → tree_view tree ≡ Tree.terminal k →
      new ≡ items ++ tree ∷ [] →
      StandByActions actions origins (ts beside leaf_at k.terminal k.span none_at) (tokens ++ k ∷ []) (map tree_view new)
  leaf_on ts tokens items new tree k s is more =
      subst (λ l. StandByActions actions origins (ts beside leaf_at k.terminal k.span none_at) (tokens ++ k ∷ []) l)
      (sym (ap (λ l. map tree_view l) more ∙ map-append tree_view items (tree ∷ []) ∙ ap (λ t. map tree_view items ++ t ∷ []) is))
      (stands_with_leaf ts tokens (map tree_view items) k s)

  -- the stack with a node over its last trees
  pub node_on : (kept children : SpannedForest) (tokens : List Token) (items front back new : List WrittenTree) (tree : WrittenTree)
      (p : Production) (first : ℕ) → StandByActions actions origins (kept beside children) tokens (map tree_view items) →
      roots (without_spans children) ≡ p.right → first ≡ length items - length p.right → front ≡ take first items →
      back ≡ drop first items → new ≡ front ++ tree ∷ [] →
      ((label : ChoiceLabel) → TellsLabel actions origins p.action (length back) label →
      tree_view tree ≡ tree_by_label label (map tree_view back)) →
      StandByActions actions origins (kept beside node_at p children none_at) tokens (map tree_view new)
  node_on kept children tokens items front back new tree p first s right begins front_is back_is more made =
      let us = map tree_view items in
      let counted : length us ≡ length items = length-map items tree_view in
      let begins_there : first ≡ length us - length p.right = begins ∙ ap (λ n. n - length p.right) (sym counted) in
      let views : map tree_view back ≡ drop first us = ap (λ l. map tree_view l) back_is ∙ sym (drop-map tree_view first items) in
      let as_many : length p.right ≡ length back =
      sym (last_are kept children tokens us p first s right begins_there) ∙ ap length (sym views) ∙ length-map back tree_view in
      let new_are : map tree_view new ≡ take first us ++ tree_view tree ∷ [] =
      ap (λ l. map tree_view l) (more ∙ ap (λ l. l ++ tree ∷ []) front_is) ∙ map-append tree_view (take first items) (tree ∷ [])
      ∙ ap (λ l. l ++ tree_view tree ∷ []) (sym (take-map tree_view first items)) in
      subst (λ l. StandByActions actions origins (kept beside node_at p children none_at) tokens l) (sym new_are)
      (stands_with_node kept children tokens us p first s right begins_there (tree_view tree)
      (λ label told. made label (subst (λ n. TellsLabel actions origins p.action n label) as_many told)
      ∙ ap (λ l. tree_by_label label l) views))
