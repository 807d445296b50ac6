-- Trees to which written trees are folded, put together and taken apart: for the search.
use Rattle.std.proofs.Common.{◌≡◌, ◌+◌, ◌<◌, ◌≤◌, ◌⊎◌, ℕ, zero, suc, List, [], ◌∷◌, ◌++◌}
use Rattle.std.proofs.Common.{true, false, length, refl, ap, ap₂, sym, ◌∙◌}
use Rattle.std.proofs.Common.{arith, subst, inl, inr, map}
use Rattle.std.specs.Prelude.{drop}
use Rattle.std.proofs.lemmas.Bool.{true≢false}
use Rattle.lalrpop_grammar_symbols.specs.Symbols.{Terminal, Text, TextSpan}
use Rattle.lalrpop_grammar.specs.Trees.{Tree}
use Rattle.lalrpop_grammar_language.specs.Derivations.{leaf_token}
use Rattle.lalrpop_lr1_theory.specs.Productions.{Production, Symbol, nonterminal, terminal}
use Rattle.lalrpop_lr1_theory.specs.Spans.{SpannedForest, leaf_at, node_at, none_at, without_spans}
use Rattle.lalrpop_lr1_theory.specs.Trees.{AreOver, roots}
use Rattle.lalrpop_lr1_interpret.specs.Stacks.{◌beside◌}
use Rattle.lalrpop_run_trees.specs.ActionLabels.{ChoiceLabel}
use Rattle.lalrpop_run_trees.specs.KeptTrees.{AreKeptBy, AreTreesOf}
use Rattle.lalrpop_run_trees.specs.PartViews.{AllWithin, IsInside, shown_part}
use Rattle.lalrpop_run_trees.specs.TreeSizes.{tree_size}
use Rattle.lalrpop_run_trees.specs.declared.tree_parts.tree_part.TreePart.{TreePart}
use Rattle.lalrpop_run_parser.specs.Folds.{AreFoldedTo, AreRankedUnder}
use Rattle.lalrpop_run_parser.specs.PassingRanks.{FallsAlong, IsLower, label_rank}
use Rattle.lalrpop_lr1_theory.proofs.ExampleLemmas.{terminal_same}

same_trees : (x y : Tree) (xs ys : List Tree) → x ∷ xs ≡ y ∷ ys → (x ≡ y) × (xs ≡ ys)
same_trees x y xs ys e = (cc, cc)

same_symbols : (x y : Symbol) (xs ys : List Symbol) → x ∷ xs ≡ y ∷ ys → (x ≡ y) × (xs ≡ ys)
same_symbols x y xs ys e = (cc, cc)

no_symbol : (x : Symbol) (xs : List Symbol) → x ∷ xs ≡ [] → ⊥
no_symbol x xs e = absurd (cc)

name_same : (m n : Text) → nonterminal m ≡ nonterminal n → m ≡ n
name_same m n e = cc

unlike : (t : Terminal) (n : Text) → terminal t ≡ nonterminal n → ⊥
unlike t n e = absurd (cc)

-- where no roots are, no trees are
no_roots : (ts : SpannedForest) → roots (without_spans ts) ≡ [] → ts ≡ none_at
no_roots none_at e = refl
no_roots (leaf_at t span ts) e = absurd (no_symbol (terminal t) (roots (without_spans ts)) e)
no_roots (node_at p cs ts) e = absurd (no_symbol (nonterminal p.left) (roots (without_spans ts)) e)

module _ (G : Production → Type 0) (label_of : ℕ → ChoiceLabel) where
  -- a leaf
  pub leaf_folded : (t : Terminal) (span : TextSpan) (v : Tree) → v ≡ Tree.terminal (leaf_token t span) →
      AreFoldedTo G label_of (terminal t ∷ []) (v ∷ []) (leaf_at t span none_at)
  leaf_folded t span v e = record { roots_are = refl; are_over = tt; are_of = ([], ap (λ x. x ∷ []) e, refl) }

  pub leaf_only : (t : Terminal) (v : Tree) (ts : SpannedForest) → AreFoldedTo G label_of (terminal t ∷ []) (v ∷ []) ts →
      (span : TextSpan) × (v ≡ Tree.terminal (leaf_token t span))
  leaf_only t v none_at h = absurd (no_symbol (terminal t) [] (sym h.roots_are))
  leaf_only t v (leaf_at u span ts) h =
      let same = terminal_same u t (same_symbols (terminal u) (terminal t) (roots (without_spans ts)) [] h.roots_are).0 in (
        span,
        (same_trees v (Tree.terminal (leaf_token u span)) [] h.are_of.0 h.are_of.1).0
            ∙ ap (λ x. Tree.terminal (leaf_token x span)) same,
      )
  leaf_only t v (node_at p cs ts) h =
      absurd (unlike t p.left
      (sym (same_symbols (nonterminal p.left) (terminal t) (roots (without_spans ts)) [] h.roots_are).0))

  -- A tree of a nonterminal is a node.
  pub record IsNodeOf (n : Text) (ts : SpannedForest) : Type 0 where
    pub production : Production
    pub children : SpannedForest
    pub is_node : ts ≡ node_at production children none_at
    pub left_is : production.left ≡ n
    pub belongs : G production

  pub node_only : (n : Text) (v : Tree) (ts : SpannedForest) → AreFoldedTo G label_of (nonterminal n ∷ []) (v ∷ []) ts →
      IsNodeOf n ts
  node_only n v none_at h = absurd (no_symbol (nonterminal n) [] (sym h.roots_are))
  node_only n v (leaf_at u span ts) h =
      absurd (unlike u n (same_symbols (terminal u) (nonterminal n) (roots (without_spans ts)) [] h.roots_are).0)
  node_only n v (node_at p cs ts) h =
      let same = same_symbols (nonterminal p.left) (nonterminal n) (roots (without_spans ts)) [] h.roots_are in
      record {
        production = p;
        children = cs;
        is_node = ap (node_at p cs) (no_roots ts same.1);
        left_is = name_same p.left n same.0;
        belongs = h.are_over.0;
      }

  -- Of a node the label keeps these trees, and its children are folded of them.
  pub record IsFoldedNode (p : Production) (v : Tree) (cs : SpannedForest) : Type 0 where
    pub kept : List Tree
    pub are_kept : AreKeptBy (label_of p.action) v kept
    pub children : AreFoldedTo G label_of p.right kept cs
    pub belongs : G p

  pub node_parts : (p : Production) (v : Tree) (cs : SpannedForest) →
      AreFoldedTo G label_of (nonterminal p.left ∷ []) (v ∷ []) (node_at p cs none_at) → IsFoldedNode p v cs
  node_parts p v cs h =
      let same = same_trees v h.are_of.first [] h.are_of.others h.are_of.trees_are in
      record {
        kept = h.are_of.kept;
        are_kept = subst (λ t. AreKeptBy (label_of p.action) t h.are_of.kept) (sym same.0) h.are_of.are_kept;
        children = record { roots_are = h.are_over.1; are_over = h.are_over.2; are_of = h.are_of.children };
        belongs = h.are_over.0;
      }

  pub node_folded : (p : Production) (v : Tree) (kept : List Tree) (cs : SpannedForest) → G p →
      AreKeptBy (label_of p.action) v kept → AreFoldedTo G label_of p.right kept cs →
      AreFoldedTo G label_of (nonterminal p.left ∷ []) (v ∷ []) (node_at p cs none_at)
  node_folded p v kept cs belongs are h = record {
    roots_are = refl;
    are_over = (belongs, h.roots_are, h.are_over, tt);
    are_of = record {
      first = v;
      kept = kept;
      others = [];
      trees_are = refl;
      are_kept = are;
      children = h.are_of;
      rest = refl;
    };
  }

  roots_beside : (ts us : SpannedForest) →
      roots (without_spans (ts beside us)) ≡ roots (without_spans ts) ++ roots (without_spans us)
  roots_beside none_at us = refl
  roots_beside (leaf_at t span ts) us = ap (λ l. terminal t ∷ l) (roots_beside ts us)
  roots_beside (node_at p cs ts) us = ap (λ l. nonterminal p.left ∷ l) (roots_beside ts us)

  over_beside : (ts us : SpannedForest) → AreOver G (without_spans ts) → AreOver G (without_spans us) →
      AreOver G (without_spans (ts beside us))
  over_beside none_at us h k = k
  over_beside (leaf_at t span ts) us h k = over_beside ts us h k
  over_beside (node_at p cs ts) us h k = (h.0, h.1, h.2, over_beside ts us h.3 k)

  trees_beside : (ts us : SpannedForest) (vs ws : List Tree) → AreTreesOf label_of ts vs → AreTreesOf label_of us ws →
      AreTreesOf label_of (ts beside us) (vs ++ ws)
  trees_beside none_at us vs ws h k = subst (λ l. AreTreesOf label_of us (l ++ ws)) (sym h) k
  trees_beside (leaf_at t span ts) us vs ws h k =
      (h.0 ++ ws, ap (λ l. l ++ ws) h.1, trees_beside ts us h.0 ws h.2 k)
  trees_beside (node_at p cs ts) us vs ws h k = record {
    first = h.first;
    kept = h.kept;
    others = h.others ++ ws;
    trees_are = ap (λ l. l ++ ws) h.trees_are;
    are_kept = h.are_kept;
    children = h.children;
    rest = trees_beside ts us h.others ws h.rest k;
  }

  -- no trees, and one more
  pub none_folded : AreFoldedTo G label_of [] [] none_at
  none_folded = record { roots_are = refl; are_over = tt; are_of = refl }

  pub folded_more : (side : List Symbol) (vs : List Tree) (ts : SpannedForest) (s : Symbol) (v : Tree) (t : SpannedForest) →
      AreFoldedTo G label_of side vs ts → AreFoldedTo G label_of (s ∷ []) (v ∷ []) t →
      AreFoldedTo G label_of (side ++ s ∷ []) (vs ++ v ∷ []) (ts beside t)
  folded_more side vs ts s v t h k = record {
    roots_are = roots_beside ts t ∙ ap₂ (λ a b. a ++ b) h.roots_are k.roots_are;
    are_over = over_beside ts t h.are_over k.are_over;
    are_of = trees_beside ts t vs (v ∷ []) h.are_of k.are_of;
  }

  -- one tree for each symbol
  pub folded_long : (side : List Symbol) (vs : List Tree) (ts : SpannedForest) → AreFoldedTo G label_of side vs ts →
      length side ≡ length vs
  folded_long side vs ts h = ap length (sym h.roots_are) ∙ as_many ts vs h.are_of
    where
      as_many : (us : SpannedForest) (ws : List Tree) → AreTreesOf label_of us ws → length (roots (without_spans us)) ≡ length ws
      as_many none_at ws k = ap length (sym k)
      as_many (leaf_at t span us) ws k = ap suc (as_many us k.0 k.2) ∙ ap length (sym k.1)
      as_many (node_at p cs us) ws k = ap suc (as_many us k.others k.rest) ∙ ap length (sym k.trees_are)

  -- The tree at a place.
  record IsFoldedAt (s : Symbol) (q : TreePart) (most : ℕ) : Type 0 where
    tree : SpannedForest
    folded : AreFoldedTo G label_of (s ∷ []) (shown_part q ∷ []) tree
    ranked : AreRankedUnder label_of most (q ∷ []) tree

  no_part : (q : TreePart) (qs : List TreePart) → [] ≡ q ∷ qs → ⊥
  no_part q qs e = absurd (cc)

  same_parts : (x y : TreePart) (xs ys : List TreePart) → x ∷ xs ≡ y ∷ ys → (x ≡ y) × (xs ≡ ys)
  same_parts x y xs ys e = (cc, cc)

  folded_at : (most : ℕ) (ts : SpannedForest) (side : List Symbol) (qs : List TreePart) (i : ℕ) (s : Symbol) (q : TreePart)
      (ss : List Symbol) (rest : List TreePart) → drop i side ≡ s ∷ ss → drop i qs ≡ q ∷ rest →
      AreFoldedTo G label_of side (map shown_part qs) ts → AreRankedUnder label_of most qs ts → IsFoldedAt s q most
  folded_at most none_at [] [] zero s q ss rest e f h r = absurd (no_part q rest f)
  folded_at most none_at [] [] (suc i) s q ss rest e f h r = absurd (no_part q rest f)
  folded_at most none_at (x ∷ side) qs i s q ss rest e f h r = absurd (no_symbol x side (sym h.roots_are))
  folded_at most none_at [] (p ∷ qs) i s q ss rest e f h r = absurd (no_tree (shown_part p) (map shown_part qs) h.are_of)
    where
      no_tree : (v : Tree) (vs : List Tree) → v ∷ vs ≡ [] → ⊥
      no_tree v vs k = absurd (cc)
  folded_at most (leaf_at t span ts) [] qs i s q ss rest e f h r =
      absurd (no_symbol (terminal t) (roots (without_spans ts)) h.roots_are)
  folded_at most (leaf_at t span ts) (x ∷ side) [] i s q ss rest e f h r = absurd (no_tree h.are_of.1)
    where
      no_tree : [] ≡ Tree.terminal (leaf_token t span) ∷ h.are_of.0 → ⊥
      no_tree k = absurd (cc)
  folded_at most (leaf_at t span ts) (x ∷ side) (p ∷ qs) zero s q ss rest e f h r =
      let symbols = same_symbols x s side ss e in
      let here = same_parts p q qs rest f in
      let roots_same = same_symbols (terminal t) x (roots (without_spans ts)) side h.roots_are in
      record {
        tree = leaf_at t span none_at;
        folded = record {
          roots_are = ap (λ z. z ∷ []) (roots_same.0 ∙ symbols.0);
          are_over = tt;
          are_of = (
            [],
            ap (λ z. shown_part z ∷ []) (sym here.0)
                ∙ ap (λ z. z ∷ []) (same_trees (shown_part p) (Tree.terminal (leaf_token t span))
                (map shown_part qs) h.are_of.0 h.are_of.1).0,
            refl,
          );
        };
        ranked = (subst (λ z. z.is_inside ≡ true) here.0 r.0, tt);
      }
  folded_at most (leaf_at t span ts) (x ∷ side) (p ∷ qs) (suc i) s q ss rest e f h r =
      let roots_same = same_symbols (terminal t) x (roots (without_spans ts)) side h.roots_are in
      let trees_same = same_trees (shown_part p) (Tree.terminal (leaf_token t span)) (map shown_part qs) h.are_of.0 h.are_of.1 in
      folded_at most ts side qs i s q ss rest e f
      (record {
        roots_are = roots_same.1;
        are_over = h.are_over;
        are_of = subst (λ l. AreTreesOf label_of ts l) (sym trees_same.1) h.are_of.2;
      }) r.1
  folded_at most (node_at p2 cs ts) [] qs i s q ss rest e f h r =
      absurd (no_symbol (nonterminal p2.left) (roots (without_spans ts)) h.roots_are)
  folded_at most (node_at p2 cs ts) (x ∷ side) [] i s q ss rest e f h r = absurd (no_tree h.are_of.trees_are)
    where
      no_tree : [] ≡ h.are_of.first ∷ h.are_of.others → ⊥
      no_tree k = absurd (cc)
  folded_at most (node_at p2 cs ts) (x ∷ side) (p ∷ qs) zero s q ss rest e f h r =
      let symbols = same_symbols x s side ss e in
      let here = same_parts p q qs rest f in
      let roots_same = same_symbols (nonterminal p2.left) x (roots (without_spans ts)) side h.roots_are in
      let trees_same = same_trees (shown_part p) h.are_of.first (map shown_part qs) h.are_of.others h.are_of.trees_are in
      record {
        tree = node_at p2 cs none_at;
        folded = record {
          roots_are = ap (λ z. z ∷ []) (roots_same.0 ∙ symbols.0);
          are_over = (h.are_over.0, h.are_over.1, h.are_over.2, tt);
          are_of = record {
            first = h.are_of.first;
            kept = h.are_of.kept;
            others = [];
            trees_are = ap (λ z. shown_part z ∷ []) (sym here.0) ∙ ap (λ z. z ∷ []) trees_same.0;
            are_kept = h.are_of.are_kept;
            children = h.are_of.children;
            rest = refl;
          };
        };
        ranked = (λ outside. r.0 (ap (λ z. z.is_inside) here.0 ∙ outside), tt);
      }
  folded_at most (node_at p2 cs ts) (x ∷ side) (p ∷ qs) (suc i) s q ss rest e f h r =
      let roots_same = same_symbols (nonterminal p2.left) x (roots (without_spans ts)) side h.roots_are in
      let trees_same = same_trees (shown_part p) h.are_of.first (map shown_part qs) h.are_of.others h.are_of.trees_are in
      folded_at most ts side qs i s q ss rest e f
      (record {
        roots_are = roots_same.1;
        are_over = h.are_over.3;
        are_of = subst (λ l. AreTreesOf label_of ts l) (sym trees_same.1) h.are_of.rest;
      }) r.1

  -- where of one part there is no tree, there are none of all
  pub none_at_place : (most : ℕ) (side : List Symbol) (qs : List TreePart) (i : ℕ) (s : Symbol) (q : TreePart) (ss : List Symbol)
      (rest : List TreePart) → drop i side ≡ s ∷ ss → drop i qs ≡ q ∷ rest →
      ((t : SpannedForest) → AreFoldedTo G label_of (s ∷ []) (shown_part q ∷ []) t →
      AreRankedUnder label_of most (q ∷ []) t → ⊥) →
      (ts : SpannedForest) → AreFoldedTo G label_of side (map shown_part qs) ts → AreRankedUnder label_of most qs ts → ⊥
  none_at_place most side qs i s q ss rest e f without ts h r =
      let a = folded_at most ts side qs i s q ss rest e f h r in without a.tree a.folded a.ranked

  -- What is said of the symbols of a label's trees says of trees over them how they are ranked.
  inside_or : (whole q : TreePart) → whole.is_inside ≡ false → (q ≡ whole) ⊎ IsInside (tree_size (shown_part whole)) q →
      (q.is_inside ≡ true) ⊎ (shown_part q ≡ shown_part whole)
  inside_or whole q outside (inl same) = inr (ap shown_part same)
  inside_or whole q outside (inr inside) = inl inside.marked

  lower_leaf : (t : Terminal) (rank : ℕ) (s : Symbol) → terminal t ≡ s → IsLower G label_of rank s → ⊥
  lower_leaf t rank s e h = subst (λ x. IsLower G label_of rank x) (sym e) h

  lower_node : (p : Production) (rank : ℕ) (s : Symbol) → G p → nonterminal p.left ≡ s → IsLower G label_of rank s →
      label_rank (label_of p.action) < rank
  lower_node p rank s belongs e h =
      let k : IsLower G label_of rank (nonterminal p.left) = subst (λ x. IsLower G label_of rank x) (sym e) h in k p belongs refl

  pub ranked_under : (whole : TreePart) (rank most : ℕ) (side : List Symbol) (qs : List TreePart) (ts : SpannedForest) →
      whole.is_inside ≡ false → rank ≤ most → AllWithin whole qs →
      FallsAlong G label_of rank (shown_part whole) side (map shown_part qs) →
      roots (without_spans ts) ≡ side → AreOver G (without_spans ts) → AreRankedUnder label_of most qs ts
  ranked_under whole rank most side [] none_at outside le within falls e o = tt
  ranked_under whole rank most side [] (leaf_at t span ts) outside le within falls e o = tt
  ranked_under whole rank most side [] (node_at p cs ts) outside le within falls e o = tt
  ranked_under whole rank most side (q ∷ qs) none_at outside le within falls e o = tt
  ranked_under whole rank most [] (q ∷ qs) (leaf_at t span ts) outside le within falls e o =
      absurd (no_symbol (terminal t) (roots (without_spans ts)) e)
  ranked_under whole rank most [] (q ∷ qs) (node_at p cs ts) outside le within falls e o =
      absurd (no_symbol (nonterminal p.left) (roots (without_spans ts)) e)
  ranked_under whole rank most (s ∷ side) (q ∷ qs) (leaf_at t span ts) outside le within falls e o =
      let same = same_symbols (terminal t) s (roots (without_spans ts)) side e in
      (either (inside_or whole q outside within.0) same.0, ranked_under whole rank most side qs ts outside le within.1 falls.1 same.1 o)
    where
      either : (q.is_inside ≡ true) ⊎ (shown_part q ≡ shown_part whole) → terminal t ≡ s → q.is_inside ≡ true
      either (inl marked) k = marked
      either (inr shown) k = absurd (lower_leaf t rank s k (falls.0 shown))
  ranked_under whole rank most (s ∷ side) (q ∷ qs) (node_at p cs ts) outside le within falls e o =
      let same = same_symbols (nonterminal p.left) s (roots (without_spans ts)) side e in (
        λ out. either (inside_or whole q outside within.0) out same.0,
        ranked_under whole rank most side qs ts outside le within.1 falls.1 same.1 o.3,
      )
    where
      either : (q.is_inside ≡ true) ⊎ (shown_part q ≡ shown_part whole) → q.is_inside ≡ false → nonterminal p.left ≡ s →
          label_rank (label_of p.action) < most
      either (inl marked) out k = absurd (true≢false (sym marked ∙ out))
      either (inr shown) out k =
          let less = lower_node p rank s o.0 k (falls.0 shown) in omega (arith, less, le)
