-- Where productions correspond, a certificate over the one has one over the other, of which the same is told.
use Rattle.std.proofs.Common.{◌≡◌, ℕ, zero, suc, ◌∷◌, ◌++◌, refl, ap, sym, ◌∙◌, subst, ◌-◌, cond, Bool, true, false, length}
use Rattle.std.specs.Prelude.{leb, ⊤}
use Rattle.lalrpop_grammar_symbols.specs.Symbols.{Text}
use Rattle.lalrpop_grammar.specs.WrittenGrammar.{Origin}
use Rattle.lalrpop_grammar_language.specs.Expansion.{Nonterminal}
use Rattle.lalrpop_grammar_language.specs.Labels.{Label}
use Rattle.lalrpop_grammar_language.specs.ExpandedTrees.{ExpandedTree, ExpandedTrees}
use Rattle.lalrpop_grammar_language.specs.WrittenTrees.{tree_written}
use Rattle.lalrpop_lr1_theory.specs.Productions.{Production, Next}
use Rattle.lalrpop_lr1_theory.specs.Spans.{SpannedForest, leaf_at, leaf_spans, node_at, none_at, without_spans}
use Rattle.lalrpop_lr1_theory.specs.Trees.{AreOver, Forest, Move, forest, leaf, moves, node, nodes, none, reduce, roots, shift}
use Rattle.lalrpop_judge.specs.Certificates.{AreCountedFrom, Certifies, MakesMove, NumberedMove, ShownConflict, number_move}
use Rattle.lalrpop_run_theory.specs.ExpansionTrees.{first_expanded, trees_by_labels, written_of_forest}
use Rattle.lalrpop_run.specs.ToldConflicts.{kind_of_move, told_of}
use Rattle.lalrpop_run.proofs.AlikeLemmas.{Alike, AlikeMove, Correspond, alike_one, forest_alike, move_at, move_back, moves_alike}
use Rattle.lalrpop_run.proofs.AlikeLemmas.{roots_alike, tree_alike, yield_alike}
use Rattle.lalrpop_run.proofs.ItemAlikeLemmas.{lengths_alike}

-- trees with spans that correspond
abbrev AlikeSpanned : (Production → Production → Type 0) → SpannedForest → SpannedForest → Type 0
AlikeSpanned R none_at none_at = ⊤
AlikeSpanned R none_at (leaf_at u k us) = ⊥
AlikeSpanned R none_at (node_at q ds us) = ⊥
AlikeSpanned R (leaf_at t j ts) none_at = ⊥
AlikeSpanned R (leaf_at t j ts) (leaf_at u k us) = (t ≡ u) × (j ≡ k) × AlikeSpanned R ts us
AlikeSpanned R (leaf_at t j ts) (node_at q ds us) = ⊥
AlikeSpanned R (node_at p cs ts) none_at = ⊥
AlikeSpanned R (node_at p cs ts) (leaf_at u k us) = ⊥
AlikeSpanned R (node_at p cs ts) (node_at q ds us) = R p q × AlikeSpanned R cs ds × AlikeSpanned R ts us

without_alike : (R : Production → Production → Type 0) (ts us : SpannedForest) → AlikeSpanned R ts us →
    Alike R (without_spans ts) (without_spans us)
without_alike R none_at none_at h = tt
without_alike R none_at (leaf_at u k us) h = absurd h
without_alike R none_at (node_at q ds us) h = absurd h
without_alike R (leaf_at t j ts) none_at h = absurd h
without_alike R (leaf_at t j ts) (leaf_at u k us) h = (h.0, without_alike R ts us h.2)
without_alike R (leaf_at t j ts) (node_at q ds us) h = absurd h
without_alike R (node_at p cs ts) none_at h = absurd h
without_alike R (node_at p cs ts) (leaf_at u k us) h = absurd h
without_alike R (node_at p cs ts) (node_at q ds us) h = (h.0, without_alike R cs ds h.1, without_alike R ts us h.2)

spans_alike : (R : Production → Production → Type 0) (ts us : SpannedForest) → AlikeSpanned R ts us → leaf_spans ts ≡ leaf_spans us
spans_alike R none_at none_at h = refl
spans_alike R none_at (leaf_at u k us) h = absurd h
spans_alike R none_at (node_at q ds us) h = absurd h
spans_alike R (leaf_at t j ts) none_at h = absurd h
spans_alike R (leaf_at t j ts) (leaf_at u k us) h = ap (λ z. z ∷ leaf_spans ts) h.1 ∙ ap (λ z. k ∷ z) (spans_alike R ts us h.2)
spans_alike R (leaf_at t j ts) (node_at q ds us) h = absurd h
spans_alike R (node_at p cs ts) none_at h = absurd h
spans_alike R (node_at p cs ts) (leaf_at u k us) h = absurd h
spans_alike R (node_at p cs ts) (node_at q ds us) h =
    ap (λ z. z ++ leaf_spans ts) (spans_alike R cs ds h.1) ∙ ap (λ z. leaf_spans ds ++ z) (spans_alike R ts us h.2)

-- the trees complete after some moves are over the productions, too
over_forest : (G : Production → Type 0) (ts : Forest) (k : ℕ) → AreOver G ts → AreOver G (forest ts k)
over_forest G none k h = tt
over_forest G (leaf t ts) zero h = tt
over_forest G (leaf t ts) (suc k) h = over_forest G ts k h
over_forest G (node p cs ts) k h =
    go (over_forest G cs k h.2) (over_forest G ts (k - suc (nodes cs)) h.3) (leb k (nodes cs))
  where
    go : AreOver G (forest cs k) → AreOver G (forest ts (k - suc (nodes cs))) → (b : Bool) →
        AreOver G (cond b (forest cs k) (node p cs (forest ts (k - suc (nodes cs)))))
    go a b true = a
    go a b false = (h.0, h.1, h.2, b)

-- labels that are the same give the same trees
module _ (R : Production → Production → Type 0) (labels others : ℕ → Label Nonterminal Origin)
    (same : (p q : Production) → R p q → labels p.action ≡ others q.action) where
  labelled_alike : (ts us : SpannedForest) → AlikeSpanned R ts us → trees_by_labels labels ts ≡ trees_by_labels others us
  labelled_alike none_at none_at h = refl
  labelled_alike none_at (leaf_at u k us) h = absurd h
  labelled_alike none_at (node_at q ds us) h = absurd h
  labelled_alike (leaf_at t j ts) none_at h = absurd h
  labelled_alike (leaf_at t j ts) (leaf_at u k us) h =
      ap (λ z. ExpandedTrees.more (ExpandedTree.leaf z j) (trees_by_labels labels ts)) h.0
      ∙ ap (λ z. ExpandedTrees.more (ExpandedTree.leaf u z) (trees_by_labels labels ts)) h.1
      ∙ ap (ExpandedTrees.more (ExpandedTree.leaf u k)) (labelled_alike ts us h.2)
  labelled_alike (leaf_at t j ts) (node_at q ds us) h = absurd h
  labelled_alike (node_at p cs ts) none_at h = absurd h
  labelled_alike (node_at p cs ts) (leaf_at u k us) h = absurd h
  labelled_alike (node_at p cs ts) (node_at q ds us) h =
      ap (λ z. ExpandedTrees.more (ExpandedTree.node z (trees_by_labels labels cs)) (trees_by_labels labels ts)) (same p q h.0)
      ∙ ap (λ z. ExpandedTrees.more (ExpandedTree.node (others q.action) z) (trees_by_labels labels ts)) (labelled_alike cs ds h.1)
      ∙ ap (ExpandedTrees.more (ExpandedTree.node (others q.action) (trees_by_labels others ds))) (labelled_alike ts us h.2)

  pub written_alike : (ts us : SpannedForest) → AlikeSpanned R ts us → written_of_forest labels ts ≡ written_of_forest others us
  written_alike ts us h = ap (λ z. tree_written (first_expanded z)) (labelled_alike ts us h)

kinds_alike : (R : Production → Production → Type 0) (m n : Move) → AlikeMove R m n →
    kind_of_move (number_move m) ≡ kind_of_move (number_move n)
kinds_alike R (shift t) (shift u) h = refl
kinds_alike R (shift t) (reduce q) h = absurd h
kinds_alike R (reduce p) (shift u) h = absurd h
kinds_alike R (reduce p) (reduce q) h = refl

record HasSpanned (R : Production → Production → Type 0) (ts : SpannedForest) : Type 0 where
  trees : SpannedForest
  alike : AlikeSpanned R ts trees

module _ (G H : Production → Type 0) (N : Text → Text → Type 0) (R : Production → Production → Type 0)
    (c : Correspond G H N R) (s : Text) (n : N s s) (labels others : ℕ → Label Nonterminal Origin)
    (same : (p q : Production) → R p q → labels p.action ≡ others q.action)
    (own : (p q : Production) → H p → H q → p.action ≡ q.action → p ≡ q) where
  made_spanned : (ts : SpannedForest) → AreOver G (without_spans ts) → HasSpanned R ts
  made_spanned none_at h = record { trees = none_at; alike = tt }
  made_spanned (leaf_at t j ts) h =
      let m = made_spanned ts h in
      record { trees = leaf_at t j m.trees; alike = (refl, refl, m.alike) }
  made_spanned (node_at p cs ts) h =
      let q = c.there p h.0 in
      let k = made_spanned cs h.2 in
      let m = made_spanned ts h.3 in
      record { trees = node_at q.0 k.trees m.trees; alike = (q.1, k.alike, m.alike) }

  -- moves of the other grammar that are named alike are one
  numbers_apart : (m k v w : Move) → AlikeMove R m v → AlikeMove R k w → number_move v ≡ number_move w → v ≡ w
  numbers_apart m k (shift t) (shift u) a b e = let terminals : t ≡ u = cc in ap shift terminals
  numbers_apart m k (shift t) (reduce q) a b e = let wrong : ⊥ = cc in absurd wrong
  numbers_apart m k (reduce p) (shift u) a b e = let wrong : ⊥ = cc in absurd wrong
  numbers_apart (shift t) k (reduce p) (reduce q) a b e = absurd a
  numbers_apart (reduce r) (shift t) (reduce p) (reduce q) a b e = absurd b
  numbers_apart (reduce r) (reduce l) (reduce p) (reduce q) a b e =
      let numbers : p.action ≡ q.action = cc in
      ap reduce (own p q (c.over r p a) (c.over l q b) numbers)

  -- a tree that makes its move
  record Makes (shared : SpannedForest) (x : Next) (tree : SpannedForest) (move : Move) : Type 0 where
    other : SpannedForest
    other_move : Move
    trees : AlikeSpanned R tree other
    moves_same : AlikeMove R move other_move
    makes : MakesMove H s shared x (number_move other_move) other

  makes_alike : (shared known : SpannedForest) (x : Next) (m : NumberedMove) (tree : SpannedForest) → AlikeSpanned R shared known →
      (v : MakesMove G s shared x m tree) → Makes known x tree v.move
  makes_alike shared known x m tree a v =
      let t = made_spanned tree v.is_tree.1 in
      let plain = without_alike R tree t.trees t.alike in
      let both = without_alike R shared known a in
      let there = move_at R (moves (without_spans tree)) (moves (without_spans t.trees)) v.count v.move
      (moves_alike G H N R c (without_spans tree) (without_spans t.trees) plain) v.move_is in
      let shown : Alike R (without_spans shared) (forest (without_spans t.trees) v.count) =
      subst (λ z. Alike R z (forest (without_spans t.trees) v.count)) v.forest_is
      (forest_alike G H N R c (without_spans tree) (without_spans t.trees) v.count plain) in
      record {
        other = t.trees;
        other_move = there.move;
        trees = t.alike;
        moves_same = there.alike;
        makes = record {
          count = v.count;
          move = there.move;
          left = v.left;
          is_tree = tree_alike G H N R c s s (without_spans tree) (without_spans t.trees) n v.is_tree plain;
          spans = subst (AreCountedFrom 0) (spans_alike R tree t.trees t.alike) v.spans;
          forest_is = alike_one G H N R c (without_spans shared) (forest (without_spans t.trees) v.count) (without_spans known) shown both;
          move_is = there.at;
          move_named = refl;
          leaves = sym (yield_alike G H N R c (without_spans tree) (without_spans t.trees) plain) ∙ v.leaves
              ∙ ap (λ z. z ++ v.left) (yield_alike G H N R c (without_spans shared) (without_spans known) both);
          next = v.next;
        };
      }

  -- the certificate over the other productions, of which the same is told
  pub record HasCertificate (it : ShownConflict) : Type 0 where
    pub other : ShownConflict
    pub certifies : Certifies H s other
    pub told_is : told_of labels it ≡ told_of others other

  pub certificate_alike : (it : ShownConflict) → Certifies G s it → HasCertificate it
  certificate_alike it v =
      let over = subst (AreOver G) v.makes1.forest_is
      (over_forest G (without_spans it.tree1) v.makes1.count v.makes1.is_tree.1) in
      let known = made_spanned it.shared over in
      let a = makes_alike it.shared known.trees it.next it.move1 it.tree1 known.alike v.makes1 in
      let b = makes_alike it.shared known.trees it.next it.move2 it.tree2 known.alike v.makes2 in
      record {
        other = record {
          shared = known.trees;
          next = it.next;
          move1 = number_move a.other_move;
          tree1 = a.other;
          move2 = number_move b.other_move;
          tree2 = b.other;
        };
        certifies = record {
          differ = λ e.
              let others_same : a.other_move ≡ b.other_move =
              numbers_apart v.makes1.move v.makes2.move a.other_move b.other_move a.moves_same b.moves_same e in
              let moves_one : v.makes1.move ≡ v.makes2.move =
              move_back G H N R c v.makes1.move v.makes2.move b.other_move (subst (AlikeMove R v.makes1.move) others_same a.moves_same)
              b.moves_same in
              v.differ (sym v.makes1.move_named ∙ ap number_move moves_one ∙ v.makes2.move_named);
          spans = subst (AreCountedFrom 0) (spans_alike R it.shared known.trees known.alike) v.spans;
          makes1 = a.makes;
          makes2 = b.makes;
        };
        told_is = told known.trees a.other b.other (number_move a.other_move) (number_move b.other_move)
            (lengths_alike N (roots (without_spans it.shared)) (roots (without_spans known.trees))
            (roots_alike G H N R c (without_spans it.shared) (without_spans known.trees)
            (without_alike R it.shared known.trees known.alike)))
            (ap kind_of_move (sym v.makes1.move_named) ∙ kinds_alike R v.makes1.move a.other_move a.moves_same)
            (ap kind_of_move (sym v.makes2.move_named) ∙ kinds_alike R v.makes2.move b.other_move b.moves_same)
            (written_alike R labels others same it.tree1 a.other a.trees) (written_alike R labels others same it.tree2 b.other b.trees);
      }
    where
      told : (shared one two : SpannedForest) (m k : NumberedMove) →
          length (roots (without_spans it.shared)) ≡ length (roots (without_spans shared)) → kind_of_move it.move1 ≡ kind_of_move m →
          kind_of_move it.move2 ≡ kind_of_move k → written_of_forest labels it.tree1 ≡ written_of_forest others one →
          written_of_forest labels it.tree2 ≡ written_of_forest others two →
          told_of labels it
          ≡ told_of others (record { shared = shared; next = it.next; move1 = m; tree1 = one; move2 = k; tree2 = two })
      told shared one two m k p q r t u =
          ap (λ z. record {
            shared = z;
            next = it.next;
            kind1 = kind_of_move it.move1;
            tree1 = written_of_forest labels it.tree1;
            kind2 = kind_of_move it.move2;
            tree2 = written_of_forest labels it.tree2;
          }) p
          ∙ ap (λ z. record {
            shared = length (roots (without_spans shared));
            next = it.next;
            kind1 = z;
            tree1 = written_of_forest labels it.tree1;
            kind2 = kind_of_move it.move2;
            tree2 = written_of_forest labels it.tree2;
          }) q
          ∙ ap (λ z. record {
            shared = length (roots (without_spans shared));
            next = it.next;
            kind1 = kind_of_move m;
            tree1 = written_of_forest labels it.tree1;
            kind2 = z;
            tree2 = written_of_forest labels it.tree2;
          }) r
          ∙ ap (λ z. record {
            shared = length (roots (without_spans shared));
            next = it.next;
            kind1 = kind_of_move m;
            tree1 = z;
            kind2 = kind_of_move k;
            tree2 = written_of_forest labels it.tree2;
          }) t
          ∙ ap (λ z. record {
            shared = length (roots (without_spans shared));
            next = it.next;
            kind1 = kind_of_move m;
            tree1 = written_of_forest others one;
            kind2 = kind_of_move k;
            tree2 = z;
          }) u
