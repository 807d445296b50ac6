-- Trees over the productions of an expansion are trees over its labels, and the other way round: for the laws on written trees.
use Rattle.std.proofs.Common.{◌≡◌, [], ◌∷◌, refl, ap, sym, ◌∙◌, subst, inl, inr}
use Rattle.std.specs.Prelude.{ℕ}
use Rattle.lalrpop_grammar_symbols.specs.Symbols.{Text}
use Rattle.lalrpop_grammar.specs.WrittenGrammar.{Origin}
use Rattle.lalrpop_grammar_language.specs.Enabled.{EnabledGrammar}
use Rattle.lalrpop_grammar_language.specs.Expansion.{GrammarSymbol, Nonterminal, RightSide, Produces, InExpansion}
use Rattle.lalrpop_grammar_language.specs.Labels.{Label}
use Rattle.lalrpop_grammar_language.specs.Inlining.{Inlines}
use Rattle.lalrpop_grammar_language.specs.ExpandedTrees.{ExpandedTree, ExpandedTrees, IsExpandedTreeOf, AreExpandedTreesOf}
use Rattle.lalrpop_lr1_theory.specs.Productions as theory
use Rattle.lalrpop_lr1_theory.specs.Trees.{AreOver, IsTreeOf, roots}
use Rattle.lalrpop_lr1_theory.specs.Spans.{SpannedForest, none_at, leaf_at, node_at, without_spans}
use Rattle.lalrpop_run_theory.specs.Expansions.{AreInlinedExpansion, theory_side}
use Rattle.lalrpop_run_theory.specs.ExpansionTrees.{trees_by_labels, tree_by_labels, first_expanded}
use Rattle.lalrpop_run_theory.proofs.ReachLemmas.{HoldsInside, along_inlined, expansion_goes_along}

abbrev E : Type 0
E = ExpandedTree Nonterminal Origin

abbrev Es : Type 0
Es = ExpandedTrees Nonterminal Origin

-- Trees over productions with these roots that have these labels.
pub record HasForest (name_of : Nonterminal → Text) (label_of : ℕ → Label Nonterminal Origin) (G : theory.Production → Type 0)
    (side : RightSide) (ds : Es) : Type 0 where
  pub forest : SpannedForest
  pub roots_are : roots (without_spans forest) ≡ theory_side name_of side
  pub are_over : AreOver G (without_spans forest)
  pub labels_are : trees_by_labels label_of forest ≡ ds

module _ (g : EnabledGrammar) (In : Nonterminal → Type 0) (prefix : Text) (G : theory.Production → Type 0)
    (e : AreInlinedExpansion g In prefix G) where
  one_inside : (x : Nonterminal) → InExpansion g x → HoldsInside (InExpansion g) (GrammarSymbol.nonterminal x ∷ [])
  one_inside x i y (inl same) = subst (InExpansion g) (name_same x y same) i
    where
      name_same : (a b : Nonterminal) → GrammarSymbol.nonterminal a ≡ GrammarSymbol.nonterminal b → a ≡ b
      name_same a b k = cc
  one_inside x i y (inr more) = absurd more

  -- what a production of the nonterminal says
  pub record IsProductionOf (p : theory.Production) (x : Nonterminal) : Type 0 where
    pub side : RightSide
    pub inlined : Inlines (Produces g) In x (e.label_of p.action) side
    pub right_is : p.right ≡ theory_side e.name_of side
    pub inside : HoldsInside (InExpansion g) side

  pub production_of : (p : theory.Production) (x : Nonterminal) → G p → InExpansion g x → p.left ≡ e.name_of x →
      IsProductionOf p x
  production_of p x k i left =
      let q = e.no_other p k in
      let s = q.3 in
      let same : q.0 ≡ x = e.naming.apart q.0 x s.in_expansion i (sym s.left_is ∙ left) in
      let inlined : Inlines (Produces g) In x (e.label_of p.action) q.2 =
      subst (λ y. Inlines (Produces g) In y (e.label_of p.action) q.2) same
      (subst (λ l. Inlines (Produces g) In q.0 l q.2) (sym s.label_is) s.produced) in
      record {
        side = q.2;
        inlined = inlined;
        right_is = s.right_is;
        inside = along_inlined (Produces g) In (InExpansion g) (expansion_goes_along g) (e.label_of p.action) x q.2 i inlined;
      }

  -- trees over the productions are trees over the labels
  pub labelled_are : (side : RightSide) (ts : SpannedForest) → HoldsInside (InExpansion g) side →
      roots (without_spans ts) ≡ theory_side e.name_of side → AreOver G (without_spans ts) →
      AreExpandedTreesOf (Produces g) In side (trees_by_labels e.label_of ts)
  labelled_are [] none_at i r o = tt
  labelled_are [] (leaf_at t span ts) i r o = cc
  labelled_are [] (node_at p cs ts) i r o = cc
  labelled_are (q ∷ side) none_at i r o = cc
  labelled_are (GrammarSymbol.terminal u ∷ side) (leaf_at t span ts) i r o =
      let same : t ≡ u = cc in
      (same, labelled_are side ts (λ y a. i y (inr a)) (cc) o)
  labelled_are (GrammarSymbol.nonterminal x ∷ side) (leaf_at t span ts) i r o = cc
  labelled_are (GrammarSymbol.terminal u ∷ side) (node_at p cs ts) i r o = cc
  labelled_are (GrammarSymbol.nonterminal x ∷ side) (node_at p cs ts) i r o =
      let left : p.left ≡ e.name_of x = cc in
      let m = production_of p x o.0 (i x (inl refl)) left in (
        (m.side, m.inlined, labelled_are m.side cs m.inside (o.1 ∙ m.right_is) o.2),
        labelled_are side ts (λ y a. i y (inr a)) (cc) o.3,
      )

  -- trees over the labels are trees over the productions
  pub forest_of : (side : RightSide) (ds : Es) → HoldsInside (InExpansion g) side → AreExpandedTreesOf (Produces g) In side ds →
      HasForest e.name_of e.label_of G side ds
  forest_of [] ExpandedTrees.none i a = record { forest = none_at; roots_are = refl; are_over = tt; labels_are = refl }
  forest_of [] (ExpandedTrees.more d ds) i a = absurd a
  forest_of (p ∷ side) ExpandedTrees.none i a = absurd a
  forest_of (GrammarSymbol.terminal u ∷ side) (ExpandedTrees.more (ExpandedTree.leaf t span) ds) i a =
      let rest = forest_of side ds (λ y b. i y (inr b)) a.1 in
      record {
        forest = leaf_at t span rest.forest;
        roots_are =
            ap (λ z. theory.terminal z ∷ roots (without_spans rest.forest)) a.0
            ∙ ap (λ z. theory.terminal u ∷ z) rest.roots_are;
        are_over = rest.are_over;
        labels_are = ap (ExpandedTrees.more (ExpandedTree.leaf t span)) rest.labels_are;
      }
  forest_of (GrammarSymbol.terminal u ∷ side) (ExpandedTrees.more (ExpandedTree.node label kids) ds) i a = absurd a.0
  forest_of (GrammarSymbol.nonterminal x ∷ side) (ExpandedTrees.more (ExpandedTree.leaf t span) ds) i a = absurd a.0
  forest_of (GrammarSymbol.nonterminal x ∷ side) (ExpandedTrees.more (ExpandedTree.node label kids) ds) i a =
      let inside = i x (inl refl) in
      let q = e.every x label a.0.0 inside a.0.1 in
      let s = q.2 in
      let below = forest_of a.0.0 kids
      (along_inlined (Produces g) In (InExpansion g) (expansion_goes_along g) label x a.0.0 inside a.0.1) a.0.2 in
      let rest = forest_of side ds (λ y b. i y (inr b)) a.1 in
      record {
        forest = node_at q.0 below.forest rest.forest;
        roots_are =
            ap (λ z. theory.nonterminal z ∷ roots (without_spans rest.forest)) s.left_is
            ∙ ap (λ z. theory.nonterminal (e.name_of x) ∷ z) rest.roots_are;
        are_over = (q.1, below.roots_are ∙ sym s.right_is, below.are_over, rest.are_over);
        labels_are =
            ap (λ z. ExpandedTrees.more (ExpandedTree.node z (trees_by_labels e.label_of below.forest))
            (trees_by_labels e.label_of rest.forest)) s.label_is
            ∙ ap (λ z. ExpandedTrees.more (ExpandedTree.node label z) (trees_by_labels e.label_of rest.forest)) below.labels_are
            ∙ ap (ExpandedTrees.more (ExpandedTree.node label kids)) rest.labels_are;
      }

  -- no two are the same over the labels
  pub labelled_once : (ts us : SpannedForest) → AreOver G (without_spans ts) → AreOver G (without_spans us) →
      trees_by_labels e.label_of ts ≡ trees_by_labels e.label_of us → ts ≡ us
  labelled_once none_at none_at a b k = refl
  labelled_once none_at (leaf_at u r us) a b k = cc
  labelled_once none_at (node_at q ds us) a b k = cc
  labelled_once (leaf_at t s ts) none_at a b k = cc
  labelled_once (leaf_at t s ts) (leaf_at u r us) a b k =
      let terminals : t ≡ u = cc in
      let spans : s ≡ r = cc in
      let rest : ts ≡ us = labelled_once ts us a b (cc) in
      cc
  labelled_once (leaf_at t s ts) (node_at q ds us) a b k = cc
  labelled_once (node_at p cs ts) none_at a b k = cc
  labelled_once (node_at p cs ts) (leaf_at u r us) a b k = cc
  labelled_once (node_at p cs ts) (node_at q ds us) a b k =
      let production : p ≡ q = e.once p q a.0 b.0 (cc) in
      let below : cs ≡ ds = labelled_once cs ds a.2 b.2 (cc) in
      let rest : ts ≡ us = labelled_once ts us a.3 b.3 (cc) in
      cc

  -- a tree of a nonterminal over the productions is one over the labels
  pub labelled_is : (x : Nonterminal) (ts : SpannedForest) → InExpansion g x → IsTreeOf G (e.name_of x) (without_spans ts) →
      IsExpandedTreeOf (Produces g) In (GrammarSymbol.nonterminal x) (tree_by_labels e.label_of ts)
      × (trees_by_labels e.label_of ts ≡ ExpandedTrees.more (tree_by_labels e.label_of ts) ExpandedTrees.none)
  labelled_is x ts i h =
      alone (trees_by_labels e.label_of ts)
      (labelled_are (GrammarSymbol.nonterminal x ∷ []) ts (one_inside x i) h.0 h.1)
    where
      alone : (ds : Es) → AreExpandedTreesOf (Produces g) In (GrammarSymbol.nonterminal x ∷ []) ds →
          IsExpandedTreeOf (Produces g) In (GrammarSymbol.nonterminal x) (first_expanded ds)
          × (ds ≡ ExpandedTrees.more (first_expanded ds) ExpandedTrees.none)
      alone ExpandedTrees.none a = absurd a
      alone (ExpandedTrees.more d ExpandedTrees.none) a = (a.0, refl)
      alone (ExpandedTrees.more d (ExpandedTrees.more f ds)) a = absurd a.1

  -- and the other way round
  pub forest_is : (x : Nonterminal) (d : E) → InExpansion g x →
      IsExpandedTreeOf (Produces g) In (GrammarSymbol.nonterminal x) d →
      (ts : SpannedForest) × IsTreeOf G (e.name_of x) (without_spans ts)
      × (trees_by_labels e.label_of ts ≡ ExpandedTrees.more d ExpandedTrees.none)
  forest_is x d i h =
      let f = forest_of (GrammarSymbol.nonterminal x ∷ []) (ExpandedTrees.more d ExpandedTrees.none) (one_inside x i) (h, tt) in
      (f.forest, (f.roots_are, f.are_over), f.labels_are)
