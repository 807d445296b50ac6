-- Trees before and after inlining are one to one, over any productions: for the laws on trees and on written trees.
use Rattle.std.proofs.Common.{◌≡◌, [], ◌∷◌, ◌++◌, refl, ap, sym, ◌∙◌, subst, Bool, true, false, if◌then◌else◌}
use Rattle.lalrpop_grammar_language.specs.Expansion.{GrammarSymbol}
use Rattle.lalrpop_grammar_language.specs.Labels.{GrammarSymbols, BaseProductions, Label, Inlinings}
use Rattle.lalrpop_grammar_language.specs.Inlining.{IsDecidedBy, InlinesAll}
use Rattle.lalrpop_grammar_language.specs.BaseTrees.{BaseTree, BaseTrees, IsBaseTreeOf, AreBaseTreesOf}
use Rattle.lalrpop_grammar_language.specs.ExpandedTrees.{ExpandedTree, ExpandedTrees, IsExpandedTreeOf, AreExpandedTreesOf, join_expanded}
use Rattle.lalrpop_grammar_language.specs.ExpandedTrees.{inlinings_of, expanded_below, expanded_tree}
use Rattle.lalrpop_grammar_language.specs.ExpandedTrees.{take_trees, base_tree, base_trees}

-- one list of trees behind another
abbrev pub join_base : {N C : Type 0} → BaseTrees N C → BaseTrees N C → BaseTrees N C
join_base BaseTrees.none es = es
join_base (BaseTrees.more d ds) es = BaseTrees.more d (join_base ds es)

-- for taking a whole list
pub join_base-none : {N C : Type 0} (ds : BaseTrees N C) → join_base ds BaseTrees.none ≡ ds
join_base-none BaseTrees.none = refl
join_base-none (BaseTrees.more d ds) = ap (BaseTrees.more d) (join_base-none ds)

-- for taking from a list in two parts
pub join_base-assoc : {N C : Type 0} (xs ys zs : BaseTrees N C) → join_base (join_base xs ys) zs ≡ join_base xs (join_base ys zs)
join_base-assoc BaseTrees.none ys zs = refl
join_base-assoc (BaseTrees.more d xs) ys zs = ap (BaseTrees.more d) (join_base-assoc xs ys zs)

-- trees taken apart one behind another, for a label that takes its own from the front
pub base_trees-join : {N C : Type 0} (xs ys : ExpandedTrees N C) →
    base_trees (join_expanded xs ys) ≡ join_base (base_trees xs) (base_trees ys)
base_trees-join ExpandedTrees.none ys = refl
base_trees-join (ExpandedTrees.more d xs) ys = ap (BaseTrees.more (base_tree d)) (base_trees-join xs ys)

-- a label takes back the trees that it was made of
abbrev TakesBack : {N C : Type 0} → (N → Bool) → BaseTrees N C → Type 0
TakesBack {N = N} {C = C} f kids =
    (rest : BaseTrees N C) → take_trees (inlinings_of f kids) (join_base (base_trees (expanded_below f kids)) rest) ≡ (kids, rest)

one_node : {N C : Type 0} (f : N → Bool) (y : N) (c : C) (kids : BaseTrees N C) → TakesBack f kids →
    base_tree (ExpandedTree.node (Label.choose y c (inlinings_of f kids)) (expanded_below f kids)) ≡ BaseTree.node y c kids
one_node f y c kids w =
    ap (λ l. BaseTree.node y c (take_trees (inlinings_of f kids) l).0) (sym (join_base-none (base_trees (expanded_below f kids))))
    ∙ ap (λ r. BaseTree.node y c r.0) (w BaseTrees.none)

takes_node : {N C : Type 0} (f : N → Bool) (y : N) (c : C) (kids ds : BaseTrees N C) → TakesBack f kids → TakesBack f ds →
    (b : Bool) (rest : BaseTrees N C) →
    take_trees
    (if b then Inlinings.inlined (Label.choose y c (inlinings_of f kids)) (inlinings_of f ds) else Inlinings.kept (inlinings_of f ds))
    (join_base (base_trees (join_expanded
    (if b then expanded_below f kids
    else ExpandedTrees.more (ExpandedTree.node (Label.choose y c (inlinings_of f kids)) (expanded_below f kids)) ExpandedTrees.none)
    (expanded_below f ds))) rest)
    ≡ (BaseTrees.more (BaseTree.node y c kids) ds, rest)
takes_node f y c kids ds w v true rest =
    let front : join_base (base_trees (join_expanded (expanded_below f kids) (expanded_below f ds))) rest
    ≡ join_base (base_trees (expanded_below f kids)) (join_base (base_trees (expanded_below f ds)) rest) =
    ap (λ l. join_base l rest) (base_trees-join (expanded_below f kids) (expanded_below f ds))
    ∙ join_base-assoc (base_trees (expanded_below f kids)) (base_trees (expanded_below f ds)) rest in
    ap (λ l. take_trees (Inlinings.inlined (Label.choose y c (inlinings_of f kids)) (inlinings_of f ds)) l) front
    ∙ ap (λ r. (BaseTrees.more (BaseTree.node y c r.0) (take_trees (inlinings_of f ds) r.1).0, (take_trees (inlinings_of f ds) r.1).1))
    (w (join_base (base_trees (expanded_below f ds)) rest))
    ∙ ap (λ r. (BaseTrees.more (BaseTree.node y c kids) r.0, r.1)) (v rest)
takes_node f y c kids ds w v false rest =
    ap (λ d. (
      BaseTrees.more d (take_trees (inlinings_of f ds) (join_base (base_trees (expanded_below f ds)) rest)).0,
      (take_trees (inlinings_of f ds) (join_base (base_trees (expanded_below f ds)) rest)).1,
    )) (one_node f y c kids w)
    ∙ ap (λ r. (BaseTrees.more (BaseTree.node y c kids) r.0, r.1)) (v rest)

mutual
  takes_back : {N C : Type 0} (f : N → Bool) (ds : BaseTrees N C) → TakesBack f ds
  takes_back f BaseTrees.none rest = refl
  takes_back f (BaseTrees.more d ds) rest = takes_one f d ds (takes_back f ds) rest

  takes_one : {N C : Type 0} (f : N → Bool) (d : BaseTree N C) (ds : BaseTrees N C) → TakesBack f ds →
      TakesBack f (BaseTrees.more d ds)
  takes_one f (BaseTree.leaf t span) ds v rest = ap (λ r. (BaseTrees.more (BaseTree.leaf t span) r.0, r.1)) (v rest)
  takes_one f (BaseTree.node y c kids) ds v rest = takes_node f y c kids ds (takes_back f kids) v (f y) rest

-- a tree inlined and taken apart is the tree
pub base_tree-expanded : {N C : Type 0} (f : N → Bool) (d : BaseTree N C) → base_tree (expanded_tree f d) ≡ d
base_tree-expanded f (BaseTree.leaf t span) = refl
base_tree-expanded f (BaseTree.node y c kids) = one_node f y c kids (takes_back f kids)

expanded_join : {N C : Type 0} (M : BaseProductions N C) (In : N → Type 0) (xs ys : GrammarSymbols N) (ds es : ExpandedTrees N C) →
    AreExpandedTreesOf M In xs ds → AreExpandedTreesOf M In ys es → AreExpandedTreesOf M In (xs ++ ys) (join_expanded ds es)
expanded_join M In [] ys ExpandedTrees.none es h k = k
expanded_join M In [] ys (ExpandedTrees.more d ds) es h k = absurd h
expanded_join M In (p ∷ xs) ys ExpandedTrees.none es h k = absurd h
expanded_join M In (p ∷ xs) ys (ExpandedTrees.more d ds) es h k = (h.0, expanded_join M In xs ys ds es h.1 k)

-- the trees of a right side, inlined, are those of the right side after inlining
pub record HasExpanded (N : Type 0) (C : Type 0) (M : BaseProductions N C) (In : N → Type 0) (before : GrammarSymbols N)
    (inlinings : Inlinings N C) (trees : ExpandedTrees N C) : Type 0 where
  pub after : GrammarSymbols N
  pub inlines : InlinesAll M In before inlinings after
  pub are : AreExpandedTreesOf M In after trees

abbrev Expands : {N C : Type 0} → BaseProductions N C → (N → Type 0) → (N → Bool) → GrammarSymbols N → BaseTrees N C →
    Type 0
Expands {N = N} {C = C} M In f before kids = HasExpanded N C M In before (inlinings_of f kids) (expanded_below f kids)

expands_node : {N C : Type 0} (M : BaseProductions N C) (In : N → Type 0) (f : N → Bool) → IsDecidedBy In f → (y : N) (c : C)
    (kids : BaseTrees N C) (before : GrammarSymbols N) (ds : BaseTrees N C) (b : Bool) → f y ≡ b →
    (side : GrammarSymbols N) → M y c side → Expands M In f side kids → Expands M In f before ds →
    HasExpanded N C M In (GrammarSymbol.nonterminal y ∷ before)
    (if b then Inlinings.inlined (Label.choose y c (inlinings_of f kids)) (inlinings_of f ds) else Inlinings.kept (inlinings_of f ds))
    (join_expanded
    (if b then expanded_below f kids
    else ExpandedTrees.more (ExpandedTree.node (Label.choose y c (inlinings_of f kids)) (expanded_below f kids)) ExpandedTrees.none)
    (expanded_below f ds))
expands_node M In f decides y c kids before ds true e side m w v = record {
  after = w.after ++ v.after;
  inlines = (
    (decides y).1 e,
    record {
      front = w.after;
      rest = v.after;
      side_is = refl;
      is_front = (refl, side, m, w.inlines);
      is_rest = v.inlines;
    },
  );
  are = expanded_join M In w.after v.after (expanded_below f kids) (expanded_below f ds) w.are v.are;
}
expands_node M In f decides y c kids before ds false e side m w v =
    let not_inlined : In y → ⊥ = λ i. (let t : f y ≡ true = (decides y).0 i in cc) in
    record {
      after = GrammarSymbol.nonterminal y ∷ v.after;
      inlines = (not_inlined, v.after, refl, v.inlines);
      are = ((w.after, (refl, side, m, w.inlines), w.are), v.are);
    }

mutual
  -- the trees of a right side, inlined
  expands : {N C : Type 0} (M : BaseProductions N C) (In : N → Type 0) (f : N → Bool) → IsDecidedBy In f → (kids : BaseTrees N C)
      (before : GrammarSymbols N) → AreBaseTreesOf M before kids → Expands M In f before kids
  expands M In f decides BaseTrees.none [] h = record { after = []; inlines = refl; are = tt }
  expands M In f decides BaseTrees.none (p ∷ before) h = absurd h
  expands M In f decides (BaseTrees.more d ds) [] h = absurd h
  expands M In f decides (BaseTrees.more d ds) (p ∷ before) h =
      expands_one M In f decides d ds p before h.0 (expands M In f decides ds before h.1)

  expands_one : {N C : Type 0} (M : BaseProductions N C) (In : N → Type 0) (f : N → Bool) → IsDecidedBy In f → (d : BaseTree N C)
      (ds : BaseTrees N C) (p : GrammarSymbol N) (before : GrammarSymbols N) → IsBaseTreeOf M p d → Expands M In f before ds →
      Expands M In f (p ∷ before) (BaseTrees.more d ds)
  expands_one M In f decides (BaseTree.leaf u span) ds (GrammarSymbol.terminal t) before h v = record {
    after = GrammarSymbol.terminal t ∷ v.after;
    inlines = (tt, v.after, refl, v.inlines);
    are = (h, v.are);
  }
  expands_one M In f decides (BaseTree.leaf u span) ds (GrammarSymbol.nonterminal x) before h v = absurd h
  expands_one M In f decides (BaseTree.node y c kids) ds (GrammarSymbol.terminal t) before h v = absurd h
  expands_one M In f decides (BaseTree.node y c kids) ds (GrammarSymbol.nonterminal x) before h v =
      let m : M y c h.1 = subst (λ z. M z c h.1) (sym h.0) h.2 in
      subst (λ z. Expands M In f (GrammarSymbol.nonterminal z ∷ before) (BaseTrees.more (BaseTree.node y c kids) ds)) h.0
      (expands_node M In f decides y c kids before ds (f y) refl h.1 m (expands M In f decides kids h.1 h.3) v)

-- a tree of a symbol, inlined, is an expanded tree of the symbol
pub expanded_is : {N C : Type 0} (M : BaseProductions N C) (In : N → Type 0) (f : N → Bool) → IsDecidedBy In f →
    (p : GrammarSymbol N) (d : BaseTree N C) → IsBaseTreeOf M p d → IsExpandedTreeOf M In p (expanded_tree f d)
expanded_is M In f decides (GrammarSymbol.terminal t) (BaseTree.leaf u span) h = h
expanded_is M In f decides (GrammarSymbol.terminal t) (BaseTree.node y c kids) h = absurd h
expanded_is M In f decides (GrammarSymbol.nonterminal x) (BaseTree.leaf u span) h = absurd h
expanded_is M In f decides (GrammarSymbol.nonterminal x) (BaseTree.node y c kids) h =
    let w = expands M In f decides kids h.1 h.3 in
    (w.after, (h.0, h.1, h.2, w.inlines), w.are)
