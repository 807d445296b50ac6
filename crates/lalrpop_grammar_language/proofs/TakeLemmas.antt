-- An expanded tree, taken apart, is a tree before inlining, and that inlined is the former: for the laws on trees.
use Rattle.std.proofs.Common.{◌≡◌, [], ◌∷◌, ◌++◌, refl, ap, sym, ◌∙◌, subst, Bool, true, false, if◌then◌else◌}
use Rattle.lalrpop_grammar_language.specs.Expansion.{GrammarSymbol}
use Rattle.lalrpop_grammar_language.specs.Labels.{GrammarSymbols, BaseProductions, Label, Inlinings}
use Rattle.lalrpop_grammar_language.specs.Inlining.{IsNotInlined, IsDecidedBy, Inlines, InlinesAll}
use Rattle.lalrpop_grammar_language.specs.BaseTrees.{BaseTree, BaseTrees, IsBaseTreeOf, AreBaseTreesOf}
use Rattle.lalrpop_grammar_language.specs.ExpandedTrees.{ExpandedTree, ExpandedTrees, IsExpandedTreeOf, AreExpandedTreesOf, join_expanded}
use Rattle.lalrpop_grammar_language.specs.ExpandedTrees.{inlinings_of, add_inlining, expanded_below, expanded_child, expanded_tree}
use Rattle.lalrpop_grammar_language.specs.ExpandedTrees.{take_tree, take_trees, base_tree, base_trees}
use Rattle.lalrpop_grammar_language.proofs.TreeLemmas.{join_base, join_base-none, join_base-assoc, base_trees-join}

-- the tree, taken apart, is one of the symbol, and inlined it is the tree again
abbrev ComesBack : {N C : Type 0} → BaseProductions N C → (N → Bool) → GrammarSymbol N → ExpandedTree N C → Type 0
ComesBack M f p d = IsBaseTreeOf M p (base_tree d) × (expanded_tree f (base_tree d) ≡ d)

abbrev ComeBack : {N C : Type 0} → BaseProductions N C → (N → Bool) → GrammarSymbols N → ExpandedTrees N C → Type 0
ComeBack M f [] ExpandedTrees.none = Unit {0}
ComeBack M f [] (ExpandedTrees.more d ds) = ⊥
ComeBack M f (p ∷ ps) ExpandedTrees.none = ⊥
ComeBack M f (p ∷ ps) (ExpandedTrees.more d ds) = ComesBack M f p d × ComeBack M f ps ds

abbrev one_tree : {N C : Type 0} → ExpandedTree N C → ExpandedTrees N C
one_tree d = ExpandedTrees.more d ExpandedTrees.none

-- a child of a symbol that is kept is one tree
kept_child : {N C : Type 0} (M : BaseProductions N C) (In : N → Type 0) (f : N → Bool) → IsDecidedBy In f → (p : GrammarSymbol N)
    (e : BaseTree N C) → IsNotInlined In p → IsBaseTreeOf M p e →
    (expanded_child f e ≡ one_tree (expanded_tree f e)) × ((rest : Inlinings N C) → add_inlining f e rest ≡ Inlinings.kept rest)
kept_child M In f decides (GrammarSymbol.terminal t) (BaseTree.leaf u span) k h = (refl, λ rest. refl)
kept_child M In f decides (GrammarSymbol.terminal t) (BaseTree.node y c kids) k h = absurd h
kept_child M In f decides (GrammarSymbol.nonterminal x) (BaseTree.leaf u span) k h = absurd h
kept_child {N = N} {C = C} M In f decides (GrammarSymbol.nonterminal x) (BaseTree.node y c kids) k h =
    let not_inlined : In y → ⊥ = subst (λ z. In z → ⊥) (sym h.0) k in
    go (f y) (λ e. not_inlined ((decides y).1 e))
  where
    label : Label N C
    label = Label.choose y c (inlinings_of f kids)

    go : (b : Bool) → (b ≡ true → ⊥) →
        ((if b then expanded_below f kids else one_tree (ExpandedTree.node label (expanded_below f kids)))
        ≡ one_tree (ExpandedTree.node label (expanded_below f kids)))
        × ((rest : Inlinings N C) → (if b then Inlinings.inlined label rest else Inlinings.kept rest) ≡ Inlinings.kept rest)
    go true n = absurd (n refl)
    go false n = (refl, λ rest. refl)

-- trees for a right side in two parts
pub record Parts (N : Type 0) (C : Type 0) (M : BaseProductions N C) (f : N → Bool) (xs : GrammarSymbols N) (ys : GrammarSymbols N)
    (ds : ExpandedTrees N C) : Type 0 where
  pub front : ExpandedTrees N C
  pub back : ExpandedTrees N C
  pub whole : ds ≡ join_expanded front back
  pub of_front : ComeBack M f xs front
  pub of_back : ComeBack M f ys back

parts : {N C : Type 0} (M : BaseProductions N C) (f : N → Bool) (xs ys : GrammarSymbols N) (ds : ExpandedTrees N C) →
    ComeBack M f (xs ++ ys) ds → Parts N C M f xs ys ds
parts M f [] ys ds h = record { front = ExpandedTrees.none; back = ds; whole = refl; of_front = tt; of_back = h }
parts M f (p ∷ xs) ys ExpandedTrees.none h = absurd h
parts M f (p ∷ xs) ys (ExpandedTrees.more d ds) h =
    let s = parts M f xs ys ds h.1 in
    record {
      front = ExpandedTrees.more d s.front;
      back = s.back;
      whole = ap (ExpandedTrees.more d) s.whole;
      of_front = (h.0, s.of_front);
      of_back = s.of_back;
    }

-- what the labels of a right side take from the trees below a node
pub record Takes (N : Type 0) (C : Type 0) (M : BaseProductions N C) (f : N → Bool) (before : GrammarSymbols N)
    (inlinings : Inlinings N C) (kids : ExpandedTrees N C) (rest : BaseTrees N C) : Type 0 where
  pub taken : BaseTrees N C
  pub taken_is : take_trees inlinings (join_base (base_trees kids) rest) ≡ (taken, rest)
  pub are : AreBaseTreesOf M before taken
  pub inlinings_are : inlinings_of f taken ≡ inlinings
  pub trees_are : expanded_below f taken ≡ kids

-- what one label takes
pub record TakesNode (N : Type 0) (C : Type 0) (M : BaseProductions N C) (f : N → Bool) (x : N) (label : Label N C)
    (kids : ExpandedTrees N C) (rest : BaseTrees N C) : Type 0 where
  pub choice : C
  pub taken : BaseTrees N C
  pub taken_is : take_tree label (join_base (base_trees kids) rest) ≡ (BaseTree.node x choice taken, rest)
  pub is_tree : IsBaseTreeOf M (GrammarSymbol.nonterminal x) (BaseTree.node x choice taken)
  pub label_is : Label.choose x choice (inlinings_of f taken) ≡ label
  pub trees_are : expanded_below f taken ≡ kids

takes_kept : {N C : Type 0} (M : BaseProductions N C) (In : N → Type 0) (f : N → Bool) → IsDecidedBy In f → (p : GrammarSymbol N)
    (before after : GrammarSymbols N) (inlinings : Inlinings N C) (kids : ExpandedTrees N C) → IsNotInlined In p →
    ComeBack M f (p ∷ after) kids → (rest : BaseTrees N C) →
    ((ds : ExpandedTrees N C) → ComeBack M f after ds → Takes N C M f before inlinings ds rest) →
    Takes N C M f (p ∷ before) (Inlinings.kept inlinings) kids rest
takes_kept M In f decides p before after inlinings ExpandedTrees.none k w rest others = absurd w
takes_kept M In f decides p before after inlinings (ExpandedTrees.more d ds) k w rest others =
    let q = others ds w.1 in
    let i = kept_child M In f decides p (base_tree d) k w.0.0 in
    record {
      taken = BaseTrees.more (base_tree d) q.taken;
      taken_is = ap (λ r. (BaseTrees.more (base_tree d) r.0, r.1)) q.taken_is;
      are = (w.0.0, q.are);
      inlinings_are = i.1 (inlinings_of f q.taken) ∙ ap Inlinings.kept q.inlinings_are;
      trees_are =
          ap (λ l. join_expanded l (expanded_below f q.taken)) (i.0 ∙ ap one_tree w.0.1) ∙ ap (ExpandedTrees.more d) q.trees_are;
    }

takes_inlined : {N C : Type 0} (M : BaseProductions N C) (In : N → Type 0) (f : N → Bool) → IsDecidedBy In f → (x : N)
    (before : GrammarSymbols N) (label : Label N C) (inlinings : Inlinings N C) (kids front back : ExpandedTrees N C) →
    kids ≡ join_expanded front back → In x → (rest : BaseTrees N C) →
    TakesNode N C M f x label front (join_base (base_trees back) rest) → Takes N C M f before inlinings back rest →
    Takes N C M f (GrammarSymbol.nonterminal x ∷ before) (Inlinings.inlined label inlinings) kids rest
takes_inlined M In f decides x before label inlinings kids front back e i rest a b =
    let is_true : f x ≡ true = (decides x).0 i in
    let list_is : join_base (base_trees kids) rest ≡ join_base (base_trees front) (join_base (base_trees back) rest) =
    ap (λ l. join_base (base_trees l) rest) e ∙ ap (λ l. join_base l rest) (base_trees-join front back)
    ∙ join_base-assoc (base_trees front) (base_trees back) rest in
    record {
      taken = BaseTrees.more (BaseTree.node x a.choice a.taken) b.taken;
      taken_is =
          ap (λ l. take_trees (Inlinings.inlined label inlinings) l) list_is
          ∙ ap (λ r. (BaseTrees.more r.0 (take_trees inlinings r.1).0, (take_trees inlinings r.1).1)) a.taken_is
          ∙ ap (λ r. (BaseTrees.more (BaseTree.node x a.choice a.taken) r.0, r.1)) b.taken_is;
      are = (a.is_tree, b.are);
      inlinings_are =
          ap (λ t. if t then Inlinings.inlined (Label.choose x a.choice (inlinings_of f a.taken)) (inlinings_of f b.taken)
          else Inlinings.kept (inlinings_of f b.taken)) is_true
          ∙ ap (λ l. Inlinings.inlined l (inlinings_of f b.taken)) a.label_is ∙ ap (Inlinings.inlined label) b.inlinings_are;
      trees_are =
          ap (λ t. join_expanded (if t then expanded_below f a.taken
          else one_tree (ExpandedTree.node (Label.choose x a.choice (inlinings_of f a.taken)) (expanded_below f a.taken)))
          (expanded_below f b.taken)) is_true
          ∙ ap (λ l. join_expanded l (expanded_below f b.taken)) a.trees_are ∙ ap (join_expanded front) b.trees_are ∙ sym e;
    }

takes_none : {N C : Type 0} (M : BaseProductions N C) (f : N → Bool) (kids : ExpandedTrees N C) (rest : BaseTrees N C) →
    ComeBack M f [] kids → Takes N C M f [] Inlinings.none kids rest
takes_none M f ExpandedTrees.none rest h = record {
  taken = BaseTrees.none;
  taken_is = refl;
  are = tt;
  inlinings_are = refl;
  trees_are = refl;
}
takes_none M f (ExpandedTrees.more d ds) rest h = absurd h

mutual
  takes_all : {N C : Type 0} (M : BaseProductions N C) (In : N → Type 0) (f : N → Bool) → IsDecidedBy In f →
      (inlinings : Inlinings N C)
      (before after : GrammarSymbols N) → InlinesAll M In before inlinings after → (kids : ExpandedTrees N C) →
      ComeBack M f after kids → (rest : BaseTrees N C) → Takes N C M f before inlinings kids rest
  takes_all M In f decides Inlinings.none [] after r kids w rest = takes_none M f kids rest (subst (λ s. ComeBack M f s kids) r w)
  takes_all M In f decides (Inlinings.kept inlinings) [] after r kids w rest = absurd r
  takes_all M In f decides (Inlinings.inlined label inlinings) [] after r kids w rest = absurd r
  takes_all M In f decides Inlinings.none (p ∷ before) after r kids w rest = absurd r
  takes_all M In f decides (Inlinings.kept inlinings) (p ∷ before) after r kids w rest =
      takes_kept M In f decides p before r.1 inlinings kids r.0 (subst (λ s. ComeBack M f s kids) r.2 w) rest
      (λ ds v. takes_all M In f decides inlinings before r.1 r.3 ds v rest)
  takes_all M In f decides (Inlinings.inlined label inlinings) (GrammarSymbol.terminal t ∷ before) after r kids w rest = absurd r
  takes_all M In f decides (Inlinings.inlined label inlinings) (GrammarSymbol.nonterminal x ∷ before) after r kids w rest =
      let s = parts M f r.1.front r.1.rest kids (subst (λ l. ComeBack M f l kids) r.1.side_is w) in
      takes_inlined M In f decides x before label inlinings kids s.front s.back s.whole r.0 rest
      (takes_label M In f decides label x r.1.front r.1.is_front s.front s.of_front (join_base (base_trees s.back) rest))
      (takes_all M In f decides inlinings before r.1.rest r.1.is_rest s.back s.of_back rest)

  takes_label : {N C : Type 0} (M : BaseProductions N C) (In : N → Type 0) (f : N → Bool) → IsDecidedBy In f →
      (label : Label N C) (x : N)
      (after : GrammarSymbols N) → Inlines M In x label after → (kids : ExpandedTrees N C) → ComeBack M f after kids →
      (rest : BaseTrees N C) → TakesNode N C M f x label kids rest
  takes_label M In f decides (Label.choose y c inlinings) x after e kids w rest =
      let p = takes_all M In f decides inlinings e.1 after e.3 kids w rest in
      record {
        choice = c;
        taken = p.taken;
        taken_is = ap (λ r. (BaseTree.node y c r.0, r.1)) p.taken_is ∙ ap (λ z. (BaseTree.node z c p.taken, rest)) e.0;
        is_tree = (refl, e.1, e.2, p.are);
        label_is = ap (λ z. Label.choose z c (inlinings_of f p.taken)) (sym e.0) ∙ ap (Label.choose y c) p.inlinings_are;
        trees_are = p.trees_are;
      }

comes_node : {N C : Type 0} (M : BaseProductions N C) (f : N → Bool) (x : N) (label : Label N C) (kids : ExpandedTrees N C) →
    TakesNode N C M f x label kids BaseTrees.none → ComesBack M f (GrammarSymbol.nonterminal x) (ExpandedTree.node label kids)
comes_node M f x label kids a =
    let tree_is : base_tree (ExpandedTree.node label kids) ≡ BaseTree.node x a.choice a.taken =
    ap (λ l. (take_tree label l).0) (sym (join_base-none (base_trees kids))) ∙ ap (λ r. r.0) a.taken_is in (
      subst (IsBaseTreeOf M (GrammarSymbol.nonterminal x)) (sym tree_is) a.is_tree,
      ap (expanded_tree f) tree_is ∙ ap (λ l. ExpandedTree.node l (expanded_below f a.taken)) a.label_is
          ∙ ap (ExpandedTree.node label) a.trees_are,
    )

mutual
  -- an expanded tree, taken apart, is a tree before inlining of the same symbol, and inlined it is the expanded tree again
  pub comes_back : {N C : Type 0} (M : BaseProductions N C) (In : N → Type 0) (f : N → Bool) → IsDecidedBy In f →
      (d : ExpandedTree N C)
      (p : GrammarSymbol N) → IsExpandedTreeOf M In p d → IsBaseTreeOf M p (base_tree d) × (expanded_tree f (base_tree d) ≡ d)
  comes_back M In f decides (ExpandedTree.leaf t span) (GrammarSymbol.terminal u) h = (h, refl)
  comes_back M In f decides (ExpandedTree.leaf t span) (GrammarSymbol.nonterminal x) h = absurd h
  comes_back M In f decides (ExpandedTree.node label kids) (GrammarSymbol.terminal u) h = absurd h
  comes_back M In f decides (ExpandedTree.node label kids) (GrammarSymbol.nonterminal x) h =
      comes_node M f x label kids
      (takes_label M In f decides label x h.0 h.1 kids (come_back M In f decides kids h.0 h.2) BaseTrees.none)

  come_back : {N C : Type 0} (M : BaseProductions N C) (In : N → Type 0) (f : N → Bool) → IsDecidedBy In f →
      (ds : ExpandedTrees N C)
      (ps : GrammarSymbols N) → AreExpandedTreesOf M In ps ds → ComeBack M f ps ds
  come_back M In f decides ExpandedTrees.none [] h = tt
  come_back M In f decides ExpandedTrees.none (p ∷ ps) h = absurd h
  come_back M In f decides (ExpandedTrees.more d ds) [] h = absurd h
  come_back M In f decides (ExpandedTrees.more d ds) (p ∷ ps) h =
      (comes_back M In f decides d p h.0, come_back M In f decides ds ps h.1)
