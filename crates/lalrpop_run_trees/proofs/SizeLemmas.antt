-- Sizes of written trees: children are no larger than the tree, nor is what a label keeps; for searches in trees.
use Rattle.std.proofs.Common.{◌≡◌, ◌+◌, ◌<◌, ◌≤◌, ℕ, suc, List, [], ◌∷◌, ◌++◌, ap, sym, arith, subst}
use Rattle.lalrpop_grammar.specs.Trees.{Tree, trees}
use Rattle.lalrpop_grammar.specs.WrittenGrammar.{Origin}
use Rattle.lalrpop_grammar_language.specs.Labels.{Inlinings, Label}
use Rattle.lalrpop_run_trees.specs.ActionLabels.{ChoiceInlinings, ChoiceLabel}
use Rattle.lalrpop_run_trees.specs.KeptTrees.{AreAllKeptBy, AreChildrenBy, AreKeptBy}
use Rattle.lalrpop_run_trees.specs.TreeSizes.{tree_size, trees_size}

-- a written tree has at least one tree in it, which is itself
pub tree_positive : (t : Tree) → 0 < tree_size t
tree_positive (Tree.rule n args place ts) = omega arith
tree_positive (Tree.list ts) = omega arith
tree_positive Tree.opt_none = omega arith
tree_positive (Tree.opt_some t) = omega arith
tree_positive (Tree.group ts) = omega arith
tree_positive (Tree.terminal k) = omega arith
tree_positive Tree.look = omega arith

-- with one more at the end
pub size_more : (us : List Tree) (t : Tree) → trees_size (trees (us ++ t ∷ [])) ≡ trees_size (trees us) + tree_size t
size_more [] t = omega arith
size_more (u ∷ us) t = omega (arith, size_more us t)

-- each is at most this large
abbrev pub AllAtMost : ℕ → List Tree → Type 0
AllAtMost size [] = Unit {0}
AllAtMost size (u ∷ us) = (tree_size u ≤ size) × AllAtMost size us

pub all_listed : (size : ℕ) (us : List Tree) → trees_size (trees us) ≤ size → AllAtMost size us
all_listed size [] h = tt
all_listed size (u ∷ us) h = (omega (arith, h), all_listed size us (omega (arith, h)))

pub all_joined : (size : ℕ) (us vs : List Tree) → AllAtMost size us → AllAtMost size vs → AllAtMost size (us ++ vs)
all_joined size [] vs h k = k
all_joined size (u ∷ us) vs h k = (h.0, all_joined size us vs h.1 k)

pub all_larger : (size more : ℕ) (us : List Tree) → size ≤ more → AllAtMost size us → AllAtMost more us
all_larger size more [] le h = tt
all_larger size more (u ∷ us) le h = (omega (arith, le, h.0), all_larger size more us le h.1)

itself : (t : Tree) (us : List Tree) → us ≡ t ∷ [] → AllAtMost (tree_size t) us
itself t us e = subst (λ l. AllAtMost (tree_size t) l) (sym e) (omega arith, tt)

nothing : (size : ℕ) (us : List Tree) → us ≡ [] → AllAtMost size us
nothing size us e = subst (λ l. AllAtMost size l) (sym e) tt

-- the size of a list by its elements
pub list_size : (t : Tree) (us : List Tree) → t ≡ Tree.list (trees us) → tree_size t ≡ suc (trees_size (trees us))
list_size t us e = ap tree_size e

-- children are no larger than the tree
pub children_at_most : (o : Origin) (t : Tree) (us : List Tree) → AreChildrenBy o t us → AllAtMost (tree_size t) us
children_at_most Origin.start t us h = itself t us h
children_at_most (Origin.alternative n args place) t us h = all_listed (tree_size t) us (omega (arith, ap tree_size h))
children_at_most Origin.pass_down t us h = itself t us h
children_at_most Origin.plus_one t us h =
    subst (λ l. AllAtMost (tree_size t) l) (sym h.1) (omega (arith, ap tree_size h.2), tt)
children_at_most Origin.plus_more t us h =
    subst (λ l. AllAtMost (tree_size t) l) (sym h.2)
    (omega (arith, ap tree_size h.3, size_more h.0 h.1), (omega (arith, ap tree_size h.3, size_more h.0 h.1), tt))
children_at_most Origin.star_none t us h = nothing (tree_size t) us h.0
children_at_most Origin.star_some t us h = itself t us h
children_at_most Origin.opt_none t us h = nothing (tree_size t) us h.0
children_at_most Origin.opt_some t us h =
    subst (λ l. AllAtMost (tree_size t) l) (sym h.1) (omega (arith, ap tree_size h.2), tt)
children_at_most Origin.group t us h = all_listed (tree_size t) us (omega (arith, ap tree_size h))
children_at_most Origin.look t us h = nothing (tree_size t) us h.0

mutual
  -- nor is what a label keeps
  pub kept_at_most : (label : ChoiceLabel) (t : Tree) (us : List Tree) → AreKeptBy label t us → AllAtMost (tree_size t) us
  kept_at_most (Label.choose x o inlinings) t us h =
      all_kept_at_most inlinings h.0 us (tree_size t) h.2 (children_at_most o t h.0 h.1)

  all_kept_at_most : (inlinings : ChoiceInlinings) (children us : List Tree) (size : ℕ) → AreAllKeptBy inlinings children us →
      AllAtMost size children → AllAtMost size us
  all_kept_at_most Inlinings.none children us size h most = nothing size us h.1
  all_kept_at_most (Inlinings.kept inlinings) children us size h most =
      let k : AllAtMost size (h.first ∷ h.others) = subst (λ l. AllAtMost size l) h.children_are most in
      subst (λ l. AllAtMost size l) (sym h.trees_are) (k.0, all_kept_at_most inlinings h.others h.left size h.rest k.1)
  all_kept_at_most (Inlinings.inlined label inlinings) children us size h most =
      let k : AllAtMost size (h.first ∷ h.others) = subst (λ l. AllAtMost size l) h.children_are most in
      subst (λ l. AllAtMost size l) (sym h.trees_are)
      (all_joined size h.front h.left
      (all_larger (tree_size h.first) size h.front k.0 (kept_at_most label h.first h.front h.kept))
      (all_kept_at_most inlinings h.others h.left size h.rest k.1))
