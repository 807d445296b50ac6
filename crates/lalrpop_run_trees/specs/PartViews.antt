-- What is seen of a part of a written tree: the tree that it is, with leaves that show their terminals. For taking written trees apart.
use Rattle.std.specs.Prelude.{◌≡◌, ◌⊎◌, ◌<◌, ℕ, true, List, [], ◌∷◌, Option, Some, None, Vec, map}
use Rattle.std.specs.declared.alloc.Global.{Global}
use Rattle.lalrpop_grammar.specs.Trees.{Tree, trees}
use Rattle.lalrpop_grammar.specs.WrittenGrammar.{Origin}
use Rattle.lalrpop_grammar.specs.Views.{tree_view}
use Rattle.lalrpop_grammar.specs.declared.tree.WrittenTree.{WrittenTree}
use Rattle.lalrpop_grammar_language.specs.Derivations.{with_shown}
use Rattle.lalrpop_run_trees.specs.ActionLabels.{ChoiceInlinings, ChoiceLabel}
use Rattle.lalrpop_run_trees.specs.KeptTrees.{AreAllKeptBy, AreChildrenBy, AreKeptBy}
use Rattle.lalrpop_run_trees.specs.TreeSizes.{tree_size}
use Rattle.lalrpop_run_trees.specs.declared.tree_parts.tree_part.TreePart.{TreePart}
use Rattle.lalrpop_run_trees.specs.declared.tree_parts.tree_part.Piece.{Piece}
use Rattle.lalrpop_run_trees.specs.declared.tree_parts.tree_part.Piece.TheVariants as pieces

-- a written tree with leaves that show their terminals
abbrev pub shown_tree : WrittenTree → Tree
shown_tree t = with_shown (tree_view t)

-- the tree that it is; or the list of these trees
abbrev pub shown_piece : Piece → Tree
shown_piece (pieces.Whole t) = shown_tree t.now
shown_piece (pieces.Front ts) = Tree.list (trees (map shown_tree ts.now))

abbrev pub shown_part : TreePart → Tree
shown_part p = shown_piece p.piece

-- it stands inside, and in a tree of this size is smaller
pub record IsInside (size : ℕ) (q : TreePart) : Type 0 where
  pub marked : q.is_inside ≡ true
  pub smaller : tree_size (shown_part q) < size

-- each does
abbrev pub AllInside : ℕ → List TreePart → Type 0
AllInside size [] = Unit {0}
AllInside size (q ∷ qs) = IsInside size q × AllInside size qs

-- each is the part itself, or stands inside it
abbrev pub AllWithin : TreePart → List TreePart → Type 0
AllWithin p [] = Unit {0}
AllWithin p (q ∷ qs) = ((q ≡ p) ⊎ IsInside (tree_size (shown_part p)) q) × AllWithin p qs

abbrev pub LieWithin : TreePart → Option (Vec TreePart Global) → Type 0
LieWithin p None = Unit {0}
LieWithin p (Some qs) = AllWithin p qs.items

-- these are the children by the choice; or there are none
abbrev pub TellsChildren : Origin → TreePart → Option (Vec TreePart Global) → Type 0
TellsChildren o p None = (us : List Tree) → AreChildrenBy o (shown_part p) us → ⊥
TellsChildren o p (Some qs) = AreChildrenBy o (shown_part p) (map shown_part qs.items)

-- these are the trees that the label keeps; or there are none
abbrev pub TellsKept : ChoiceLabel → TreePart → Option (Vec TreePart Global) → Type 0
TellsKept label p None = (us : List Tree) → AreKeptBy label (shown_part p) us → ⊥
TellsKept label p (Some qs) = AreKeptBy label (shown_part p) (map shown_part qs.items)

-- these are what is left of trees for symbols; or there is nothing
abbrev pub TellsAllKept : ChoiceInlinings → List TreePart → Option (Vec TreePart Global) → Type 0
TellsAllKept inlinings ps None = (us : List Tree) → AreAllKeptBy inlinings (map shown_part ps) us → ⊥
TellsAllKept inlinings ps (Some qs) = AreAllKeptBy inlinings (map shown_part ps) (map shown_part qs.items)
