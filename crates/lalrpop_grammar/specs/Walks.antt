-- A walk through a tree from left to right: a stack of lists of trees, the lists that are open, the innermost last.
use Rattle.std.specs.Prelude.{ℕ, suc, List, [], ◌∷◌, ◌++◌, Option, Some, None, max}
use Rattle.lalrpop_grammar.specs.Trees.{Token, Tree, Trees, leaves_of}

-- the trees right below
abbrev pub children : Tree → Trees
children (Tree.rule n args place ts) = ts
children (Tree.list ts) = ts
children Tree.opt_none = Trees.none
children (Tree.opt_some t) = Trees.more t Trees.none
children (Tree.group ts) = ts
children (Tree.terminal token) = Trees.none
children Tree.look = Trees.none

-- the elements of a list
abbrev pub elements : Tree → Option Trees
elements (Tree.list ts) = Some ts
elements (Tree.rule n args place ts) = None
elements Tree.opt_none = None
elements (Tree.opt_some t) = None
elements (Tree.group ts) = None
elements (Tree.terminal token) = None
elements Tree.look = None

-- the token of a leaf
abbrev pub token_at : Tree → Option Token
token_at (Tree.terminal token) = Some token
token_at (Tree.rule n args place ts) = None
token_at (Tree.list ts) = None
token_at Tree.opt_none = None
token_at (Tree.opt_some t) = None
token_at (Tree.group ts) = None
token_at Tree.look = None

-- how many lists are open at once on a walk through trees, from their own list on
unfoldable mutual
  pub open_below : Tree → ℕ
  open_below (Tree.rule n args place ts) = open_in ts
  open_below (Tree.list ts) = open_in ts
  open_below Tree.opt_none = 1
  open_below (Tree.opt_some t) = max (suc (open_below t)) 1
  open_below (Tree.group ts) = open_in ts
  open_below (Tree.terminal token) = 1
  open_below Tree.look = 1

  pub open_in : Trees → ℕ
  open_in Trees.none = 1
  open_in (Trees.more t ts) = max (suc (open_below t)) (open_in ts)

-- the same from a stack on
unfoldable pub open_through : List Trees → ℕ
open_through [] = 0
open_through (ts ∷ rest) = max (open_in ts) (suc (open_through rest))

-- the tokens that are still to come
abbrev pub to_come : List Trees → List Token
to_come [] = []
to_come (ts ∷ rest) = to_come rest ++ leaves_of ts
