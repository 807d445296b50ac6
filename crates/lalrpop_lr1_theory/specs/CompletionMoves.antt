-- What is left to be done behind a place of a tree, out to its root, as the items of the states on a path tell it: for those who make
-- sentences in which a state's moves are made.
use Rattle.std.specs.Prelude.{ℕ, List, [], ◌∷◌, ◌++◌, drop, ◌≡◌}
use Rattle.lalrpop_grammar_symbols.specs.Symbols.{Text, Terminal}
use Rattle.lalrpop_lr1_theory.specs.Productions.{Symbol, nonterminal, Production, Next, first}
use Rattle.lalrpop_lr1_theory.specs.Trees.{Forest, roots, yield, nodes, AreOver, IsTreeOf, Move, reduce, moves, forest}
use Rattle.lalrpop_lr1_theory.specs.PathTrees.{IsBack}

-- Behind a tree of the nonterminal in the state these moves lead out to the whole tree, and these terminals are its leaves that are
-- still to come. In state 0 a tree of the start is the whole. Else some item of the state has its dot before the nonterminal: trees
-- for what stands behind that are made, then the reduction by its production, and from the state that stands before it on the path
-- the way leads on.
pub data LeadsOut (G : Production → Type 0) (s : Text) (Item : ℕ → Production → ℕ → Type 0)
    (Back : ℕ → Symbol → ℕ → Type 0) : ℕ → Text → List Move → List Terminal → Type 0 where
  arrives : LeadsOut G s Item Back 0 s [] []
  steps : {n m i : ℕ} {ms : List Move} {w : List Terminal} (p : Production) (B : Text) (b : List Symbol) (us : Forest) →
      Item n p i → drop i p.right ≡ nonterminal B ∷ b → IsBack Back i n m → AreOver G us → roots us ≡ b →
      LeadsOut G s Item Back m p.left ms w → LeadsOut G s Item Back n B (moves us ++ reduce p ∷ ms) (yield us ++ w)

-- some moves lead out, and the next terminal is this one, or none is left
pub record HasCompletion (G : Production → Type 0) (s : Text) (Item : ℕ → Production → ℕ → Type 0)
    (Back : ℕ → Symbol → ℕ → Type 0) (m : ℕ) (B : Text) (x : Next) : Type 0 where
  pub moves : List Move
  pub left : List Terminal
  pub leads : LeadsOut G s Item Back m B moves left
  pub next : first left ≡ x

-- A whole tree whose moves are first those of the forest and then these: after so many moves it has just the forest, and its leaves
-- are first those of the forest, and then these.
pub record IsContinued (G : Production → Type 0) (s : Text) (f : Forest) (ms : List Move) (w : List Terminal) : Type 0 where
  pub tree : Forest
  pub is_tree : IsTreeOf G s tree
  pub moves_are : moves tree ≡ moves f ++ ms
  pub forest_is : forest tree (nodes f) ≡ f
  pub leaves : yield tree ≡ yield f ++ w
