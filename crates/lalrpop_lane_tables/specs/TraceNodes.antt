-- Traces by nodes: where each leads, what it adds, where it has an entry, and which edges it notes. The lanes of one item, with all items
-- of a nonterminal that have the dot in front in one state as one node.
use Rattle.std.specs.Prelude.{ℕ, zero, suc, ◌<◌, List, ◌∷◌, drop, None, Some, ◌≡◌, ◌⊎◌, ◌↔◌, Contains, slice_get}
use Rattle.lalrpop_grammar_symbols.specs.Symbols.{Terminal, Text}
use Rattle.lalrpop_lr1_theory.specs.FirstSets.{First0}
use Rattle.lalrpop_lr1_theory.specs.Productions.{Next, Production, Symbol, nonterminal}
use Rattle.lalrpop_lane_theory.specs.Lanes.{Lane}

-- an item of a state whose dot isn't in front, by the place of the symbol before the dot; or the items of a nonterminal in a state that
-- have the dot in front
pub data TraceNode : Type 0 where
  moved_node : ℕ → Production → ℕ → TraceNode
  front_node : ℕ → Text → TraceNode

-- the node of an item of a state
abbrev pub node_of_item : ℕ → Production → ℕ → TraceNode
node_of_item n p zero = front_node n p.left
node_of_item n p (suc i) = moved_node n p i

-- a list of nodes has come to have these, too; those that were there kept their places
pub record ExtendsNodes (old new : List TraceNode) (Came : TraceNode → Type 0) : Type 0 where
  pub kept : (j : ℕ) (node : TraceNode) → slice_get old j ≡ Some node → slice_get new j ≡ Some node
  pub nodes : (node : TraceNode) → Contains new node ↔ (Contains old node ⊎ Came node)

module _ (G : Production → Type 0) (s : Text) (Item : ℕ → Production → ℕ → Type 0) (Edge : ℕ → Symbol → ℕ → Type 0) where
  -- the symbol stands behind the dot, and leads from one state to the other
  pub record EntersBy (p : Production) (i from to : ℕ) : Type 0 where
    pub symbol : Symbol
    pub rest : List Symbol
    pub before : drop i p.right ≡ symbol ∷ rest
    pub edge : Edge from symbol to

  -- an item of the state has its dot before the nonterminal, and the rest behind that
  pub record StandsBefore (n : ℕ) (A : Text) (r : Production) (j : ℕ) (b : List Symbol) : Type 0 where
    pub item : Item n r j
    pub before : drop j r.right ≡ nonterminal A ∷ b

  -- a node leads to the item with its dot moved back in each state from which the symbol leads; one with the dot in front leads to each
  -- item with the dot before its nonterminal behind which nothing may come
  abbrev pub NodeLeads : TraceNode → TraceNode → Type 0
  NodeLeads (moved_node m q j) k = (n : ℕ) × EntersBy q j n m × (k ≡ node_of_item n q j)
  NodeLeads (front_node m A) k =
      (r : Production) × (j : ℕ) × (b : List Symbol) × StandsBefore m A r j b × First0 G b None × (k ≡ node_of_item m r j)

  -- what comes of the items that have their dot before a nonterminal: the end for the start, and the terminals that can come first behind
  pub record AddsBehind (m : ℕ) (A : Text) (x : Next) : Type 0 where
    pub production : Production
    pub dot : ℕ
    pub rest : List Symbol
    pub terminal_of : Terminal
    pub stands : StandsBefore m A production dot rest
    pub is : x ≡ Some terminal_of
    pub first : First0 G rest (Some terminal_of)

  abbrev pub FrontAdds : ℕ → Text → Next → Type 0
  FrontAdds m A x = ((A ≡ s) × (x ≡ None)) ⊎ AddsBehind m A x

  abbrev pub FrontEnters : ℕ → Text → Type 0
  FrontEnters m A = (A ≡ s) ⊎ ((r : Production) × (j : ℕ) × (b : List Symbol) × StandsBefore m A r j b)

  abbrev pub NodeAdds : TraceNode → ℕ → Next → Type 0
  NodeAdds (moved_node m q j) n x = ⊥
  NodeAdds (front_node m A) n x = (n ≡ m) × FrontAdds m A x

  abbrev pub NodeEnters : TraceNode → ℕ → Type 0
  NodeEnters (moved_node m q j) n = ⊥
  NodeEnters (front_node m A) n = (n ≡ m) × FrontEnters m A

  abbrev pub NodeNotes : TraceNode → ℕ → ℕ → Type 0
  NodeNotes (moved_node m q j) k n = (n ≡ m) × EntersBy q j k m
  NodeNotes (front_node m A) k n = ⊥

  -- the node is on the lane of an item
  abbrev pub IsOnLane : ℕ → Production → ℕ → TraceNode → Type 0
  IsOnLane n p i (moved_node m q j) = Lane G Item Edge n p i m q (suc j)
  IsOnLane n p i (front_node m A) = (q : Production) × (q.left ≡ A) × Lane G Item Edge n p i m q 0

  -- The nodes that were visited begin with that of the item and are on its lane; of the first ones all to which they lead were visited.
  pub record AreTraced (n : ℕ) (p : Production) (i : ℕ) (visited : List TraceNode) (count : ℕ) : Type 0 where
    pub first : Contains visited (node_of_item n p i)
    pub sound : (node : TraceNode) → Contains visited node → IsOnLane n p i node
    pub closed : (j : ℕ) (node next : TraceNode) → j < count → slice_get visited j ≡ Some node → NodeLeads node next →
        Contains visited next

-- one of the first nodes says so
abbrev pub SomeNode : (TraceNode → Type 0) → List TraceNode → ℕ → Type 0
SomeNode Says visited count = (j : ℕ) × (node : TraceNode) × (j < count) × (slice_get visited j ≡ Some node) × Says node
