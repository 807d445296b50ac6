-- How items move along edges, and back: for the test of states.
use Rattle.std.specs.Prelude.{ℕ, suc, ◌+◌, ◌≡◌, ◌∷◌, List, Some, Contains, drop, slice_get}
use Rattle.lalrpop_grammar_repr.specs.declared.production.Production.{Production}
use Rattle.lalrpop_grammar_repr.specs.declared.production.Symbol.{Symbol}
use Rattle.lalrpop_lr1_theory.specs.Productions as theory
use Rattle.lalrpop_lr1_theory.specs.CoverTests.{IsBeforeSymbol, LeadsToMoved}
use Rattle.lalrpop_lr1_core.specs.Views.{production_symbol_view}
use Rattle.lalrpop_lr1_core.specs.declared.item.Item.{Item}
use Rattle.lalrpop_lr1_core.specs.declared.state.State.{State}
use Rattle.lalrpop_lr1_check_lookaheads.specs.ListedItems.{ItemKey, key_at}
use Rattle.lalrpop_lr1_check_lookaheads.specs.SeenEdges.{SeenEdge, target_at}

-- the state leads by the symbol to one that has the item with this dot
abbrev pub DoesMoveOver : {L : Type 0} → List ItemKey → State L → Production → ℕ → Symbol → Type 0
DoesMoveOver keys state p dot x = (m : ℕ) × (target_at state x ≡ Some m) × Contains keys (key_at m p dot)

-- where a symbol stands behind the item's dot, the state leads by it to one that has the item with its dot behind it
abbrev pub DoesMoveOn : {L : Type 0} → List ItemKey → State L → Item L → Type 0
DoesMoveOn keys state item =
    (x : Symbol) → slice_get item.production.now.symbols item.index ≡ Some x →
    DoesMoveOver keys state item.production.now (item.index + 1) x

-- the symbol is the edge's, and the edge's source has the item with its dot before it
abbrev pub ComesBackOver : List ItemKey → SeenEdge → Production → ℕ → Symbol → Type 0
ComesBackOver keys edge p dot x = (production_symbol_view x ≡ edge.symbol) × Contains keys (key_at edge.source p dot)

-- the item comes back along the edge to this dot
abbrev pub ComesBackFrom : List ItemKey → SeenEdge → Production → ℕ → Type 0
ComesBackFrom keys edge p dot = (x : Symbol) × (slice_get p.symbols dot ≡ Some x) × ComesBackOver keys edge p dot x

-- the item's dot moved over the edge's symbol, and the edge's source has the item before that
abbrev pub DoesComeBack : List ItemKey → SeenEdge → ItemKey → Type 0
DoesComeBack keys edge item = (dot : ℕ) × (item.dot ≡ dot + 1) × ComesBackFrom keys edge item.production dot

-- the edge leads to a state with items that have moved, and each of them comes back along it
pub record KernelComesBack (keys : List ItemKey) (kernels : List (List ItemKey)) (edge : SeenEdge) : Type 0 where
  pub kernel : List ItemKey
  pub one : ItemKey
  pub at : slice_get kernels edge.target ≡ Some kernel
  pub is_there : Contains kernel one
  pub all : (item : ItemKey) → Contains kernel item → DoesComeBack keys edge item

-- The items of states follow their edges: each moves on along an edge, each that has moved comes back along each edge to its state,
-- each edge leads to one that has moved, and no symbol leads to two states.
pub record FollowsEdges (Item : ℕ → theory.Production → ℕ → Type 0) (Edge : ℕ → theory.Symbol → ℕ → Type 0) : Type 0
  where
    pub moves_on : (n : ℕ) (p : theory.Production) (i : ℕ) (X : theory.Symbol) (b : List theory.Symbol) → Item n p i →
        drop i p.right ≡ X ∷ b → LeadsToMoved Item Edge n p i X
    pub comes_back : (n : ℕ) (X : theory.Symbol) (m : ℕ) → Edge n X m → (p : theory.Production) (i : ℕ) → Item m p (suc i) →
        IsBeforeSymbol Item n p i X
    pub has_moved : (n : ℕ) (X : theory.Symbol) (m : ℕ) → Edge n X m → (p : theory.Production) × (i : ℕ) × Item m p (suc i)
    pub one_edge : (n : ℕ) (X : theory.Symbol) (m k : ℕ) → Edge n X m → Edge n X k → m ≡ k
