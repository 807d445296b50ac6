-- When states cover the items, as tests that go along each item and each edge once: for the test of states.
use Rattle.std.specs.Prelude.{ℕ, suc, List, ◌∷◌, drop, ◌≡◌, ◌↔◌}
use Rattle.lalrpop_grammar_symbols.specs.Symbols.{Text}
use Rattle.lalrpop_lr1_theory.specs.Productions.{Symbol, Production}
use Rattle.lalrpop_lr1_theory.specs.NameClosures.{IsMovedItem, IsNameBegun, IsNameBrought}

-- the state leads by the symbol to one that has the item with its dot moved over it
abbrev pub LeadsToMoved : (ℕ → Production → ℕ → Type 0) → (ℕ → Symbol → ℕ → Type 0) → ℕ → Production →
    ℕ → Symbol → Type 0
LeadsToMoved Item Edge n p i X = (m : ℕ) × Edge n X m × Item m p (suc i)

-- the item stands in the state with its dot before the symbol
pub record IsBeforeSymbol (Item : ℕ → Production → ℕ → Type 0) (n : ℕ) (p : Production) (i : ℕ) (X : Symbol) : Type 0 where
  pub rest : List Symbol
  pub item : Item n p i
  pub before : drop i p.right ≡ X ∷ rest

-- the items of the state with the dot in front are the productions of just these names
abbrev pub HasItemsOfNames : (Production → Type 0) → (ℕ → Production → ℕ → Type 0) → ℕ → (Text → Type 0) → Type 0
HasItemsOfNames G Item n Name = (q : Production) → Item n q 0 ↔ (G q × Name q.left)

-- Each item moves on along an edge, each item with its dot moved comes back along each edge to it, each edge leads to such an
-- item, and the items with the dot in front are those that the others bring, and in state 0 those that the start brings.
pub record PassesCoverTests (G : Production → Type 0) (s : Text) (Item : ℕ → Production → ℕ → Type 0)
    (Edge : ℕ → Symbol → ℕ → Type 0) : Type 0 where
  pub moves_on : (n : ℕ) (p : Production) (i : ℕ) (X : Symbol) (b : List Symbol) → Item n p i → drop i p.right ≡ X ∷ b →
      LeadsToMoved Item Edge n p i X
  pub comes_back : (n : ℕ) (X : Symbol) (m : ℕ) → Edge n X m → (p : Production) (i : ℕ) → Item m p (suc i) →
      IsBeforeSymbol Item n p i X
  pub has_moved : (n : ℕ) (X : Symbol) (m : ℕ) → Edge n X m → (p : Production) × (i : ℕ) × Item m p (suc i)
  pub one_edge : (n : ℕ) (X : Symbol) (m k : ℕ) → Edge n X m → Edge n X k → m ≡ k
  pub unmoved_start : (p : Production) (i : ℕ) → Item 0 p (suc i) → ⊥
  pub start_brings : HasItemsOfNames G Item 0 (IsNameBegun G s)
  pub moved_bring : (n : ℕ) (X : Symbol) (m : ℕ) → Edge n X m →
      HasItemsOfNames G Item m (IsNameBrought G (IsMovedItem (Item m)))
