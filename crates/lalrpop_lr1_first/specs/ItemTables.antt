-- Items by their places, edges between nonterminals, and what a closure by numbers has: for the closure of items.
use Rattle.std.specs.Prelude.{ℕ, ◌+◌, ◌<◌, ◌≤◌, Bool, true, List, ◌∷◌, drop, ◌≡◌, ◌↔◌, ◌⊎◌}
use Rattle.std.specs.Prelude.{Option, Some, slice_get, Contains}
use Rattle.lalrpop_lr1_theory.specs.Productions.{Symbol, nonterminal, Production, Next}
use Rattle.lalrpop_lr1_theory.specs.FirstSets.{First0}
use Rattle.lalrpop_sets.specs.AscendingLists.{has}
use Rattle.lalrpop_lr1_first.specs.Flows.{FlowEdge, Flows, comes}
use Rattle.lalrpop_lr1_first.specs.Numbers.{SpellsSymbols, set_of_number}
use Rattle.lalrpop_lr1_first.specs.declared.place.NumberedRule.{NumberedRule}

-- the rule is among the rules, its left side is the production's, and it starts at the place of the production's item with the
-- dot in front
pub record StartsItem (symbol_at : ℕ → Option Symbol) (Item : ℕ → Production → ℕ → Type 0) (rules : List NumberedRule)
    (rule : NumberedRule) (p : Production) : Type 0 where
  pub listed : Contains rules rule
  pub left : symbol_at rule.left ≡ Some (nonterminal p.left)
  pub item : Item rule.start p 0

-- Items have places: the symbols from a place on are those behind the dot, a place is one item's, each rule is a production, and
-- each production has a rule.
pub record IsItemTable (G : Production → Type 0) (symbol_at : ℕ → Option Symbol) (Item : ℕ → Production → ℕ → Type 0)
    (rest_at : ℕ → List ℕ) (rules : List NumberedRule) : Type 0 where
  pub of_grammar : (i : ℕ) (p : Production) (d : ℕ) → Item i p d → G p
  pub spelled : (i : ℕ) (p : Production) (d : ℕ) → Item i p d → SpellsSymbols symbol_at (rest_at i) (drop d p.right)
  pub one : (i : ℕ) (p q : Production) (d e : ℕ) → Item i p d → Item i q e → (p ≡ q) × (d ≡ e)
  pub next : (i s : ℕ) (more : List ℕ) → rest_at i ≡ s ∷ more → rest_at (i + 1) ≡ more
  pub rule : (rule : NumberedRule) → Contains rules rule → (p : Production) × StartsItem symbol_at Item rules rule p
  pub all : (p : Production) → G p → (rule : NumberedRule) × StartsItem symbol_at Item rules rule p

-- behind each symbol stands the first set of what stands from there on
pub record AreFirstsOf (G : Production → Type 0) (symbol_at : ℕ → Option Symbol) (next_at : ℕ → Next) (end : ℕ)
    (rest_at first_at : ℕ → List ℕ) : Type 0 where
  pub within : (i s : ℕ) (more : List ℕ) → rest_at i ≡ s ∷ more → (k : ℕ) → has (first_at (i + 1)) k ≡ true →
      k ≤ end
  pub exact : (i s : ℕ) (more : List ℕ) → rest_at i ≡ s ∷ more →
      (ys : List Symbol) → SpellsSymbols symbol_at (rest_at (i + 1)) ys →
      (k : ℕ) → k ≤ end → (has (first_at (i + 1)) k ≡ true) ↔ First0 G ys (next_at k)
  pub has_number : (i s : ℕ) (more : List ℕ) → rest_at i ≡ s ∷ more →
      (ys : List Symbol) → SpellsSymbols symbol_at (rest_at (i + 1)) ys →
      (x : Next) → First0 G ys x → (k : ℕ) × (k ≤ end) × (next_at k ≡ x)

-- the edge is of a rule that begins with a nonterminal
pub record IsEdgeOf (names : ℕ) (rest_at first_at : ℕ → List ℕ) (rule : NumberedRule) (e : FlowEdge) : Type 0 where
  pub more : List ℕ
  pub rest : rest_at rule.start ≡ e.to ∷ more
  pub name : e.to < names
  pub from : e.from ≡ rule.left
  pub first : e.first ≡ first_at (rule.start + 1)

-- there is one edge for each rule that begins with a nonterminal, and no other
pub record AreEdgesOf (names : ℕ) (rest_at first_at : ℕ → List ℕ) (rules : List NumberedRule) (edges : List FlowEdge) :
    Type 0 where
  pub sound : (r : ℕ) (e : FlowEdge) → slice_get edges r ≡ Some e →
      (rule : NumberedRule) × Contains rules rule × IsEdgeOf names rest_at first_at rule e
  pub all : (rule : NumberedRule) (s : ℕ) (more : List ℕ) → Contains rules rule → rest_at rule.start ≡ s ∷ more →
      s < names →
      (r : ℕ) × (e : FlowEdge) × (slice_get edges r ≡ Some e) × (e.to ≡ s) × IsEdgeOf names rest_at first_at rule e

module _ {L : Type 0} (items : List (ℕ × L)) where
  -- the place is among them
  abbrev pub HasPlace : ℕ → Type 0
  HasPlace i = (l : L) × Contains items (i, l)

  -- some of them is at the item's place
  abbrev pub ListsItem : (ℕ → Production → ℕ → Type 0) → Production → ℕ → Type 0
  ListsItem Item p d = (i : ℕ) × HasPlace i × Item i p d

module _ {L : Type 0} (marks : L → List ℕ) (items : List (ℕ × L)) where
  -- the place is among them with a lookahead that has the number
  abbrev pub HasMark : ℕ → ℕ → Type 0
  HasMark i k = (l : L) × Contains items (i, l) × (has (marks l) k ≡ true)

  -- some of them is at the item's place, with the next in its lookahead
  pub record ListsNext (next_at : ℕ → Next) (end : ℕ) (Item : ℕ → Production → ℕ →
      Type 0) (p : Production) (d : ℕ) (x : Next) :
      Type 0 where
    pub place : ℕ
    pub number : ℕ
    pub held : HasMark place number
    pub small : number ≤ end
    pub next_is : next_at number ≡ x
    pub item : Item place p d

module _ {L : Type 0} (marks : L → List ℕ) (firsts : Bool) (end names : ℕ) (rest_at first_at : ℕ → List ℕ)
    (seed : List (ℕ × L)) where
  -- an item of the seed with the nonterminal behind its dot brings the mark to the nonterminal
  pub record SeedBrings (s k : ℕ) : Type 0 where
    pub place : ℕ
    pub lookahead : L
    pub more : List ℕ
    pub held : Contains seed (place, lookahead)
    pub rest : rest_at place ≡ s ∷ more
    pub name : s < names
    pub mark : (k ≡ end + 2) ⊎ (comes firsts end (first_at (place + 1)) (marks lookahead) k ≡ true)

  -- the slots of the nonterminals have what the seed brings
  abbrev pub AreSeeded : List (List ℕ) → Type 0
  AreSeeded slots = (s k : ℕ) → (has (set_of_number slots s) k ≡ true) ↔ SeedBrings s k

module _ (firsts : Bool) (end : ℕ) (rules : List NumberedRule) (edges : List FlowEdge) (slots : List (List ℕ)) where
  -- a rule starts at the place, and the mark flows to its left side
  abbrev pub FlowsToStart : ℕ → ℕ → Type 0
  FlowsToStart i k = (rule : NumberedRule) × Contains rules rule × (rule.start ≡ i) × Flows firsts end edges slots rule.left k
