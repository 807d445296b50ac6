-- Canonical states, their order and their numbers: for the construction of states.
use Rattle.std.specs.Prelude.{ℕ, ◌<◌, Bool, true, false, List, Some, ◌≡◌, ◌↔◌, ◌⊎◌, ⊤, Contains, slice_get}
use Rattle.lalrpop_grammar_symbols.specs.Symbols.{Text, Terminal}
use Rattle.lalrpop_lr1_theory.specs.Productions.{Symbol, terminal, nonterminal, Production, Next}
use Rattle.lalrpop_lr1_theory.specs.Automata.{Walk, IsConstructedAutomaton, EndAlone}
use Rattle.lalrpop_lr1_theory.specs.States.{Item, State, HasItem, HasEdge, HasLookahead, finished_reductions}

-- two states have the same items with the same lookaheads
pub record HaveOneItemSet (states : List State) (n m : ℕ) : Type 0 where
  pub items : (p : Production) (i : ℕ) → HasItem states n p i ↔ HasItem states m p i
  pub lookaheads : (p : Production) (i : ℕ) (x : Next) → HasLookahead states n p i x ↔ HasLookahead states m p i x

-- States as they are constructed: their items are exactly the closures, their lookaheads exactly what is marked, each state is
-- reached and has its place as its number, two with the same items and lookaheads are one, each item stands once in a state, no
-- lookahead holds the token of errors, and the reductions are those by the finished items.
pub record AreConstructedStates (firsts : Bool) (Start : Next → Type 0) (grammar : List Production) (s : Text)
    (states : List State) : Type 0 where
  pub automaton : IsConstructedAutomaton firsts Start (Contains grammar) s (HasItem states) (HasEdge states)
      (HasLookahead states)
  pub reached : (n : ℕ) (state : State) → slice_get states n ≡ Some state → (g : List Symbol) × Walk (HasEdge states) g n
  pub distinct : (n m : ℕ) (a b : State) → slice_get states n ≡ Some a → slice_get states m ≡ Some b →
      HaveOneItemSet states n m → n ≡ m
  pub once : (n : ℕ) (state : State) (j k : ℕ) (a b : Item) → slice_get states n ≡ Some state →
      slice_get state.items j ≡ Some a → slice_get state.items k ≡ Some b → a.production ≡ b.production →
      a.dot ≡ b.dot → j ≡ k
  pub without_error : (n : ℕ) (state : State) (item : Item) → slice_get states n ≡ Some state → Contains state.items item →
      item.lookahead.error ≡ false
  pub reductions : (n : ℕ) (state : State) → slice_get states n ≡ Some state → state.reductions ≡ finished_reductions state.items
  pub index : (n : ℕ) (state : State) → slice_get states n ≡ Some state → state.index ≡ n

-- canonical states: with lookaheads, where the end alone follows the start
abbrev pub AreCanonicalStates : List Production → Text → List State → Type 0
AreCanonicalStates = AreConstructedStates true EndAlone

-- states without lookaheads
abbrev pub AreLr0States : List Production → Text → List State → Type 0
AreLr0States = AreConstructedStates false (λ x. ⊥)

-- symbols in order: nonterminals before terminals, each by an order of theirs
abbrev pub SymbolBefore : (Text → Text → Type 0) → (Terminal → Terminal → Type 0) → Symbol → Symbol → Type 0
SymbolBefore Name Token (nonterminal A) (nonterminal B) = Name A B
SymbolBefore Name Token (nonterminal A) (terminal t) = ⊤
SymbolBefore Name Token (terminal t) (nonterminal A) = ⊥
SymbolBefore Name Token (terminal t) (terminal u) = Token t u

-- an edge comes before another: by the number of its source, then by its symbol
abbrev pub EdgeBefore : (Symbol → Symbol → Type 0) → ℕ → Symbol → ℕ → Symbol → Type 0
EdgeBefore Before n x m y = (n < m) ⊎ ((n ≡ m) × Before x y)

-- an edge to the state comes before this edge
pub record HasEdgeBefore (Before : Symbol → Symbol → Type 0) (states : List State) (j n : ℕ) (x : Symbol) : Type 0 where
  pub source : ℕ
  pub symbol : Symbol
  pub edge : HasEdge states source symbol j
  pub earlier : EdgeBefore Before source symbol n x

-- States are numbered as they are first seen, state 0 first: for 0 < j < k some edge to j comes before each edge to k, so the first
-- edge to j comes before the first to k.
abbrev pub AreNumberedAsSeen : (Symbol → Symbol → Type 0) → List State → Type 0
AreNumberedAsSeen Before states =
    (j k n : ℕ) (x : Symbol) → 0 < j → j < k → HasEdge states n x k → HasEdgeBefore Before states j n x

-- the items of each state ascend by an order of items
abbrev pub HaveItemsAscending : (Item → Item → Type 0) → List State → Type 0
HaveItemsAscending Before states =
    (n : ℕ) (state : State) (j k : ℕ) (a b : Item) → slice_get states n ≡ Some state → j < k →
    slice_get state.items j ≡ Some a → slice_get state.items k ≡ Some b → Before a b
