-- States spread over others, as a merge leaves them: states are copied, and edges lead to copies in place of their originals.
use Rattle.std.specs.Prelude.{ℕ, List, ◌≡◌, ◌⊎◌, ◌↔◌, Contains}
use Rattle.lalrpop_lr1_theory.specs.Productions.{Production, Symbol, nonterminal, terminal}
use Rattle.lalrpop_lr1_theory.specs.States.{HasEdge, HasItem, State}

-- Edges that leave some state lead on as those of the original n: one for each of its symbols, to a state whose original is the one to
-- which the original leads.
pub record LeadAsOriginal (Edge : ℕ → Symbol → ℕ → Type 0) (origin : ℕ → ℕ) (n : ℕ) (Leaving : Symbol → ℕ → Type 0) : Type 0 where
  pub down : (x : Symbol) (m : ℕ) → Leaving x m → Edge n x (origin m)
  pub on : (x : Symbol) (k : ℕ) → Edge n x k → (m : ℕ) × Leaving x m
  pub one : (x : Symbol) (m k : ℕ) → Leaving x m → Leaving x k → m ≡ k

-- States are spread over others: each has an original, whose items it has, and its edges lead on as the original's. State 0 is its own.
pub record IsSpread (Item : ℕ → Production → ℕ → Type 0) (Edge : ℕ → Symbol → ℕ → Type 0) (SpreadItem : ℕ → Production → ℕ → Type 0)
    (SpreadEdge : ℕ → Symbol → ℕ → Type 0) (origin : ℕ → ℕ) : Type 0 where
  pub first_state : origin 0 ≡ 0
  pub items : (n : ℕ) (p : Production) (i : ℕ) → SpreadItem n p i ↔ Item (origin n) p i
  pub edges : (n : ℕ) → LeadAsOriginal Edge origin (origin n) (SpreadEdge n)

abbrev pub AreSpreadStates : List State → List State → (ℕ → ℕ) → Type 0
AreSpreadStates originals states origin =
    IsSpread (HasItem originals) (HasEdge originals) (HasItem states) (HasEdge states) origin

-- an edge leaves the state by the symbol, to the state with this number: a shift of a terminal, a goto of a nonterminal
abbrev pub LeavesBy : State → Symbol → ℕ → Type 0
LeavesBy state (terminal t) m = Contains state.shifts (t, m)
LeavesBy state (nonterminal A) m = Contains state.gotos (A, m)

-- A state comes new, as a copy: it has the items of another, and edges that this one has now or had earlier. All other states stay as
-- they are, and no edge leads to the copy yet.
pub record IsCopied (Item : ℕ → Production → ℕ → Type 0) (Edge : ℕ → Symbol → ℕ → Type 0) (NewItem : ℕ → Production → ℕ → Type 0)
    (NewEdge : ℕ → Symbol → ℕ → Type 0) (Earlier : Symbol → ℕ → Type 0) (from copy : ℕ) : Type 0 where
  pub behind_first : copy ≡ 0 → ⊥
  pub no_edge : (n : ℕ) (x : Symbol) → Edge n x copy → ⊥
  pub no_edge_earlier : (x : Symbol) → Earlier x copy → ⊥
  pub items : (n : ℕ) (p : Production) (i : ℕ) → (n ≡ copy → ⊥) → NewItem n p i ↔ Item n p i
  pub edges : (n : ℕ) (x : Symbol) (m : ℕ) → (n ≡ copy → ⊥) → NewEdge n x m ↔ Edge n x m
  pub copied_items : (p : Production) (i : ℕ) → NewItem copy p i ↔ Item from p i
  pub copied_edges : (x : Symbol) (m : ℕ) → NewEdge copy x m ↔ Earlier x m

-- Edges are redirected: some that led to a state lead to its copy, all others stay, and each is one for its symbol.
pub record AreRedirected (Edge NewEdge : ℕ → Symbol → ℕ → Type 0) (from copy : ℕ) : Type 0 where
  pub each : (n : ℕ) (x : Symbol) (m : ℕ) → NewEdge n x m → Edge n x m ⊎ (Edge n x from × (m ≡ copy))
  pub stays : (n : ℕ) (x : Symbol) (k : ℕ) → Edge n x k → (m : ℕ) × NewEdge n x m
  pub one : (n : ℕ) (x : Symbol) (m k : ℕ) → NewEdge n x m → NewEdge n x k → m ≡ k
