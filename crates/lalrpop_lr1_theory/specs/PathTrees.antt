-- A path to each state, all of them one tree: for those who make sentences that lead to a state.
use Rattle.std.specs.Prelude.{ℕ, suc, List, Option, Some, ◌≡◌, slice_get}
use Rattle.lalrpop_lr1_theory.specs.Productions.{Symbol}
use Rattle.lalrpop_lr1_theory.specs.Automata.{Walk}
use Rattle.lalrpop_lr1_theory.specs.States.{State, HasEdge}

-- Edges are a tree from state 0: each is one of the states', at most one leads to a state, none leads to state 0, and by them alone
-- each state is led to.
pub record IsPathTree (Edge Back : ℕ → Symbol → ℕ → Type 0) (IsState : ℕ → Type 0) : Type 0 where
  pub edges : (n : ℕ) (x : Symbol) (m : ℕ) → Back n x m → Edge n x m
  pub one : (n k : ℕ) (x y : Symbol) (m : ℕ) → Back n x m → Back k y m → (n ≡ k) × (x ≡ y)
  pub root : (n : ℕ) (x : Symbol) → Back n x 0 → ⊥
  pub all : (n : ℕ) → IsState n → (g : List Symbol) × Walk Back g n

-- so many places back from the state, on its path, stands the other
pub data IsBack (Back : ℕ → Symbol → ℕ → Type 0) : ℕ → ℕ → ℕ → Type 0 where
  here : (n : ℕ) → IsBack Back 0 n n
  further : {i n m : ℕ} (x : Symbol) (k : ℕ) → Back n x k → IsBack Back i n m → IsBack Back (suc i) k m

-- the last step of a path: from which state, and by which symbol
pub record LastStep : Type 0 where
  pub from : ℕ
  pub by : Symbol

-- of each state the last step of its path, none of state 0 and of states that no path leads to
abbrev pub LastSteps : Type 0
LastSteps = List (Option LastStep)

abbrev pub LedBy : LastSteps → ℕ → Symbol → ℕ → Type 0
LedBy table n x m = slice_get table m ≡ Some (Some (record { from = n; by = x }))

-- some state has the number
abbrev pub IsStateOf : List State → ℕ → Type 0
IsStateOf states n = (state : State) × (slice_get states n ≡ Some state)

-- the table has a path to each of the states
abbrev pub ArePaths : List State → LastSteps → Type 0
ArePaths states table = IsPathTree (HasEdge states) (LedBy table) (IsStateOf states)
