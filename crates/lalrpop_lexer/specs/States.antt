-- The states of the automaton under way: the kernel that each was made for, and the set of states that it stands for.
use Rattle.std.specs.Prelude.{◌≡◌, ℕ, ◌<◌, ◌⊎◌, ◌↔◌, List, [], ◌∷◌, ◌++◌, length, All, Contains}
use Rattle.std.specs.List.Sorted.{IsStrictlyIncreasing}
use Rattle.lalrpop_lexer_nfa.specs.Paths.{Graph}
use Rattle.lalrpop_lexer_nfa.specs.Sets.{IsEpsilonClosure}
use Rattle.lalrpop_lexer.specs.Subsets.{set_at}

-- two lists that are the same set
abbrev pub HaveSameMembers : List ℕ → List ℕ → Type 0
HaveSameMembers xs ys = (x : ℕ) → Contains xs x ↔ Contains ys x

-- the state n was made for the kernel: its number is found by the kernel's members
abbrev pub HasKernel : List (List ℕ × ℕ) → ℕ → List ℕ → Type 0
HasKernel numbers n kernel = (key : List ℕ) × Contains numbers (key, n) × HaveSameMembers key kernel

-- each state has one kernel, two different states have different kernels, and a state's set is its kernel, closed
pub record AreNumbered (t : Graph) (sets : List (List ℕ)) (numbers : List (List ℕ × ℕ)) : Type 0 where
  pub some : (n : ℕ) → n < length sets → (kernel : List ℕ) × HasKernel numbers n kernel
  pub one : (n : ℕ) (kernel other : List ℕ) → HasKernel numbers n kernel → HasKernel numbers n other
      → HaveSameMembers kernel other
  pub apart : (m n : ℕ) (kernel : List ℕ) → HasKernel numbers m kernel → HasKernel numbers n kernel → m ≡ n
  pub inside : (n : ℕ) (kernel : List ℕ) → HasKernel numbers n kernel → All (λ q. q < t.count) kernel
  pub closed : (n : ℕ) (kernel : List ℕ) → HasKernel numbers n kernel → (n < length sets)
      × IsEpsilonClosure t kernel (set_at sets n)
  pub ascending : All (λ (k : List ℕ × ℕ). IsStrictlyIncreasing k.0) numbers

-- the set of the state n is the kernel, closed; it was there, or came last
pub record IsInterned (t : Graph) (kernel : List ℕ) (old new : List (List ℕ)) (n : ℕ) : Type 0 where
  pub place : ((n < length old) × (new ≡ old)) ⊎ ((n ≡ length old) × ((set : List ℕ) × (new ≡ old ++ set ∷ [])))
  pub closed : IsEpsilonClosure t kernel (set_at new n)

-- all members of the sets are states
abbrev pub AreInside : ℕ → List (List ℕ) → Type 0
AreInside count sets = All (λ (set : List ℕ). All (λ q. q < count) set) sets
