-- A part of an automaton, and what it reads.
use Rattle.std.specs.Prelude.{◌≡◌, ℕ, ◌+◌, ◌<◌, Contains, All, length, slice_index, ◌≤◌, ◌⊎◌, List, []}
use Rattle.std.specs.Prelude.{◌∷◌, ◌++◌}
use Rattle.lalrpop_lexer_pattern.specs.Matches.{Power}
use Rattle.lalrpop_lexer_nfa.specs.Kinds.{AddsNeither}
use Rattle.lalrpop_lexer_nfa.specs.Paths.{Graph, HasEpsilonEdge, HasTransition, IsPath}

-- from the states lo up to hi the same edges go out in both
pub record AgreeOn (f t : Graph) (lo hi : ℕ) : Type 0 where
  pub leads : (q r : ℕ) → lo ≤ q → q < hi → HasEpsilonEdge t q r → HasEpsilonEdge f q r
  pub leads_back : (q r : ℕ) → lo ≤ q → q < hi → HasEpsilonEdge f q r → HasEpsilonEdge t q r
  pub reads : (q c r : ℕ) → lo ≤ q → q < hi → HasTransition t q c r → HasTransition f q c r
  pub reads_back : (q c r : ℕ) → lo ≤ q → q < hi → HasTransition f q c r → HasTransition t q c r

-- the word is one that meets L, and one that a path of at most n steps reads from a to the goal
pub record IsSplitPath (f : Graph) (L : List ℕ → Type 0) (goal a n : ℕ) (w : List ℕ) : Type 0 where
  pub front : List ℕ
  pub back : List ℕ
  pub steps : ℕ
  pub fewer : steps ≤ n
  pub is : w ≡ front ++ back
  pub read : L front
  pub rest : IsPath f goal steps a back

-- whatever stands beside the states lo up to hi: from s on they read just the words of L, and go on at a, on each path
-- to a goal below them
pub record ReadsJust (t : Graph) (lo hi : ℕ) (L : List ℕ → Type 0) (s a : ℕ) : Type 0 where
  pub sound : (f : Graph) → AgreeOn f t lo hi → (goal n : ℕ) (u v : List ℕ) → L u → IsPath f goal n a v → (m : ℕ)
      × IsPath f goal m s (u ++ v)
  pub complete : (f : Graph) → AgreeOn f t lo hi → (goal n : ℕ) (w : List ℕ) → goal < lo → IsPath f goal n s w
      → IsSplitPath f L goal a n w

-- the graph grew, and from s on its new states, which neither accept nor reject, read just the words of L, and go on at a
pub record IsFragment (old new : Graph) (L : List ℕ → Type 0) (s a : ℕ) : Type 0 where
  pub grows : old.count ≤ new.count
  pub kinds : AddsNeither old.kinds new.kinds
  pub inside : a < old.count → s < new.count
  pub keeps : AgreeOn new old 0 old.count
  pub does : ReadsJust new old.count new.count L s a

abbrev pub Concatenation : (List ℕ → Type 0) → (List ℕ → Type 0) → List ℕ → Type 0
Concatenation L M w = (u v : List ℕ) × (w ≡ u ++ v) × L u × M v

abbrev pub KleeneStar : (List ℕ → Type 0) → List ℕ → Type 0
KleeneStar L w = (k : ℕ) × Power L k w

abbrev pub AtLeast : (List ℕ → Type 0) → ℕ → List ℕ → Type 0
AtLeast L n w = (k : ℕ) × (n ≤ k) × Power L k w

abbrev pub UpTo : (List ℕ → Type 0) → ℕ → List ℕ → Type 0
UpTo L n w = (k : ℕ) × (k ≤ n) × Power L k w

abbrev pub Optional : (List ℕ → Type 0) → List ℕ → Type 0
Optional L w = (w ≡ []) ⊎ L w

abbrev pub IsOneOf : (ℕ → Type 0) → List ℕ → Type 0
IsOneOf P w = (c : ℕ) × (w ≡ c ∷ []) × P c

-- the graph got one more state s, which goes on at each of the targets
pub record IsBranch (old new : Graph) (s : ℕ) (targets : List ℕ) : Type 0 where
  pub is : s ≡ old.count
  pub grows : new.count ≡ old.count + 1
  pub kinds : AddsNeither old.kinds new.kinds
  pub keeps : AgreeOn new old 0 old.count
  pub reads : (c r : ℕ) → HasTransition new s c r → ⊥
  pub only : (r : ℕ) → HasEpsilonEdge new s r → Contains targets r
  pub all : (r : ℕ) → Contains targets r → HasEpsilonEdge new s r

-- the graph got one more state s, which reads what meets P, and then goes on at a
pub record IsReader (old new : Graph) (s a : ℕ) (P : ℕ → Type 0) : Type 0 where
  pub is : s ≡ old.count
  pub grows : new.count ≡ old.count + 1
  pub kinds : AddsNeither old.kinds new.kinds
  pub keeps : AgreeOn new old 0 old.count
  pub leads : (r : ℕ) → HasEpsilonEdge new s r → ⊥
  pub only : (c r : ℕ) → HasTransition new s c r → P c × (r ≡ a)
  pub all : (c : ℕ) → P c → HasTransition new s c a

-- the graph grew, and from each of n states on its new states read just the words of the language at its index, and go
-- on at the state that belongs to it
pub record AreFragments (old new : Graph) (L : ℕ → List ℕ → Type 0) (n : ℕ) (places : List ℕ) (a : ℕ → ℕ) : Type 0 where
  pub count : length places ≡ n
  pub grows : old.count ≤ new.count
  pub kinds : AddsNeither old.kinds new.kinds
  pub keeps : AgreeOn new old 0 old.count
  pub inside : All (λ s. s < new.count) places
  pub each : (k : ℕ) → k < n → ReadsJust new old.count new.count (L k) (slice_index places k) (a k)
