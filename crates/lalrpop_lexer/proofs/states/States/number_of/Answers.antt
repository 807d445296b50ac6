use Rattle.std.proofs.Common.{◌≡◌, ◌<◌, All, vec_len, eqb}
use Rattle.std.specs.List.{dedup}
use Rattle.std.specs.List.Sorted.{IsStrictlyIncreasing}
use Rattle.std.proofs.lemmas.List.Sorted.{All-permutation, Contains-permutation, IsPermutation-sym}
use Rattle.std.proofs.lemmas.List.Filters.{All-dedup, dedup_is}
use Rattle.std.proofs.lemmas.List.Kept.{Contains-dedup_nat, Contains-from_dedup}
use Rattle.std.proofs.lemmas.Map.Keys.{IsStrictlyIncreasing-dedup}
use Rattle.lalrpop_lexer.specs.States.{HaveSameMembers}
use Rattle.lalrpop_lexer.proofs.StatesLemmas.{IsEpsilonClosure-along}
use Rattle.lalrpop_lexer.proofs.KernelLemmas.{HaveSameMembers-sym, HasKernel-along}
use Rattle.lalrpop_lexer.proofs.states.States.number_of.Goals as goal
use Rattle.lalrpop_lexer.proofs.states.States.number_of.Goals.{After-dedup, After-drop-key-2}

-- the key is what the kernel leaves once it is in order and without what stands twice
is_dedup : (c : After-dedup) → c.dedup.new.self.items ≡ dedup eqb c.sort_unstable.new.self.items
is_dedup c = dedup_is eqb _ _ c.dedup.ensures.filtered

-- the key ascends
rises : (c : After-dedup) → IsStrictlyIncreasing c.dedup.new.self.items
rises c = rw (is_dedup c) (IsStrictlyIncreasing-dedup _ c.sort_unstable.ensures.sorted)

-- the key has the members of the kernel
members : (c : After-dedup) → HaveSameMembers c.dedup.new.self.items c.args.kernel.now
members c x = (
  λ h. rw (← c.in_ok-key.ensures.items)
      (Contains-permutation _ _ x (IsPermutation-sym _ _ c.sort_unstable.ensures.permutation)
      (Contains-from_dedup eqb _ x (rw (is_dedup c) at h))),
  λ h. rw (is_dedup c)
      (Contains-dedup_nat _ x (Contains-permutation _ _ x c.sort_unstable.ensures.permutation (rw c.in_ok-key.ensures.items h))),
)

-- the key's members are states
below : (c : After-dedup) → All (λ q. q < vec_len c.args.nfa.now.states) c.dedup.new.self.items
below c =
    rw (is_dedup c)
    (All-dedup eqb (λ q. q < vec_len c.args.nfa.now.states) _
    (All-permutation (λ q. q < vec_len c.args.nfa.now.states) _ _ c.sort_unstable.ensures.permutation
    (rw c.in_ok-key.ensures.items c.requires.inside)))

pub number_of_ascending-requires-2-clause-rises : goal.number_of_ascending-requires-2-clause-rises
number_of_ascending-requires-2-clause-rises c =
    rw c.deref.ensures.value (rises (goal.at.number_of_ascending-requires-2-clause-rises c).After-dedup)

pub number_of_ascending-requires-2-clause-inside : goal.number_of_ascending-requires-2-clause-inside
number_of_ascending-requires-2-clause-inside c =
    rw c.deref.ensures.value (below (goal.at.number_of_ascending-requires-2-clause-inside c).After-dedup)

-- the states are numbered by the key
same : (c : After-drop-key-2) → HaveSameMembers c.deref.result.now c.args.kernel.now
same c = rw c.deref.ensures.value (members (goal.at.returns-clause-kernel c).After-dedup)

pub returns-clause-kernel : goal.returns-clause-kernel
returns-clause-kernel c = HasKernel-along _ _ _ _ (same c) c.in_ok-number.ensures.kernel

pub returns-clause-seen : goal.returns-clause-seen
returns-clause-seen c m had =
    c.in_ok-number.ensures.seen m (HasKernel-along _ _ _ _ (HaveSameMembers-sym _ _ (same c)) had)

pub returns-clause-found : goal.returns-clause-found
returns-clause-found c =
    let found = c.in_ok-number.ensures.found in
    record {
      place = found.place;
      closed = IsEpsilonClosure-along _ _ _ _ (λ x. (same c x).0) (λ x. (same c x).1) found.closed;
    }
