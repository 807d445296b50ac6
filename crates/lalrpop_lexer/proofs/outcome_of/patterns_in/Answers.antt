use Rattle.std.proofs.Common.{◌-◌, ◌≤◌, arith, get_or, take}
use Rattle.std.proofs.lemmas.List.{take_more, take_all}
use Rattle.std.proofs.lemmas.List.Sorted.{Contains-permutation, IsPermutation-sym, IsNonDecreasingBy-from_sort}
use Rattle.lalrpop_lexer.proofs.OutcomeLemmas.{no_patterns, patterns_more, patterns_skip}
use Rattle.lalrpop_lexer.proofs.outcome_of.patterns_in.Goals as goal
use Rattle.lalrpop_lexer.proofs.outcome_of.patterns_in.Goals.{then-set-i-ge-FIRST_ACCEPT+in_ok-push, else-set-i-ge-FIRST_ACCEPT}

pub loop-i-init : goal.loop-i-init
loop-i-init c = rw c.new-patterns.ensures.items no_patterns

pub loop-i-preserved : goal.loop-i-preserved
loop-i-preserved c =
    let set = c.args.set.now in
    let q = get_or set c.loop-i.i 0 in
    let more = take_more set c.loop-i.i 0 c.loop-i-test.true in
    elim c.if-set-i-ge-FIRST_ACCEPT.branch [
      | then-set-i-ge-FIRST_ACCEPT+in_ok-push w ↦
          rw (more, w.patterns-is, w.in_ok-push.ensures.items)
          (patterns_more (take c.loop-i.i set) c.loop-i.patterns.items q (q - 3)
          (let over : 3 ≤ q = w.if-set-i-ge-FIRST_ACCEPT.true in omega arith) c.loop-i.invariant)
      | else-set-i-ge-FIRST_ACCEPT w ↦
          rw (more, w.patterns-is)
          (patterns_skip (take c.loop-i.i set) c.loop-i.patterns.items q w.if-set-i-ge-FIRST_ACCEPT.false c.loop-i.invariant)
    ]

pub returns-clause-only : goal.returns-clause-only
returns-clause-only c k h =
    rw (← take_all c.loop-i.i c.args.set.now (omega arith))
    (c.loop-i.invariant.only k (Contains-permutation _ _ k (IsPermutation-sym _ _ c.sort_unstable.ensures.permutation) h))

pub returns-clause-all : goal.returns-clause-all
returns-clause-all c k h =
    Contains-permutation _ _ k c.sort_unstable.ensures.permutation
    (c.loop-i.invariant.all k (rw (take_all c.loop-i.i c.args.set.now (omega arith)) h))

pub returns-clause-ascending : goal.returns-clause-ascending
returns-clause-ascending c = IsNonDecreasingBy-from_sort (λ x. x) _ c.sort_unstable.ensures.sorted
