use Rattle.std.proofs.Common.{◌≤◌, ◌^◌, arith, ⊎_elim}
use Rattle.std.specs.Map.Iter.{deref}
use Rattle.std.proofs.lemmas.Map.Iter.{rest_more, rest_all}
use Rattle.std.proofs.lemmas.List.Elements.{All-push}
use Rattle.std.proofs.lemmas.List.Sorted.{Contains-permutation, IsPermutation-sym, IsNonDecreasingBy-from_sort, All-permutation}
use Rattle.lalrpop_lexer_nfa.proofs.BoundaryLemmas.{more_all, none_all, more_only, fewer, the_first, no_cut}
use Rattle.lalrpop_lexer_nfa.proofs.overlap.cuts.Goals as goal

pub loop-range-preserved-in-Continue-branch-2 : goal.loop-range-preserved-in-Continue-branch-2
loop-range-preserved-in-Continue-branch-2 c =
    let e = rest_more deref _ _ _ c.in-Some.range c.in-Some.is c.next.ensures.steps in
    rw (c.in_ok-push-2.ensures.items, c.in_ok-push.ensures.items, c.from.ensures, c.from-then-range.ensures) (record {
      all = more_all _ _ _ _ _ e c.loop-range.invariant.all;
      only = more_only c.args.ranges.now.keys c.in-Some.range.now _ (the_first _ _ _ _ e c.loop-range.invariant.rest) c.if-range.true
          c.loop-range.invariant.only;
      rest = fewer _ _ _ _ e c.loop-range.invariant.rest;
      within = All-push (λ n. n ≤ 2 ^ 32) _ _ (All-push (λ n. n ≤ 2 ^ 32) _ _ c.loop-range.invariant.within (omega arith))
          (omega arith);
    })

pub loop-range-preserved : goal.loop-range-preserved
loop-range-preserved c =
    let e = rest_more deref _ _ _ c.in-Some.range c.in-Some.is c.next.ensures.steps in
    record {
      all = none_all _ _ _ c.in-Some.range.now _ e (λ h. omega (arith, c.if-range.false)) c.loop-range.invariant.all;
      only = c.loop-range.invariant.only;
      rest = fewer _ _ _ _ e c.loop-range.invariant.rest;
      within = c.loop-range.invariant.within;
    }

pub returns-clause-all : goal.returns-clause-all
returns-clause-all c n h =
    let e = rest_all deref _ _ _ c.in-None.is c.next.ensures.steps in
    Contains-permutation _ _ n c.sort_unstable.ensures.permutation
    (⊎_elim (λ there. there) (λ cut. absurd (no_cut _ n e cut)) (c.loop-range.invariant.all n h))

pub returns-clause-only : goal.returns-clause-only
returns-clause-only c n h =
    c.loop-range.invariant.only n (Contains-permutation _ _ n (IsPermutation-sym _ _ c.sort_unstable.ensures.permutation) h)

pub returns-clause-ascending : goal.returns-clause-ascending
returns-clause-ascending c = IsNonDecreasingBy-from_sort (λ x. x) _ c.sort_unstable.ensures.sorted

pub returns-clause-within : goal.returns-clause-within
returns-clause-within c = All-permutation (λ n. n ≤ 2 ^ 32) _ _ c.sort_unstable.ensures.permutation c.loop-range.invariant.within
