use Rattle.std.proofs.Common.{refl, inl, inr}
use Rattle.lalrpop_lexer_nfa.specs.Paths.{nfa_view}
use Rattle.lalrpop_lexer_nfa.specs.Sets.{IsEpsilonClosure}
use Rattle.lalrpop_lexer.specs.States.{HasKernel}
use Rattle.lalrpop_lexer.proofs.StatesLemmas.{set_at-new}
use Rattle.lalrpop_lexer.proofs.KernelLemmas.{missed_kernel, kernels_kept, kernel_new, numbered_more}
use Rattle.lalrpop_lexer.proofs.states.States.number_of_ascending.Goals as goal
use Rattle.lalrpop_lexer.proofs.states.States.number_of_ascending.Goals.{In-Some, In_ok-insert}

-- the state that is found was made for the kernel
found : (c : In-Some) → HasKernel c.args.self.now.numbers c.in-Some.number c.args.kernel.now
found c = (c.args.kernel.now, c.in-Some.ensures, λ x. (λ h. h, λ h. h))

pub returns-in-Some-clause-kernel : goal.returns-in-Some-clause-kernel
returns-in-Some-clause-kernel c = found (goal.at.returns-in-Some-clause-kernel c).In-Some

pub returns-in-Some-clause-seen : goal.returns-in-Some-clause-seen
returns-in-Some-clause-seen c m had =
    (c.requires.numbered.apart _ m _ (found (goal.at.returns-in-Some-clause-seen c).In-Some) had, refl)

pub returns-in-Some-clause-found : goal.returns-in-Some-clause-found
returns-in-Some-clause-found c =
    let x = c.requires.numbered.closed _ _ (found (goal.at.returns-in-Some-clause-found c).In-Some) in
    record { place = inl (x.0, refl); closed = x.1 }

closed : (c : In_ok-insert) → IsEpsilonClosure (nfa_view c.args.nfa.now) c.args.kernel.now c.members.result.now
closed c = rw c.members.ensures.members c.in_ok-close_kernel.ensures.closed

pub returns-clause-kernel : goal.returns-clause-kernel
returns-clause-kernel c =
    let s = c.args.self.now in
    rw c.len-number.ensures
    (kernel_new (nfa_view c.args.nfa.now) s.sets s.numbers _ c.args.kernel.now c.members.result.now c.requires.numbered c.requires.rises
    c.requires.inside c.in_default.ensures (closed c) (rw c.len-number.ensures at c.in_ok-insert.ensures) c.args.kernel.now
    (λ x. (λ h. h, λ h. h)))

pub returns-clause-seen : goal.returns-clause-seen
returns-clause-seen c m had =
    absurd (missed_kernel c.args.self.now.numbers c.args.kernel.now c.requires.numbered.ascending c.requires.rises c.in_default.ensures
    c.args.kernel.now m (λ x. (λ h. h, λ h. h)) had)

pub returns-clause-kept : goal.returns-clause-kept
returns-clause-kept c m k had =
    let s = c.args.self.now in
    kernels_kept (nfa_view c.args.nfa.now) s.sets s.numbers _ c.args.kernel.now c.members.result.now c.requires.numbered c.requires.rises
    c.requires.inside c.in_default.ensures (closed (goal.at.returns-clause-kept c).In_ok-insert)
    (rw c.len-number.ensures at c.in_ok-insert.ensures) m k had

pub returns-clause-found : goal.returns-clause-found
returns-clause-found c =
    let sets = c.args.self.now.sets in
    rw (c.in_ok-push.ensures, c.len-number.ensures)
    (record {
      place = inr (refl, (c.members.result.now, refl));
      closed = rw (set_at-new sets c.members.result.now) (closed (goal.at.returns-clause-found c).In_ok-insert);
    })

pub returns-clause-numbered : goal.returns-clause-numbered
returns-clause-numbered c =
    let s = c.args.self.now in
    rw c.in_ok-push.ensures
    (numbered_more (nfa_view c.args.nfa.now) s.sets s.numbers _ c.args.kernel.now c.members.result.now c.requires.numbered c.requires.rises
    c.requires.inside c.in_default.ensures (closed (goal.at.returns-clause-numbered c).In_ok-insert)
    (rw c.len-number.ensures at c.in_ok-insert.ensures))
