use Rattle.std.proofs.Common.{◌≡◌, ◌∙◌, ◌↔◌, ◌<◌, ◌≤◌, ℕ, List, ap, arith, length, subst, sym}
use Rattle.std.proofs.Common.{true}
use Rattle.lalrpop_lr1_core.specs.declared.state.State.{State}
use Rattle.lalrpop_lr1_first.specs.NumberedGrammars.{IsSeenIn, table_productions}
use Rattle.lalrpop_lr1_check_lookaheads.proofs.GainLemmas.{each_fails, each_more, each_passes, first_none}
use Rattle.lalrpop_lr1_check.specs.ClosureItemTests.{HasOwnClosure, HasOwnClosureIfMarked}
use Rattle.lalrpop_lr1_check.proofs.closure.closure_items.each_has_own_closure.Goals as goal

pub loop-number-init : goal.loop-number-init
loop-number-init c = (
  first_none (HasOwnClosureIfMarked (IsSeenIn (table_productions c.args.table.now)) c.args.targets.now) c.args.states.now,
  c.requires.lent,
)

pub has_own_closure_if_marked-requires-clause-lent : goal.has_own_closure_if_marked-requires-clause-lent
has_own_closure_if_marked-requires-clause-lent c = c.loop-number.invariant.1

pub returns-then-not-brings : goal.returns-then-not-brings
returns-then-not-brings c =
    let G = IsSeenIn (table_productions c.args.table.now) in
    let here : c.loop-number.number < length c.args.states.now = omega arith in
    let told = subst (λ l. (c.in_ok-brings.brings ≡ true) ↔ ((c.is_marked.result ≡ true) → HasOwnClosure G l))
    (c.as_slice.ensures ∙ ap (λ (s : State (List ℕ)). s.items.vec) (sym c.index-states-number.is)) c.in_ok-brings.ensures.brings in
    let says = subst (λ b. (c.in_ok-brings.brings ≡ true) ↔ ((b ≡ true) → HasOwnClosure G (c.index-states-number.result).items.vec))
    c.is_marked.ensures told in
    each_fails (HasOwnClosureIfMarked G c.args.targets.now) c.args.states.now c.loop-number.number c.index-states-number.result
    c.in_ok-brings.brings here c.index-states-number.is says c.if-not-brings.true

pub loop-number-preserved : goal.loop-number-preserved
loop-number-preserved c =
    let G = IsSeenIn (table_productions c.args.table.now) in
    let here : c.loop-number.number < length c.args.states.now = omega arith in
    let told = subst (λ l. (c.in_ok-brings.brings ≡ true) ↔ ((c.is_marked.result ≡ true) → HasOwnClosure G l))
    (c.as_slice.ensures ∙ ap (λ (s : State (List ℕ)). s.items.vec) (sym c.index-states-number.is)) c.in_ok-brings.ensures.brings in
    let says = subst (λ b. (c.in_ok-brings.brings ≡ true) ↔ ((b ≡ true) → HasOwnClosure G (c.index-states-number.result).items.vec))
    c.is_marked.ensures told in (
      each_more (HasOwnClosureIfMarked G c.args.targets.now) c.args.states.now c.loop-number.number c.index-states-number.result
          c.in_ok-brings.brings here c.index-states-number.is says c.if-not-brings.false c.loop-number.invariant.0,
      c.in_ok-brings.ensures.lent c.if-not-brings.false,
    )

pub returns : goal.returns
returns c =
    let end : length c.args.states.now ≤ c.loop-number.number = omega arith in
    each_passes (HasOwnClosureIfMarked (IsSeenIn (table_productions c.args.table.now)) c.args.targets.now) c.args.states.now
    c.loop-number.number end c.loop-number.invariant.0
