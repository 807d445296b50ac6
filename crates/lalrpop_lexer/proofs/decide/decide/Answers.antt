use Rattle.std.proofs.Common.{ℕ, ◌≡◌, ◌+◌, arith, List, Contains, length, subst}
use Rattle.lalrpop_lexer.specs.declared.outcome.Outcome.{Outcome}
use Rattle.lalrpop_lexer.specs.StateViews.{accepted_in}
use Rattle.lalrpop_lexer.specs.Outcome.{numbers, IsOutcome}
use Rattle.lalrpop_lexer.specs.Subsets.{set_at}
use Rattle.lalrpop_lexer.proofs.StateViewLemmas.{decided_none, decided_more}
use Rattle.lalrpop_lexer.proofs.decide.decide.Goals as goal
use Rattle.lalrpop_lexer.proofs.decide.decide.Goals.{In_ok-outcome_of, in-Nothing, in-Wins}

-- what came out for the state's set
outcome : (c : In_ok-outcome_of) (o : Outcome) → c.in_ok-outcome_of.field-0 ≡ o →
    IsOutcome (λ k. Contains (set_at c.args.sets.now c.loop-i.i) (3 + k)) (numbers c.args.precedences.now)
    (length (numbers c.args.precedences.now)) o
outcome c o is =
    let P : List ℕ → Type 0 =
    λ s. IsOutcome (λ k. Contains s (3 + k)) (numbers c.args.precedences.now) (length (numbers c.args.precedences.now)) o in
    let Q : Outcome → Type 0 =
    IsOutcome (λ k. Contains c.get.result.now (3 + k)) (numbers c.args.precedences.now) (length (numbers c.args.precedences.now)) in
    subst P c.get.ensures (subst Q is c.in_ok-outcome_of.ensures)

pub loop-i-init : goal.loop-i-init
loop-i-init c = rw c.in_ok-states.ensures.items (decided_none c.args.sets.now (numbers c.args.precedences.now))

pub returns-in-Ties-clause-refused : goal.returns-in-Ties-clause-refused
returns-in-Ties-clause-refused c = (
  c.loop-i.i,
  omega (arith, c.loop-i-test.true, c.len-i-end.ensures),
  λ r less. (accepted_in c.loop-i.states.items r, c.loop-i.invariant.accepted r less),
  outcome (goal.at.returns-in-Ties-clause-refused c).In_ok-outcome_of _ c.in-Ties.is,
)

pub loop-i-preserved : goal.loop-i-preserved
loop-i-preserved c =
    let d = (goal.at.loop-i-preserved c).In_ok-outcome_of in
    elim c.match-branch-3.branch [
      | in-Nothing w ↦
          rw (c.in_ok-push.ensures.items, w.accepts-is)
          (decided_more c.args.sets.now (numbers c.args.precedences.now) c.loop-i.i c.loop-i.states.items _
          (outcome d _ w.in-Nothing.is) c.loop-i.invariant)
      | in-Wins w ↦
          rw (c.in_ok-push.ensures.items, w.accepts-is)
          (decided_more c.args.sets.now (numbers c.args.precedences.now) c.loop-i.i c.loop-i.states.items _
          (outcome d _ w.in-Wins.is) c.loop-i.invariant)
    ]
