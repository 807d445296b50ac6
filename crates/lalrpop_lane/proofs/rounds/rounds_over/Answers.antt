use Rattle.std.proofs.Common.{◌≡◌, ◌∙◌, List, Some, arith, false, subst, sym, true, ℕ}
use Rattle.lalrpop_lr1_core.specs.declared.state.State.{State}
use Rattle.lalrpop_lr1_check_lookaheads.specs.Reductions.{OverTokens}
use Rattle.lalrpop_lane.specs.Rounds.{AreConflicting, RoundAnswer, TellsNoConflict}
use Rattle.lalrpop_lane.proofs.RoundLemmas.{rounds_on, rounds_within}
use Rattle.lalrpop_lane.proofs.rounds.rounds_over.Goals as goal

pub rounds-init : goal.rounds-init
rounds-init c =
    let g = c.args.grammar.now in
    let reduced = c.in_ok-states.ensures in
    record {
      reduced = record { used = 0; counted = omega arith; reduced = reduced };
      tells = subst (λ (l : List (State (List ℕ))). OverTokens g.terminals l → TellsNoConflict g l c.in_ok-none.none)
          c.as_slice.ensures.value (c.in_ok-none.ensures c.requires.grammar.numbered.numbered c.requires.grammar.numbered.places) reduced.tokens;
    }

pub next_round-requires-clause-states : goal.next_round-requires-clause-states
next_round-requires-clause-states c =
    let own = c.rounds.invariant in
    subst (AreConflicting c.args.grammar.now c.args.start.now.0) (sym c.as_slice-in-rounds.ensures.value) (record {
      used = own.reduced.used;
      reduced = own.reduced.reduced;
      conflict = λ h. let both : true ≡ false = sym (own.tells.1 h) ∙ c.rounds-test.true in let w : ⊥ = cc in w;
    })

pub rounds-preserved : goal.rounds-preserved
rounds-preserved c =
    let g = c.args.grammar.now in
    let s = c.args.start.now.0 in
    let old = c.rounds.states.items in
    let new = c.in-Some.reduced.items in
    let answer = subst (RoundAnswer g s c.as_slice-in-rounds.result.now c.rounds.left) c.in-Some.is c.in_ok-round.ensures in
    let made = subst (λ (l : List (State (List ℕ))). RoundAnswer g s l c.rounds.left (Some (c.in-Some.reduced, c.in-Some.now)))
    c.as_slice-in-rounds.ensures.value answer in
    let reduced = rounds_on g s c.args.copies c.rounds.left c.in-Some.now old new c.rounds.invariant.reduced made.0 made.1 in
    record {
      reduced = reduced;
      tells = subst (λ (l : List (State (List ℕ))). OverTokens g.terminals l → TellsNoConflict g l c.in_ok-none-2.none)
          c.as_slice-in-rounds-2.ensures.value
          (c.in_ok-none-2.ensures c.requires.grammar.numbered.numbered c.requires.grammar.numbered.places) reduced.reduced.tokens;
    }

pub rounds-smaller : goal.rounds-smaller
rounds-smaller c =
    (subst (RoundAnswer c.args.grammar.now c.args.start.now.0 c.as_slice-in-rounds.result.now c.rounds.left) c.in-Some.is
    c.in_ok-round.ensures).0

pub returns-in_default : goal.returns-in_default
returns-in_default c =
    record {
      reduced = rounds_within c.args.grammar.now c.args.start.now.0 c.args.copies c.rounds.left c.rounds.states.items
          c.rounds.invariant.reduced;
      tells = c.rounds.invariant.tells;
    }

pub returns : goal.returns
returns c =
    record {
      reduced = rounds_within c.args.grammar.now c.args.start.now.0 c.args.copies c.rounds.left c.rounds.states.items
          c.rounds.invariant.reduced;
      tells = c.rounds.invariant.tells;
    }
