use Rattle.std.proofs.Common.{subst}
use Rattle.lalrpop_lane.specs.Rounds.{CopyAnswer}
use Rattle.lalrpop_lane.proofs.RoundLemmas.{more_used, round_known, round_reduced}
use Rattle.lalrpop_lane.proofs.rounds.next_round.Goals as goal

pub reduce_before_carried-requires-clause-known : goal.reduce_before_carried-requires-clause-known
reduce_before_carried-requires-clause-known c =
    let g = c.args.grammar.now in
    let are = c.requires.states in
    let made = subst (CopyAnswer c.args.states.now c.args.left) c.in-Some.is c.in_ok-found.ensures in
    let more = more_used are.used c.args.left c.in-Some.now made.1 in
    round_known g c.requires.grammar c.args.start.now.0 are.used c.args.left more.0 c.in-Some.now c.args.states.now c.in-Some.copied.items
    are.reduced are.conflict made.0 made.2 more.1

pub returns-in_ok-reduced-in-Some : goal.returns-in_ok-reduced-in-Some
returns-in_ok-reduced-in-Some c =
    let g = c.args.grammar.now in
    let are = c.requires.states in
    let made = subst (CopyAnswer c.args.states.now c.args.left) c.in-Some.is c.in_ok-found.ensures in
    let before = c.in_ok-reduced-in-Some.ensures in (
      made.1,
      λ used more reduced counted.
          round_reduced g c.requires.grammar c.args.start.now.0 used c.args.left more c.in-Some.now c.args.states.now
          c.in-Some.copied.items reduced are.conflict made.0 made.2 counted c.in_ok-reduced-in-Some.reduced.items before,
    )
