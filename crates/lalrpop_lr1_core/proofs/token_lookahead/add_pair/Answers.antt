use Rattle.std.proofs.Common.{◌∙◌}
use Rattle.lalrpop_lr1_core.proofs.ConflictLemmas.{no_pair, one_pair}
use Rattle.lalrpop_lr1_core.proofs.token_lookahead.add_pair.Goals as goal

pub returns-then-is_disjoint : goal.returns-then-is_disjoint
returns-then-is_disjoint c =
    no_pair c.args.state (c.args.reduction.now, c.args.later.now) c.args.conflicts.now.items
    (c.is_disjoint.ensures.yes c.if-is_disjoint.true)

pub returns : goal.returns
returns c =
    let shared = c.is_disjoint.ensures.no c.if-is_disjoint.false in
    c.in_ok-push.ensures.items
    ∙ one_pair c.args.state (c.args.reduction.now, c.args.later.now) c.args.conflicts.now.items c.in_ok-lookahead.lookahead shared.0
    c.in_ok-lookahead.ensures.ordered c.in_ok-lookahead.ensures.both shared.1 shared.2
