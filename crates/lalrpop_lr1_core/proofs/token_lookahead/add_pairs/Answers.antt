use Rattle.std.proofs.Common.{◌+◌, ◌++◌, ◌∙◌, ap, arith, drop}
use Rattle.std.specs.Prelude.{flat_map}
use Rattle.lalrpop_lr1_core.specs.Conflicts.{pair_conflict, pairs_conflicts}
use Rattle.lalrpop_lr1_core.proofs.ConflictLemmas.{pairs_go_on}
use Rattle.lalrpop_lr1_core.proofs.ListLemmas.{left_is}
use Rattle.lalrpop_lr1_core.proofs.token_lookahead.add_pairs.Goals as goal

pub loop-place-preserved : goal.loop-place-preserved
loop-place-preserved c =
    let entries = c.args.reductions.now in
    let place = c.loop-place.place in
    let entry = c.index-reductions-place.result in
    pairs_go_on c.args.state c.loop-place.conflicts.items c.add_later.new.conflicts.items
    (c.args.conflicts.now.items ++ pairs_conflicts c.args.state entries) (drop place entries) (drop (place + 1) entries) entry
    (left_is entries place entry (omega arith) c.index-reductions-place.is)
    (c.in_ok-add_later.ensures
    ∙ ap (λ l. c.loop-place.conflicts.items ++ flat_map (λ s. pair_conflict c.args.state (entry, s)) l) c.split_at.ensures.back)
    c.loop-place.invariant
