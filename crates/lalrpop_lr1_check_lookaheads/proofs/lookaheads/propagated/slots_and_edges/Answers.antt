use Rattle.lalrpop_lr1_check_lookaheads.proofs.lookaheads.propagated.slots_and_edges.Goals as goal

pub returns : goal.returns
returns c = (c.in_ok-slots.slots, c.in_ok-slots.ensures, c.in_ok-edges.ensures)
