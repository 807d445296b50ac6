use Rattle.lalrpop_lr1_check_lookaheads.proofs.parts.listing.StateListing.new.Goals as goal

pub returns-clause-listing : goal.returns-clause-listing
returns-clause-listing c = record {
  items = c.in_ok-listed.ensures;
  kernels = c.in_ok-kernels.ensures.kernels;
  count = c.in_ok-kernels.ensures.count;
  edges = c.in_ok-edges.ensures.edges;
  ordered = c.in_ok-edges.ensures.ordered;
}
