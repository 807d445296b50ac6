use Rattle.lalrpop_lr1_check_lookaheads.specs.Listings.{listing_keys}
use Rattle.lalrpop_lr1_check_lookaheads.proofs.ReductionLemmas.{finished_seen, seen_finished}
use Rattle.lalrpop_lr1_check_lookaheads.proofs.parts.listing.StateListing.reduces_finished.Goals as goal

pub returns : goal.returns
returns c = λ look.
    let own = c.args.self.now in (
      λ e. finished_seen look own.states.now (listing_keys own) c.requires.items (c.states_reduce_finished.ensures.0 e),
      λ h. c.states_reduce_finished.ensures.1 (seen_finished look own.states.now (listing_keys own) c.requires.items h),
    )
