use Rattle.lalrpop_lr1_check_lookaheads.specs.Listings.{listing_keys}
use Rattle.lalrpop_lr1_check_lookaheads.proofs.MoveLemmas.{held_seen, seen_held}
use Rattle.lalrpop_lr1_check_lookaheads.proofs.parts.listing.StateListing.has_item.Goals as goal

pub returns : goal.returns
returns c = λ look.
    let own = c.args.self.now in
    let n = c.args.state in
    let p = c.args.production.now in
    let i = c.args.dot in (
      λ e. held_seen look own.states.now (listing_keys own) c.requires.items n p i (c.has_item.ensures.0 e),
      λ h. c.has_item.ensures.1 (seen_held look own.states.now (listing_keys own) c.requires.items n p i h),
    )
