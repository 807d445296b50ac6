use Rattle.std.proofs.Common.{sym}
use Rattle.lalrpop_lane_tables.proofs.MergeClassLemmas.{key_below}
use Rattle.lalrpop_lane_tables.proofs.merge_classes.fits.Goals as goal

pub probe_value-requires : goal.probe_value-requires
probe_value-requires c = key_below c.args.sets.now c.args.unify.now c.args.state c.in-Some.key c.requires (sym c.in-Some.ensures)
