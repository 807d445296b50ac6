use Rattle.std.proofs.Common.{◌≡◌}
use Rattle.std.specs.Vec.Iter.{into_iter_items}
use Rattle.lalrpop_norm_lower.specs.LoweredLists.{put_entries}
use Rattle.lalrpop_norm_lower.proofs.maps.put_all.Given as goal

abbrev pub invariant-loop-key : goal.invariant-loop-key
invariant-loop-key g l =
    put_entries g.K.Ord.cmp l.map (into_iter_items l.key-iterator) ≡ put_entries g.K.Ord.cmp l.initial.map l.fn.entries.items
