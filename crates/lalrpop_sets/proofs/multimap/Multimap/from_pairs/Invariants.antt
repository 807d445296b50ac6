use Rattle.std.proofs.Common.{◌≡◌, [], length}
use Rattle.std.specs.Vec.Iter.{into_iter_items, into_iter_len}
use Rattle.lalrpop_sets.specs.Collections.{PutsOnTo}
use Rattle.lalrpop_sets.proofs.multimap.Multimap.from_pairs.Given as goal

abbrev pub invariant-loop-key : goal.invariant-loop-key
invariant-loop-key g l = PutsOnTo g.K.Ord.cmp g.C.Collection.holds_nothing g.C.Collection.same g.C.Collection.pushes
    l.map (into_iter_items l.key-iterator) [] l.fn.pairs.items
    × (into_iter_len l.key-iterator ≡ length (into_iter_items l.key-iterator))
