use Rattle.std.specs.Vec.Iter.{into_iter_items}
use Rattle.lalrpop_lr1_inline.proofs.MapRuleLemmas.{names_total, put_on}
use Rattle.lalrpop_lr1_inline.proofs.rules.map_with.Goals as goal

pub loop-entry-preserved : goal.loop-entry-preserved
loop-entry-preserved c =
    put_on names_total c.args.rules.items c.loop-entry.map (into_iter_items c.loop-entry.entry-iterator)
    (into_iter_items c.next.new.self) c.insert.new.self c.in-Some.entry c.requires c.loop-entry.invariant c.in-Some.ensures.steps.0
    c.in_ok-insert.ensures.ok
