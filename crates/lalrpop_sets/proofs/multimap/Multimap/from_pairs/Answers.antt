use Rattle.std.proofs.Common.{rules, [], ◌∙◌, sym, ap, length, arith}
use Rattle.std.specs.Vec.Iter.{into_iter_items}
use Rattle.lalrpop_sets.proofs.EntryLemmas.{leads_start, leads_step, leads_end, nil_of}
use Rattle.lalrpop_sets.proofs.multimap.Multimap.from_pairs.Goals as goal

pub loop-key-init : goal.loop-key-init
loop-key-init g c = (
  leads_start g.K.Ord.cmp g.C.Collection.holds_nothing g.C.Collection.same g.C.Collection.pushes
      _ [] _ c.args.pairs.items (search rules) (search rules),
  search rules,
)

pub loop-key-preserved : goal.loop-key-preserved
loop-key-preserved g c = (
  leads_step g.K.Ord.cmp g.C.Collection.holds_nothing g.C.Collection.same g.C.Collection.pushes
      c.loop-key.map c.push.new.self [] (into_iter_items c.loop-key.key-iterator) _ c.args.pairs.items (c.in-Some.key, c.in-Some.item)
      c.in_ok-push.field-0 c.loop-key.invariant.0 (search rules) c.in_ok-push.ensures.puts,
  (let more = ap length c.in-Some.ensures.steps.0 in omega (arith, more, c.in-Some.ensures.steps.1, c.loop-key.invariant.1)),
)

pub returns : goal.returns
returns g c = leads_end g.K.Ord.cmp g.C.Collection.holds_nothing g.C.Collection.same g.C.Collection.pushes
    c.loop-key.map [] (into_iter_items c.loop-key.key-iterator) c.args.pairs.items c.loop-key.invariant.0
    (nil_of (into_iter_items c.loop-key.key-iterator) (sym c.loop-key.invariant.1 ∙ c.in-None.ensures.steps.0))
