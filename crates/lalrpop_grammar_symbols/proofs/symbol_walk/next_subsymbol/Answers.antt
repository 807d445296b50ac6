use Rattle.std.proofs.Common.{sym, ◌∙◌, arith}
use Rattle.lalrpop_grammar_symbols.proofs.SubsymbolLemmas.{empty-same, empty-room, first-comes, first-room, room-to_open}
use Rattle.lalrpop_grammar_symbols.proofs.symbol_walk.next_subsymbol.Goals as goal

pub open_list-requires-in-Some-split_first : goal.open_list-requires-in-Some-split_first
open_list-requires-in-Some-split_first c =
    let part = c.in-Some-split_first in
    let room = room-to_open c.loop-list.pending.items c.open_list.new.pending.items c.pop.new.self.items c.in-Some.list part.others
    part.first.now c.in-Some.ensures.items part.ensures.cases.0 c.open_list.ensures.items in
    omega (arith, room, c.loop-list.invariant.room, c.pop.ensures.capacity, c.open_list.ensures.room, c.open_list.new.pending.ok.0)

pub returns-in-Some-split_first-clause-room : goal.returns-in-Some-split_first-clause-room
returns-in-Some-split_first-clause-room c =
    let part = c.in-Some-split_first in
    let inner = c.open_list-in-Some-split_first in
    let less = first-room c.loop-list.pending.items c.open_list.new.pending.items inner.new.pending.items c.pop.new.self.items
    c.in-Some.list part.others c.inside.result part.first.now c.in-Some.ensures.items part.ensures.cases.0 c.open_list.ensures.items
    inner.ensures.items c.inside.ensures in
    omega (arith, less, c.loop-list.invariant.room, c.pop.ensures.capacity, c.open_list.ensures.room, inner.ensures.room)

pub returns-in-Some-split_first-clause-gives : goal.returns-in-Some-split_first-clause-gives
returns-in-Some-split_first-clause-gives c =
    let part = c.in-Some-split_first in
    let inner = c.open_list-in-Some-split_first in
    sym c.loop-list.invariant.same
    ∙ first-comes c.loop-list.pending.items c.open_list.new.pending.items inner.new.pending.items c.pop.new.self.items c.in-Some.list
    part.others c.inside.result part.first.now c.in-Some.ensures.items part.ensures.cases.0 c.open_list.ensures.items
    inner.ensures.items c.inside.ensures

pub loop-list-preserved : goal.loop-list-preserved
loop-list-preserved c =
    let none = c.in_default-split_first.ensures.cases in
    let less = empty-room c.loop-list.pending.items c.pop.new.self.items c.in-Some.list c.in-Some.ensures.items none in
    record {
      room = omega (arith, less, c.loop-list.invariant.room, c.pop.ensures.capacity);
      same = empty-same c.loop-list.pending.items c.pop.new.self.items c.in-Some.list c.in-Some.ensures.items none
          ∙ c.loop-list.invariant.same;
    }
