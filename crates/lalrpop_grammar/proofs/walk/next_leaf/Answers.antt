use Rattle.std.proofs.Common.{sym, ◌∙◌, arith}
use Rattle.lalrpop_grammar.proofs.WalkLemmas.{empty-same, empty-room, empty-fewer, leaf-first, leaf-room, more-room, inner-same, inner-room}
use Rattle.lalrpop_grammar.proofs.WalkLemmas.{inner-fewer}
use Rattle.lalrpop_grammar.proofs.walk.next_leaf.Goals as goal

pub returns-in-Some-as_leaf-clause-room : goal.returns-in-Some-as_leaf-clause-room
returns-in-Some-as_leaf-clause-room c =
    let part = c.in-Some-split_first in
    let less = leaf-room c.loop-list.pending.items c.open_list.new.pending.items c.pop.new.self.items c.in-Some.list part.others
    part.first.now c.in-Some.ensures.items part.ensures.cases.0 c.open_list.ensures.items in
    omega (arith, less, c.loop-list.invariant.room, c.pop.ensures.capacity, c.open_list.ensures.room)

pub returns-in-Some-as_leaf-clause-gives : goal.returns-in-Some-as_leaf-clause-gives
returns-in-Some-as_leaf-clause-gives c =
    let part = c.in-Some-split_first in
    sym c.loop-list.invariant.same
    ∙ leaf-first c.loop-list.pending.items c.open_list.new.pending.items c.pop.new.self.items c.in-Some.list part.others part.first.now
    c.in-Some.ensures.items part.ensures.cases.0 c.open_list.ensures.items _ (sym c.in-Some-as_leaf.ensures)

pub open_list-requires-in-Some-split_first : goal.open_list-requires-in-Some-split_first
open_list-requires-in-Some-split_first c =
    let part = c.in-Some-split_first in
    let room = more-room c.loop-list.pending.items c.open_list.new.pending.items c.pop.new.self.items c.in-Some.list part.others
    part.first.now c.in-Some.ensures.items part.ensures.cases.0 c.open_list.ensures.items in
    omega (arith, room, c.loop-list.invariant.room, c.pop.ensures.capacity, c.open_list.ensures.room, c.open_list.new.pending.ok.0)

pub loop-list-preserved-in-Some-split_first : goal.loop-list-preserved-in-Some-split_first
loop-list-preserved-in-Some-split_first c =
    let part = c.in-Some-split_first in
    let less = inner-room c.loop-list.pending.items c.open_list.new.pending.items c.pop.new.self.items c.in-Some.list part.others
    part.first.now c.in-Some.ensures.items part.ensures.cases.0 c.open_list.ensures.items
    c.open_list-in-Some-split_first.new.pending.items c.children.result c.open_list-in-Some-split_first.ensures.items
    c.children.ensures in
    record {
      room = omega (
        arith,
        less,
        c.loop-list.invariant.room,
        c.pop.ensures.capacity,
        c.open_list.ensures.room,
        c.open_list-in-Some-split_first.ensures.room,
      );
      same = inner-same c.loop-list.pending.items c.open_list.new.pending.items c.pop.new.self.items c.in-Some.list part.others
          part.first.now c.in-Some.ensures.items part.ensures.cases.0 c.open_list.ensures.items
          c.open_list-in-Some-split_first.new.pending.items c.children.result c.open_list-in-Some-split_first.ensures.items
          c.children.ensures (sym c.in_default-as_leaf.ensures) ∙ c.loop-list.invariant.same;
    }

pub loop-list-smaller-in-Some-split_first : goal.loop-list-smaller-in-Some-split_first
loop-list-smaller-in-Some-split_first c =
    let part = c.in-Some-split_first in
    inner-fewer c.loop-list.pending.items c.open_list.new.pending.items c.pop.new.self.items c.in-Some.list part.others part.first.now
    c.in-Some.ensures.items part.ensures.cases.0 c.open_list.ensures.items c.open_list-in-Some-split_first.new.pending.items
    c.children.result c.open_list-in-Some-split_first.ensures.items c.children.ensures

pub loop-list-preserved : goal.loop-list-preserved
loop-list-preserved c =
    let empty = c.in_default-split_first.ensures.cases in
    let less = empty-room c.loop-list.pending.items c.pop.new.self.items c.in-Some.list c.in-Some.ensures.items empty in
    record {
      room = omega (arith, less, c.loop-list.invariant.room, c.pop.ensures.capacity);
      same = empty-same c.loop-list.pending.items c.pop.new.self.items c.in-Some.list c.in-Some.ensures.items empty
          ∙ c.loop-list.invariant.same;
    }

pub loop-list-smaller : goal.loop-list-smaller
loop-list-smaller c =
    empty-fewer c.loop-list.pending.items c.pop.new.self.items c.in-Some.list c.in-Some.ensures.items c.in_default-split_first.ensures.cases
