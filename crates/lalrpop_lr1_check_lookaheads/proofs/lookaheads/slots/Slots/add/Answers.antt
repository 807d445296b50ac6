use Rattle.std.proofs.Common.{◌∙◌, ◌||◌, ◌<◌, arith, ap, length, refl}
use Rattle.std.specs.Vec.{with_item}
use Rattle.std.proofs.lemmas.Option.{slice_get_within}
use Rattle.lalrpop_sets.specs.AscendingLists.{has}
use Rattle.lalrpop_lr1_first.proofs.ListLemmas.{at_read_set}
use Rattle.lalrpop_lr1_check_lookaheads.specs.LookaheadSlots.{slot_key, slot_keys, slot_sets, slot_table}
use Rattle.lalrpop_lr1_check_lookaheads.specs.declared.lookaheads.slots.Slots.{Slots}
use Rattle.lalrpop_lr1_check_lookaheads.proofs.KeyedSetLemmas.{gains_tokens}
use Rattle.lalrpop_lr1_check_lookaheads.proofs.lookaheads.slots.Slots.add.Goals as goal

pub index_mut-requires : goal.index_mut-requires
index_mut-requires c =
    omega (
      arith,
      c.in_ok-number.ensures.gained.are,
      slice_get_within (slot_keys c.number_of.new.self) c.in_ok-number.number (slot_key c.args.slot) c.in_ok-number.ensures.at,
    )

pub returns : goal.returns
returns c =
    let mid = c.number_of.new.self in
    let n = c.in_ok-number.number in
    let new : Slots = record {
      keys = c.number_of.new.self.keys;
      sets = with_item c.number_of.new.self.sets c.in_ok-number.number c.union_with.new.self;
    } in
    let within : n < length (slot_sets mid) = omega (
      arith,
      c.in_ok-number.ensures.gained.are,
      slice_get_within (slot_keys mid) n (slot_key c.args.slot) c.in_ok-number.ensures.at,
    ) in
    gains_tokens (slot_table c.args.self.now) (slot_table mid) (slot_table new) (slot_key c.args.slot) n c.union_with.new.self c.args.tokens.now
    c.in_ok-number.ensures.gained c.in_ok-number.ensures.at refl refl
    (λ k. c.in_ok-union_with.ensures.joined k
    ∙ ap (λ l. has l k || has c.args.tokens.now k)
    (at_read_set (slot_sets mid) n c.index_mut.result.now within c.index_mut.ensures.value))
