use Rattle.std.proofs.Common.{◌∙◌, ◌<◌, ap, arith, length}
use Rattle.lalrpop_lr1_build.specs.PublicStates.{finished_entries}
use Rattle.lalrpop_lr1_build.specs.StateCores.{core_in_state}
use Rattle.lalrpop_lr1_build.proofs.RenumberedEdgeLemmas.{targets_at}
use Rattle.lalrpop_lr1_build.proofs.ListLemmas.{get_here, index_here}
use Rattle.lalrpop_lr1_first.proofs.TableLemmas.{long_map}
use Rattle.lalrpop_lr1_build.proofs.collapse.joined_states.join_state.Goals as goal

pub bounds-numbers-place : goal.bounds-numbers-place
bounds-numbers-place c =
    omega (arith, c.requires.place, c.requires.numbers.count, long_map core_in_state c.args.states.now)

pub offset_bounds-numbers-place : goal.offset_bounds-numbers-place
offset_bounds-numbers-place c =
    omega (arith, c.requires.place, c.requires.numbers.count, long_map core_in_state c.args.states.now)

pub renumber_edges-requires : goal.renumber_edges-requires
renumber_edges-requires c =
    let states = c.args.states.now in
    let first = c.index-states-place.result in
    (targets_at (length c.args.numbers.now) states c.args.place first c.requires.targets
    (get_here states c.args.place first c.requires.place c.index-states-place.is)).0

pub renumber_edges-requires-2 : goal.renumber_edges-requires-2
renumber_edges-requires-2 c =
    let states = c.args.states.now in
    let first = c.index-states-place.result in
    (targets_at (length c.args.numbers.now) states c.args.place first c.requires.targets
    (get_here states c.args.place first c.requires.place c.index-states-place.is)).1

pub returns : goal.returns
returns c =
    let states = c.args.states.now in
    let numbers = c.args.numbers.now in
    let place = c.args.place in
    let first = c.index-states-place.result in
    let within : place < length numbers =
    omega (arith, c.requires.place, c.requires.numbers.count, long_map core_in_state states) in
    record {
      first = first;
      at = get_here states place first c.requires.place c.index-states-place.is;
      index = index_here numbers place within;
      items = c.in_ok-vec.ensures;
      shifts = c.in_ok-shifts.ensures;
      gotos = c.in_ok-gotos.ensures;
      reductions = c.in_ok-reductions.ensures ∙ ap finished_entries c.as_slice.ensures;
    }
