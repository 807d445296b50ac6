use Rattle.std.proofs.Common.{◌<◌, ℕ, Contains, refl, subst, sym}
use Rattle.lalrpop_lr1_first.specs.FirstNumbers.{name_count, symbol_count}
use Rattle.lalrpop_lr1_first.specs.NumberedGrammars.{table_names}
use Rattle.lalrpop_lr1_build.specs.PublicStates.{AreGotos, AreShifts}
use Rattle.lalrpop_lr1_build.proofs.public_states.state_at.Goals as goal

pub maps_of-requires-clause-known : goal.maps_of-requires-clause-known
maps_of-requires-clause-known g c =
    subst (λ es. (s m : ℕ) → Contains es (s, m) → s < symbol_count c.args.table.now) (sym c.as_slice.ensures) c.requires.state.known

pub returns : goal.returns
returns g c =
    let table = c.args.table.now in
    record {
      index = refl;
      vec = c.in_ok-vec.ensures.items;
      shifts = subst (λ es. AreShifts (name_count table) table.terminals.now.all es c.in_ok-shifts.shifts) c.as_slice.ensures
          c.in_ok-shifts.ensures.shifts;
      gotos = subst (λ es. AreGotos (table_names table) es c.in_ok-shifts.gotos) c.as_slice.ensures c.in_ok-shifts.ensures.gotos;
      reductions = c.in_ok-vec.ensures.reductions;
    }
