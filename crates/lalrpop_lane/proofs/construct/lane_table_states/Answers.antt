use Rattle.std.proofs.Common.{◌≡◌, ◌∙◌, ap, false, sym, true}
use Rattle.std.specs.Prelude.{flat_map}
use Rattle.lalrpop_lr1_core.specs.Conflicts.{token_conflicts}
use Rattle.lalrpop_lane.proofs.ConflictListLemmas.{none_listed}
use Rattle.lalrpop_lane.proofs.construct.lane_table_states.Goals as goal

pub returns-then-none-clause-states : goal.returns-then-none-clause-states
returns-then-none-clause-states c =
    let last = c.in_ok-states.ensures in record { reduced = last.reduced; no_conflict = last.tells.0 c.if-none.true }

pub returns-clause-fault : goal.returns-clause-fault
returns-clause-fault c =
    let g = c.args.grammar.now in
    let last = c.in_ok-states.ensures in
    let listed = c.in_ok-conflicts.ensures ∙ ap (flat_map (token_conflicts g.terminals)) c.as_slice.ensures.value in
    record {
      reduced = last.reduced;
      conflicts_are = listed;
      some = λ e.
          let free = none_listed g.terminals c.in_ok-states.states.items c.requires.numbered.numbered (sym listed ∙ e) in
          let both : true ≡ false = sym (last.tells.1 free) ∙ c.if-none.false in
          let w : ⊥ = cc in w;
    }
