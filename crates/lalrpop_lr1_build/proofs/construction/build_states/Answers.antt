use Rattle.std.proofs.Common.{◌∙◌, ap, eq-eqb, length, sym}
use Rattle.std.specs.Prelude.{flat_map}
use Rattle.std.proofs.lemmas.Bool.{false≢true}
use Rattle.std.proofs.lemmas.List.{nil_from_length}
use Rattle.lalrpop_lr1_first.proofs.ListLemmas.{eqb_true}
use Rattle.lalrpop_lr1_build.proofs.construction.build_states.Goals as goal

pub returns-then-is_empty-clause-states : goal.returns-then-is_empty-clause-states
returns-then-is_empty-clause-states g c =
    let conflicts = c.in_ok-conflicts.conflicts in
    let listed = c.in_ok-conflicts.ensures ∙ ap (flat_map (g.L.Lookahead.conflicts_in c.args.grammar.now.terminals))
    c.as_slice.ensures.value in
    let none = eqb_true conflicts.len 0 (sym c.is_empty.ensures ∙ c.if-is_empty.true) in
    record {
      states_are = c.in_ok-states.ensures;
      none = sym listed ∙ nil_from_length conflicts.items (sym conflicts.ok.0 ∙ none);
    }

pub returns-clause-fault : goal.returns-clause-fault
returns-clause-fault g c =
    let conflicts = c.in_ok-conflicts.conflicts in
    let listed = c.in_ok-conflicts.ensures ∙ ap (flat_map (g.L.Lookahead.conflicts_in c.args.grammar.now.terminals))
    c.as_slice.ensures.value in
    record {
      states_are = c.in_ok-states.ensures;
      conflicts_are = listed;
      some = λ e. false≢true (sym c.if-is_empty.false ∙ c.is_empty.ensures
          ∙ eq-eqb conflicts.len 0 (conflicts.ok.0 ∙ ap length e));
    }
