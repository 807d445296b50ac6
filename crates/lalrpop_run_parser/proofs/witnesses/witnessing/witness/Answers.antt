use Rattle.std.proofs.Common.{◌≡◌, ◌∙◌, ℕ, List, ap, drop, sym, take}
use Rattle.std.specs.Prelude.{slice_get}
use Rattle.lalrpop_lr1_core.specs.declared.conflict.Conflict.{Conflict}
use Rattle.lalrpop_run_parser.proofs.WitnessLemmas.{at_one, is_witness, its_trees, one_at, one_conflict, only_last}
use Rattle.lalrpop_run_parser.proofs.witnesses.witnessing.witness.Goals as goal

pub certificates-requires-clause-none_barren : goal.certificates-requires-clause-none_barren
certificates-requires-clause-none_barren c =
    its_trees c.args.prepared.now c.args.error.now c.expansion.result.now c.start_name-start.result.now c.as_slice-states.result.now
    c.expansion.ensures c.start_name-start.ensures c.as_slice-states.ensures.value c.known.ensures.parsed

pub certificates-requires-clause-told : goal.certificates-requires-clause-told
certificates-requires-clause-told c =
    let parts : c.split_at-2.result.0.now ≡ take 1 (drop c.args.number c.args.error.now.conflicts.items) =
    c.split_at-2.ensures.front ∙ ap (take 1) (c.split_at.ensures.back ∙ ap (drop c.args.number) c.as_slice.ensures.value) in
    one_conflict c.args.prepared.now c.args.error.now c.expansion.result.now c.start_name-start.result.now c.as_slice-states.result.now
    c.expansion.ensures c.start_name-start.ensures c.as_slice-states.ensures.value c.requires.conflicts c.told_conflicts_stand.ensures
    c.known.ensures.terminals c.split_at-2.result.0.now c.args.number
    (λ i conflict at. one_at c.args.error.now.conflicts.items c.args.number i conflict
    (ap (λ (l : List (Conflict (List ℕ))). slice_get l i) (sym parts) ∙ at))

pub returns : goal.returns
returns c =
    let parts : c.split_at-2.result.0.now ≡ take 1 (drop c.args.number c.args.error.now.conflicts.items) =
    c.split_at-2.ensures.front ∙ ap (take 1) (c.split_at.ensures.back ∙ ap (drop c.args.number) c.as_slice.ensures.value) in
    is_witness c.args.prepared.now c.args.error.now c.expansion.result.now c.start_name-start.result.now c.as_slice-states.result.now
    c.expansion.ensures c.start_name-start.ensures c.as_slice-states.ensures.value c.requires.conflicts c.split_at-2.result.0.now
    c.args.number c.in_ok-all.all.items c.in-Some.certificate c.known.ensures.prepared c.in_ok-all.ensures.certificates
    (λ conflict at. ap (λ (l : List (Conflict (List ℕ))). slice_get l 0) parts
    ∙ at_one c.args.error.now.conflicts.items c.args.number conflict at)
    (only_last c.in_ok-all.all.items c.pop.new.self.items c.in-Some.certificate c.in-Some.ensures.items
    (c.in_ok-all.ensures.count ∙ c.split_at-2.ensures.front_len))
