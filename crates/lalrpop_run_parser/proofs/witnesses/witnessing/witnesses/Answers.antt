use Rattle.lalrpop_run_parser.proofs.WitnessLemmas.{are_witnesses, its_trees}
use Rattle.lalrpop_run_parser.proofs.witnesses.witnessing.witnesses.Goals as goal

pub certificates-requires-clause-none_barren : goal.certificates-requires-clause-none_barren
certificates-requires-clause-none_barren c =
    its_trees c.args.prepared.now c.args.error.now c.expansion.result.now c.start_name-start.result.now c.as_slice-states.result.now
    c.expansion.ensures c.start_name-start.ensures c.as_slice-states.ensures.value c.known.ensures.parsed

pub returns : goal.returns
returns c =
    are_witnesses c.args.prepared.now c.args.error.now c.expansion.result.now c.start_name-start.result.now c.as_slice-states.result.now
    c.expansion.ensures c.start_name-start.ensures c.as_slice-states.ensures.value c.requires c.as_slice-conflicts.result.now
    c.as_slice-conflicts.ensures.value c.in_ok-all.all.items c.known.ensures.prepared c.in_ok-all.ensures.count
    c.in_ok-all.ensures.certificates
