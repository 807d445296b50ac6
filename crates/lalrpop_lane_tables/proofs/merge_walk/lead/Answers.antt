use Rattle.lalrpop_lane_tables.proofs.CopiedLemmas.{copying_same, lead_keeps}
use Rattle.lalrpop_lane_tables.proofs.merge_walk.lead.Goals as goal

pub returns-in_ok-lead_to_copy-clause-kept : goal.returns-in_ok-lead_to_copy-clause-kept
returns-in_ok-lead_to_copy-clause-kept c =
    lead_keeps c.args.state c.args.place c.args.copying.now c.args.states.now c.lead_to_copy.new.self c.lead_to_copy.new.states
    c.in_ok-lead_to_copy.ensures

pub returns-else-state-states-clause-kept : goal.returns-else-state-states-clause-kept
returns-else-state-states-clause-kept c = copying_same c.args.copying.now c.args.states.now
