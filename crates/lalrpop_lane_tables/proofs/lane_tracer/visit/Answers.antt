use Rattle.lalrpop_lane_tables.proofs.NodeLemmas.{visit_extends}
use Rattle.lalrpop_lane_tables.proofs.lane_tracer.visit.Goals as goal

pub returns : goal.returns
returns c = visit_extends c.args.visited.now.keys c.insert.new.self.keys c.args.node c.in_ok-insert.ensures.keys
