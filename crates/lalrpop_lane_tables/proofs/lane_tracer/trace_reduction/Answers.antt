use Rattle.std.proofs.Common.{List, ℕ, subst}
use Rattle.std.proofs.lemmas.Result.{on_ok_weaker}
use Rattle.lalrpop_lane_tables.specs.TableGains.{AddsTokens, EntersAt, NotesNothing, TableGains}
use Rattle.lalrpop_lane_tables.proofs.lane_tracer.trace_reduction.Goals as goal

pub returns : goal.returns
returns g c =
    on_ok_weaker c.visit_lane.result
    (λ traced. λ look.
    traced look c.args.table.now
    (subst (λ (tokens : List ℕ). TableGains (AddsTokens c.args.state.0 tokens) (EntersAt c.args.state.0) NotesNothing c.args.conflict.index
    c.args.table.now c.add_lookahead.new.self) c.empty.ensures c.in_ok-add_lookahead.ensures.gains)) c.visit_lane.ensures
