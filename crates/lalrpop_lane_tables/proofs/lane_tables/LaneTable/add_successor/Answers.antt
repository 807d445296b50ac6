use Rattle.std.proofs.Common.{subst}
use Rattle.lalrpop_lane_tables.specs.TableGains.{AddsNothing, EntersNowhere, NotesOne, TableGains}
use Rattle.lalrpop_lane_tables.specs.TableViews.{TableView, rows_view, table_view}
use Rattle.lalrpop_lane_tables.proofs.AddLemmas.{AreOneSet, IsNoState, JoinsState, edge_gains, edge_keeps}
use Rattle.lalrpop_lane_tables.proofs.AscendingLemmas.{puts_ascend}
use Rattle.lalrpop_lane_tables.proofs.lane_tables.LaneTable.add_successor.Goals as goal

pub invariant_of-self-2 : goal.invariant_of-self-2
invariant_of-self-2 c = record {
  whole = edge_keeps c.self.inside.successors c.push.new.self c.args.state c.args.succ c.in_ok-push.field-0 c.in_ok-push.ensures.puts
      c.self.inside.conflicts (rows_view c.self.inside.lookaheads) c.self.invariant.whole;
  rows_ascend = c.self.invariant.rows_ascend;
  noted_ascend = puts_ascend IsNoState AreOneSet JoinsState c.self.inside.successors c.push.new.self c.args.state c.args.succ
      c.in_ok-push.field-0 c.in_ok-push.ensures.puts c.self.invariant.noted_ascend;
}

pub returns-clause-gains : goal.returns-clause-gains
returns-clause-gains c = λ d.
    subst (λ (t : TableView). TableGains AddsNothing EntersNowhere (NotesOne c.args.state.0 c.args.succ.0) d t
    (table_view c.self.inside.conflicts c.self.inside.lookaheads c.push.new.self)) c.self.view_is
    (edge_gains c.self.inside.successors c.push.new.self c.args.state c.args.succ c.in_ok-push.field-0 c.in_ok-push.ensures.puts
    c.self.inside.conflicts c.self.inside.lookaheads d)
