use Rattle.std.proofs.Common.{◌<◌, ℕ, List, subst, sym}
use Rattle.lalrpop_lane_tables.specs.TableGains.{AddsTokens, EntersAt, NotesNothing, TableGains}
use Rattle.lalrpop_lane_tables.specs.TableViews.{TableView, noted_view, table_view}
use Rattle.lalrpop_lane_tables.proofs.AddLemmas.{IsNoRow, IsOneRow, JoinsRow, entry_gains, entry_keeps}
use Rattle.lalrpop_lane_tables.proofs.AscendingLemmas.{puts_ascend}
use Rattle.lalrpop_lane_tables.proofs.lane_tables.LaneTable.add_lookahead.Goals as goal

pub invariant_of-self-2 : goal.invariant_of-self-2
invariant_of-self-2 c = record {
  whole = entry_keeps c.self.inside.lookaheads c.push.new.self c.args.state c.args.conflict c.in_ok-copy.copy c.in_ok-push.field-0
      c.in_ok-push.ensures.puts c.self.inside.conflicts (noted_view c.self.inside.successors)
      (subst (λ (t : TableView). c.args.conflict.index < t.conflicts) (sym c.self.view_is) c.requires) c.self.invariant.whole;
  rows_ascend = puts_ascend IsNoRow IsOneRow JoinsRow c.self.inside.lookaheads c.push.new.self c.args.state
      (c.args.conflict, c.in_ok-copy.copy) c.in_ok-push.field-0 c.in_ok-push.ensures.puts c.self.invariant.rows_ascend;
  noted_ascend = c.self.invariant.noted_ascend;
}

pub returns-clause-gains : goal.returns-clause-gains
returns-clause-gains c =
    subst (λ (t : TableView). TableGains (AddsTokens c.args.state.0 c.args.tokens.now) (EntersAt c.args.state.0) NotesNothing
    c.args.conflict.index t (table_view c.self.inside.conflicts c.push.new.self c.self.inside.successors)) c.self.view_is
    (subst (λ (set : List ℕ). TableGains (AddsTokens c.args.state.0 set) (EntersAt c.args.state.0) NotesNothing c.args.conflict.index
    (table_view c.self.inside.conflicts c.self.inside.lookaheads c.self.inside.successors)
    (table_view c.self.inside.conflicts c.push.new.self c.self.inside.successors)) c.in_ok-copy.ensures
    (entry_gains c.self.inside.lookaheads c.push.new.self c.args.state c.args.conflict c.in_ok-copy.copy c.in_ok-push.field-0
    c.in_ok-push.ensures.puts c.self.inside.conflicts c.self.inside.successors))
