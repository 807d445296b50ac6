use Rattle.std.proofs.Common.{arith, map, take}
use Rattle.lalrpop_lr1_interpret.proofs.RowLemmas.{actions_on, go_on_both, map_more}
use Rattle.lalrpop_lr1_interpret.proofs.parse.numbering.number_acts.Goals as goal

pub loop-entry-preserved : goal.loop-entry-preserved
loop-entry-preserved c = record {
  actions =
      actions_on c.loop-entry.names.keys c.number_act.new.names.keys
      (map (λ e. e.act) (take c.loop-entry.entry-index c.args.entries.now)) _ c.loop-entry.actions.items c.push.new.self.items
      c.entry-item.result.act c.in_ok-number_act.field-0 c.in_ok-number_act.ensures.others c.loop-entry.invariant.actions
      c.in_ok-number_act.ensures.action
      (map_more (λ e. e.act) c.args.entries.now c.loop-entry.entry-index c.entry-item.result (omega arith) c.entry-item.is)
      c.in_ok-push.ensures.items;
  others = go_on_both c.args.names.now.keys c.loop-entry.names.keys c.number_act.new.names.keys c.loop-entry.invariant.others
      c.in_ok-number_act.ensures.others;
}
