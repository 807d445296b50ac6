use Rattle.std.proofs.Common.{arith, map, take}
use Rattle.lalrpop_lr1_interpret.proofs.RowLemmas.{go_on_both, map_more, numbers_on}
use Rattle.lalrpop_lr1_interpret.proofs.parse.numbering.number_terminals.Goals as goal

pub loop-entry-preserved : goal.loop-entry-preserved
loop-entry-preserved c = record {
  numbers =
      numbers_on c.loop-entry.names.keys c.number_terminal.new.names.keys
      (map (λ e. e.terminal.now) (take c.loop-entry.entry-index c.args.entries.now)) _ c.loop-entry.numbers.items
      c.push.new.self.items
      c.entry-item.result.terminal.now c.in_ok-number_terminal.field-0 c.in_ok-number_terminal.ensures.others
      c.loop-entry.invariant.numbers c.in_ok-number_terminal.ensures.number
      (map_more (λ e. e.terminal.now) c.args.entries.now c.loop-entry.entry-index c.entry-item.result (omega arith) c.entry-item.is)
      c.in_ok-push.ensures.items;
  others = go_on_both c.args.names.now.keys c.loop-entry.names.keys c.number_terminal.new.names.keys
      c.loop-entry.invariant.others c.in_ok-number_terminal.ensures.others;
}
