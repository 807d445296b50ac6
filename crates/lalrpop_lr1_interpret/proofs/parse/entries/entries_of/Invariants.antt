use Rattle.std.proofs.Common.{◌≡◌, length, map, take}
use Rattle.std.specs.Prelude.{flat_map}
use Rattle.lalrpop_lr1_interpret.specs.Rows.{AreRowsOf, end_productions, entry_view, goto_entries, goto_entry_view, terminal_entries}
use Rattle.lalrpop_lr1_interpret.proofs.parse.entries.entries_of.Given as goal

abbrev pub invariant-loop-state : goal.invariant-loop-state
invariant-loop-state l = record {
  terminals : map entry_view l.entries.terminals.items ≡ flat_map (terminal_entries l.terminals) (take l.state-index l.states);
  ends : l.entries.ends.items ≡ flat_map (end_productions l.terminals) (take l.state-index l.states);
  gotos : map goto_entry_view l.entries.gotos.items ≡ flat_map goto_entries (take l.state-index l.states);
  rows : AreRowsOf l.terminals l.states l.entries.rows.items;
  count : length l.entries.rows.items ≡ l.state-index;
}
