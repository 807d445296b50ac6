use Rattle.std.proofs.Common.{◌≡◌, ◌∙◌, ◌++◌, ap, arith, length, map, sym, take, ◌+◌}
use Rattle.std.proofs.Common.{length-append, ◌<◌, ◌∷◌, []}
use Rattle.std.specs.Prelude.{flat_map}
use Rattle.lalrpop_lr1_interpret.specs.Rows.{end_productions, entry_view, goto_entries, goto_entry_view, row_at, row_between, terminal_entries}
use Rattle.lalrpop_lr1_interpret.proofs.RowLemmas.{flat_more, row_is, rows_more}
use Rattle.lalrpop_lr1_interpret.proofs.parse.entries.entries_of.Goals as goal

pub loop-state-preserved : goal.loop-state-preserved
loop-state-preserved c =
    let ts = c.args.terminals.now in
    let states = c.args.states.now in
    let i = c.loop-state.state-index in
    let old = c.loop-state.entries in
    let new = c.add_state.new.self in
    let inv = c.loop-state.invariant in
    let here : i < length states = omega arith in
    let is = c.in_ok-add_state.ensures in
    let t : map entry_view new.terminals.items ≡ flat_map (terminal_entries ts) (take (i + 1) states) =
    is.terminals ∙ ap (λ l. l ++ terminal_entries ts c.state-item.result) inv.terminals
    ∙ sym (flat_more (terminal_entries ts) states i c.state-item.result here c.state-item.is) in
    let e : new.ends.items ≡ flat_map (end_productions ts) (take (i + 1) states) =
    is.ends ∙ ap (λ l. l ++ end_productions ts c.state-item.result) inv.ends
    ∙ sym (flat_more (end_productions ts) states i c.state-item.result here c.state-item.is) in
    let g : map goto_entry_view new.gotos.items ≡ flat_map goto_entries (take (i + 1) states) =
    is.gotos ∙ ap (λ l. l ++ goto_entries c.state-item.result) inv.gotos
    ∙ sym (flat_more goto_entries states i c.state-item.result here c.state-item.is) in
    record {
      terminals = t;
      ends = e;
      gotos = g;
      rows = rows_more ts states old.rows.items new.rows.items (row_between old new) inv.rows is.row
          (row_is ts states old new i inv.terminals t inv.ends e inv.gotos g ∙ ap (row_at ts states) (sym inv.count));
      count = ap length is.row ∙ omega (arith, length-append old.rows.items (row_between old new ∷ []), inv.count);
    }
