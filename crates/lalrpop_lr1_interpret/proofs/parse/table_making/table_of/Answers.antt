use Rattle.std.proofs.Common.{◌∙◌, ap, map, subst}
use Rattle.std.specs.Prelude.{flat_map}
use Rattle.lalrpop_lr1_interpret.specs.Rows.{AreActionsOf, AreNumberedProductions, AreNumbersOf, goto_entries}
use Rattle.lalrpop_lr1_interpret.specs.Rows.{terminal_entries}
use Rattle.lalrpop_lr1_interpret.proofs.RowLemmas.{entry_acts, entry_names, goto_names, goto_targets}
use Rattle.lalrpop_lr1_interpret.proofs.parse.table_making.table_of.Goals as goal

pub returns : goal.returns
returns c =
    let ts = c.args.terminals.now in
    let states = c.args.states.now in
    let E = flat_map (terminal_entries ts) states in
    let G = flat_map goto_entries states in
    let is = c.in_ok-rows.ensures in
    let t = c.in_ok-terminals.field-0 in
    let n = c.in_ok-nonterminals.field-0 in
    record {
      rows = is.rows;
      count = is.count;
      keys = subst (λ l. AreNumbersOf t.terminals.keys l t.keys.items)
          (ap (map (λ e. e.terminal.now)) c.as_slice.ensures.value ∙ entry_names c.in_ok-rows.field-0.terminals.items E is.terminals)
          c.in_ok-terminals.ensures.keys;
      actions = subst (λ l. AreActionsOf n.nonterminals.keys l n.actions.items)
          (ap (map (λ e. e.act)) c.as_slice-2.ensures.value ∙ entry_acts c.in_ok-rows.field-0.terminals.items E is.terminals)
          c.in_ok-nonterminals.ensures.actions;
      ends = subst (λ l. AreNumberedProductions n.nonterminals.keys l n.ends.items) (c.as_slice-3.ensures.value ∙ is.ends)
          c.in_ok-nonterminals.ensures.ends;
      goto_keys = subst (λ l. AreNumbersOf n.nonterminals.keys l n.goto_keys.items)
          (ap (map (λ e. e.nonterminal.now)) c.as_slice-4.ensures.value ∙ goto_names c.in_ok-rows.field-0.gotos.items G is.gotos)
          c.in_ok-nonterminals.ensures.goto_keys;
      targets = c.in_ok-nonterminals.ensures.targets ∙ ap (map (λ e. e.target)) c.as_slice-4.ensures.value
          ∙ goto_targets c.in_ok-rows.field-0.gotos.items G is.gotos;
      one_terminal = c.in_ok-terminals.ensures.one;
      one_nonterminal = c.in_ok-nonterminals.ensures.one;
    }
