use Rattle.std.proofs.Common.{◌∙◌, Global, Vec, ap, subst, sym}
use Rattle.std.proofs.lemmas.Result.{IfOk-weaker}
use Rattle.lalrpop_lr1_core.specs.declared.state.State.{State}
use Rattle.lalrpop_lr1_first.specs.NumberedGrammars.{table_productions}
use Rattle.lalrpop_lr1_first.specs.declared.numbered.Numbered.{Numbered}
use Rattle.lalrpop_lr1_build.specs.Nexts.{IsNextIn}
use Rattle.lalrpop_lr1_build.specs.BuiltStates.{AreBuiltStates}
use Rattle.lalrpop_lr1_build.specs.PublicStates.{ArePublicStates, IsWellNumbered, start_items}
use Rattle.lalrpop_lr1_build.proofs.BuiltLemmas.{built_states, start_is_kernel, well_numbered}
use Rattle.lalrpop_lr1_build.proofs.construction.states_by_closures.Goals as goal

pub states_by_numbers-requires-clause-start : goal.states_by_numbers-requires-clause-start
states_by_numbers-requires-clause-start g c =
    let marks = g.L.ClosureLookahead.marks in
    let firsts = g.L.ClosureLookahead.firsts in
    let in_order = g.L.KernelLookahead.in_order in
    let grammar = c.args.grammar.now in
    let kernel_is = c.in_ok-kernel.ensures
    ∙ ap (λ (t : Numbered). start_items c.args.start.now c.args.lookahead.now (table_productions t) t.rules.items) c.table-table.ensures in
    start_is_kernel marks firsts in_order grammar c.args.start.now c.args.lookahead.now c.args.closures.now c.requires.closures
    c.requires.ordered c.requires.tokens c.in_ok-kernel.kernel kernel_is

pub states_at-requires-clause-states : goal.states_at-requires-clause-states
states_at-requires-clause-states g c = λ n state e.
    subst (λ (t : Numbered). IsWellNumbered t state) (sym c.table-table.ensures)
    (well_numbered g.L.ClosureLookahead.marks g.L.ClosureLookahead.firsts g.L.KernelLookahead.in_order
    c.args.closures.now.numbered c.requires.closures.closure.numbers c.in_ok-kernel.kernel c.in_ok-numbered.numbered.items
    c.in_ok-numbered.ensures n state e)

pub returns : goal.returns
returns g c =
    let marks = g.L.ClosureLookahead.marks in
    let firsts = g.L.ClosureLookahead.firsts in
    let in_order = g.L.KernelLookahead.in_order in
    let grammar = c.args.grammar.now in
    let numbered = c.in_ok-numbered.numbered.items in
    let kernel_is = c.in_ok-kernel.ensures
    ∙ ap (λ (t : Numbered). start_items c.args.start.now c.args.lookahead.now (table_productions t) t.rules.items) c.table-table.ensures in
    IfOk-weaker c.states_at.result
    (λ (states : Vec (State g.row.L.Denot) Global). ArePublicStates c.table-table.result.now numbered states.items)
    (λ (states : Vec (State g.row.L.Denot) Global). AreBuiltStates marks (g.L.Lookahead.look grammar.terminals) firsts
    (IsNextIn grammar.terminals (marks c.args.lookahead.now)) grammar c.args.start.now states.items)
    (λ states h. built_states marks firsts in_order grammar c.args.start.now c.args.lookahead.now c.args.closures.now c.requires.closures
    c.requires.ordered c.requires.tokens c.in_ok-kernel.kernel kernel_is g.L.Lookahead.look g.met.L.KernelLookahead.one
    g.met.L.KernelLookahead.nexts_are g.met.L.KernelLookahead.error_is (IsNextIn grammar.terminals (marks c.args.lookahead.now))
    (λ x. (λ h. h, λ h. h)) numbered c.in_ok-numbered.ensures states.items
    (subst (λ (t : Numbered). ArePublicStates t numbered states.items) c.table-table.ensures h)) c.states_at.ensures
