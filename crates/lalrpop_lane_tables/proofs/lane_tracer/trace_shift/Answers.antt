use Rattle.std.proofs.Common.{◌≡◌, ◌∙◌, ap, List, subst, ℕ}
use Rattle.std.proofs.lemmas.Result.{on_ok_weaker}
use Rattle.lalrpop_grammar_symbols.specs.declared.terminal.TerminalString.{TerminalString}
use Rattle.lalrpop_grammar_repr.specs.Maps.{at_terminal}
use Rattle.lalrpop_sets.specs.Tokens.{number_alone}
use Rattle.lalrpop_lane_tables.specs.TableGains.{AddsTokens, EntersAt, NotesNothing, TableGains}
use Rattle.lalrpop_lane_tables.proofs.TracingLemmas.{shift_traces}
use Rattle.lalrpop_lane_tables.proofs.lane_tracer.trace_shift.Goals as goal

pub returns : goal.returns
returns g c =
    let grammar = c.args.ground.now.grammar.now in
    let set : c.in_ok-set.set ≡ number_alone (at_terminal c.args.terminal.now grammar.terminals.bits) =
    c.in_ok-set.ensures
    ∙ ap (λ (t : TerminalString). number_alone (at_terminal t grammar.terminals.bits)) c.in_ok-try_clone.ensures in
    on_ok_weaker c.add_lookahead.result
    (λ gains. λ look.
    shift_traces look grammar c.args.ground.now.start.0 c.args.ground.now.states.now c.args.state.0 c.args.terminal.now c.args.conflict.index
    c.args.table.now c.add_lookahead.new.self c.requires.ground.firsts_of.numbered
    (subst (λ (tokens : List ℕ). TableGains (AddsTokens c.args.state.0 tokens) (EntersAt c.args.state.0) NotesNothing c.args.conflict.index
    c.args.table.now c.add_lookahead.new.self) set gains)) c.add_lookahead.ensures.gains
