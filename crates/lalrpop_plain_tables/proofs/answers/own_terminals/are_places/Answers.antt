use Rattle.std.proofs.Common.{rules, ◌≡◌, ℕ, Some, slice_get}
use Rattle.lalrpop_grammar_symbols.specs.declared.terminal.TerminalString.{TerminalString}
use Rattle.lalrpop_plain_tables.proofs.TerminalLemmas.{entries_tell, none_tells, rest_tells}
use Rattle.lalrpop_plain_tables.proofs.answers.own_terminals.are_places.Goals as goal

pub loop-terminal-preserved : goal.loop-terminal-preserved
loop-terminal-preserved c =
    rest_tells (λ (e : TerminalString × ℕ). slice_get c.args.terminals.now.all e.1 ≡ Some e.0)
    (c.in-Some.terminal.now, c.in-Some.number.now) c.loop-terminal.terminal-iterator c.next.new.self c.args.terminals.now.bits
    (search rules) (search rules) c.loop-terminal.invariant

pub returns : goal.returns
returns c =
    λ t. entries_tell c.args.terminals.now
    (none_tells (λ (e : TerminalString × ℕ). slice_get c.args.terminals.now.all e.1 ≡ Some e.0)
    c.loop-terminal.terminal-iterator c.args.terminals.now.bits c.in-None.ensures.steps.0 c.loop-terminal.invariant)
