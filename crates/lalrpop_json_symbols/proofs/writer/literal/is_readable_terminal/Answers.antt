use Rattle.lalrpop_json_symbols.proofs.TerminalLemmas.{of_bare, of_literal}
use Rattle.lalrpop_json_symbols.proofs.writer.literal.is_readable_terminal.Goals as goal

pub returns-in-Literal : goal.returns-in-Literal
returns-in-Literal c = of_literal _ _ c.in-Literal.is

pub returns-in-Bare : goal.returns-in-Bare
returns-in-Bare c = rw (c.is_name.ensures, c.as_str.ensures) (of_bare _ _ c.in-Bare.is)
