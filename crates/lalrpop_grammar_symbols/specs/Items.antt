-- What the small questions about terminals answer.
use Rattle.std.specs.Prelude.{ℕ, Option, Some, None}
use Rattle.lalrpop_grammar_symbols.specs.declared.terminal.TerminalLiteral.{TerminalLiteral}
use Rattle.lalrpop_grammar_symbols.specs.declared.terminal.TerminalLiteral.TheVariants as literals
use Rattle.lalrpop_grammar_symbols.specs.declared.terminal.TerminalString.{TerminalString}
use Rattle.lalrpop_grammar_symbols.specs.declared.terminal.TerminalString.TheVariants as terminals

-- inside one group a quoted literal beats a regex
abbrev pub base_precedence_of : TerminalLiteral → ℕ
base_precedence_of (literals.Quoted text) = 1
base_precedence_of (literals.Regex pattern) = 0

abbrev pub literal_of : TerminalString → Option TerminalLiteral
literal_of (terminals.Literal literal) = Some literal
literal_of (terminals.Bare name) = None
literal_of terminals.Error = None
