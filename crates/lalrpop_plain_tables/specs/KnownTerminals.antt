-- Terminals on right sides that are numbered, production by production: for the test whether a grammar has its terminals.
use Rattle.std.specs.Prelude.{List}
use Rattle.std.specs.List.{All}
use Rattle.lalrpop_grammar_repr.specs.declared.production.Production.{Production}
use Rattle.lalrpop_grammar_repr.specs.declared.terminal_set.TerminalSet.{TerminalSet}
use Rattle.lalrpop_lr1_first.specs.Tables.{HasNumberedTerminal}

-- those of the productions are
abbrev pub AreKnownIn : TerminalSet → List Production → Type 0
AreKnownIn ts productions = All (λ p. All (HasNumberedTerminal ts) p.symbols) productions
