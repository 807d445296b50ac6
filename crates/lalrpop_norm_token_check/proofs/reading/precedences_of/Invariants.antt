use Rattle.std.proofs.Common.{◌≡◌, ◌++◌, map, drop}
use Rattle.lalrpop_grammar.specs.Views.{intern_entry_view}
use Rattle.lalrpop_lexer.specs.Outcome.{numbers}
use Rattle.lalrpop_norm_token_check.specs.Patterns.{entry_precedences}
use Rattle.lalrpop_norm_token_check.proofs.reading.precedences_of.Given as goal

abbrev pub invariant-loop-entry : goal.invariant-loop-entry
invariant-loop-entry l =
    numbers l.found.items ++ entry_precedences (map intern_entry_view (drop l.entry-index l.entries))
    ≡ entry_precedences (map intern_entry_view l.entries)
