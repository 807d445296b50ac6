use Rattle.std.proofs.Common.{◌≡◌, ◌++◌, map}
use Rattle.lalrpop_lexer_scan.specs.Noting.{use_view, quoted_use}
use Rattle.lalrpop_lexer_scan.proofs.literals.push_quoted.Given as goal

abbrev pub invariant-loop-text : goal.invariant-loop-text
invariant-loop-text l =
    map use_view l.entries.items ++ map quoted_use l.text-iterator
    ≡ map use_view l.initial.entries.items ++ map quoted_use l.fn.places.entries
