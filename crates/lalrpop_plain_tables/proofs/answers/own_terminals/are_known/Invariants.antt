use Rattle.std.specs.List.{All}
use Rattle.lalrpop_plain_tables.specs.KnownTerminals.{AreKnownIn}
use Rattle.lalrpop_plain_tables.proofs.answers.own_terminals.are_known.Given as goal

abbrev pub invariant-loop-data : goal.invariant-loop-data
invariant-loop-data l =
    All (λ e. AreKnownIn l.grammar.terminals e.1.productions) l.data-iterator
    → All (λ e. AreKnownIn l.grammar.terminals e.1.productions) l.grammar.nonterminals
