use Rattle.std.proofs.Common.{take}
use Rattle.lalrpop_plain_tables.specs.KnownTerminals.{AreKnownIn}
use Rattle.lalrpop_plain_tables.proofs.answers.own_terminals.are_known_in.Given as goal

abbrev pub invariant-loop-production : goal.invariant-loop-production
invariant-loop-production l = AreKnownIn l.terminals (take l.production-index l.productions)
