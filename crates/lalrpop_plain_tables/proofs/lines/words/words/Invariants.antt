use Rattle.std.specs.List.{All}
use Rattle.lalrpop_plain_tables.specs.Words.{IsWordOf}
use Rattle.lalrpop_plain_tables.proofs.WordLemmas.{IsScanning}
use Rattle.lalrpop_plain_tables.proofs.lines.words.words.Given as goal

abbrev pub invariant-loop-at : goal.invariant-loop-at
invariant-loop-at l = record {
  words : All (λ w. IsWordOf l.text w.now) l.words.items;
  scanning : IsScanning l.text l.at l.from l.quotes;
}
