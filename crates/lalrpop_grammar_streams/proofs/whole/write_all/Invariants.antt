use Rattle.std.proofs.Common.{◌≡◌, ◌+◌, ℕ, List, ◌++◌, length}
use Rattle.std.specs.Io.KnownBytes.{Appends}
use Rattle.lalrpop_grammar_streams.proofs.whole.write_all.Given as goal

abbrev pub invariant-writing : goal.invariant-writing
invariant-writing g l = record {
  works : g.W.Sink.has_failed l.writer ≡ g.W.Sink.has_failed l.initial.writer;
  written : (front : List ℕ) × (l.text ≡ front ++ l.rest)
      × Appends (g.W.Sink.contents l.initial.writer) (g.W.Sink.contents l.writer) front;
}

abbrev pub decreases-writing : goal.decreases-writing
decreases-writing g l = length l.rest + g.W.Sink.calls_left l.writer
