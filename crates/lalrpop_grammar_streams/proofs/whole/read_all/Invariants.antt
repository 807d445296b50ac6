use Rattle.std.proofs.Common.{◌≡◌, false}
use Rattle.std.specs.Io.KnownBytes.{Consumes}
use Rattle.lalrpop_grammar_streams.proofs.whole.read_all.Given as goal

abbrev pub invariant-reading : goal.invariant-reading
invariant-reading g l = record {
  taken : Consumes (g.R.Source.remaining l.initial.reader) (g.R.Source.remaining l.reader) l.bytes.items;
  unended : g.R.Source.ended l.initial.reader ≡ false → g.R.Source.ended l.reader ≡ false;
  unharmed : g.R.Source.ended l.initial.reader ≡ false → g.R.Source.misused l.reader ≡ g.R.Source.misused l.initial.reader;
}

abbrev pub decreases-reading : goal.decreases-reading
decreases-reading g l = g.R.Source.calls_left l.reader
