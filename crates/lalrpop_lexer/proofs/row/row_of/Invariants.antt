use Rattle.std.proofs.Common.{◌≡◌, ℕ, ◌<◌, None, length}
use Rattle.std.specs.Prelude.{slice_index_or}
use Rattle.lalrpop_lexer.specs.Explore.{edges_view}
use Rattle.lalrpop_lexer.specs.Simulation.{target_of}
use Rattle.lalrpop_lexer.proofs.row.row_of.Given as goal

abbrev pub invariant-loop-character : goal.invariant-loop-character
invariant-loop-character l = record {
  size : length l.row.items ≡ l.character;
  some : (c : ℕ) → c < l.character → slice_index_or l.row.items c None ≡ target_of (edges_view l.edges) c;
}
