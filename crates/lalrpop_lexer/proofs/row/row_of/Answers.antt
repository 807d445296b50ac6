use Rattle.std.proofs.Common.{arith}
use Rattle.std.proofs.lemmas.List.{length_push}
use Rattle.lalrpop_lexer.specs.Explore.{edges_view}
use Rattle.lalrpop_lexer.proofs.RowLemmas.{row_more}
use Rattle.lalrpop_lexer.proofs.row.row_of.Goals as goal

pub loop-character-preserved : goal.loop-character-preserved
loop-character-preserved c = rw c.in_ok-push.ensures.items (record {
  size = omega (arith, c.loop-character.invariant.size, length_push c.loop-character.row.items c.target_in.result);
  some = row_more (edges_view c.args.edges.now) c.loop-character.row.items c.loop-character.character c.target_in.result
      c.loop-character.invariant.size c.target_in.ensures c.loop-character.invariant.some;
})
