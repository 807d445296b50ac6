use Rattle.std.proofs.Common.{refl}
use Rattle.lalrpop_lr1_build.proofs.builder.lookahead_build.TokenSetLookaheadBuild.epsilon_moves.Goals as goal

pub returns : goal.returns
returns c = (
  c.in_ok-first.first,
  c.in_ok-first.ensures.first c.args.lr.now.grammar.now c.requires refl,
  c.in_ok-items.ensures,
)
