use Rattle.std.proofs.Common.{Contains}
use Rattle.lalrpop_run_theory.proofs.YieldLemmas.{beginning_yields, sentence_yields, yield_beginning, yield_sentence}
use Rattle.lalrpop_run_theory.proofs.answers.sentences_are_yields.Goals as goal

pub returns-clause-sentences : goal.returns-clause-sentences
returns-clause-sentences c =
    λ finds features w prefix start grammar e i tokens. (
      sentence_yields finds features w prefix (Contains grammar) e start i tokens,
      yield_sentence finds features w prefix (Contains grammar) e start i tokens,
    )

pub returns-clause-beginnings : goal.returns-clause-beginnings
returns-clause-beginnings c =
    λ finds features w prefix start grammar e i u. (
      beginning_yields finds features w prefix (Contains grammar) e start i u,
      yield_beginning finds features w prefix (Contains grammar) e start i u,
    )
