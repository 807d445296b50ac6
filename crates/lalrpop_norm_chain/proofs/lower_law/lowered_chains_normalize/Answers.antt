use Rattle.lalrpop_grammar.specs.Views.{grammar_view}
use Rattle.lalrpop_norm_chain.proofs.PremiseLemmas.{chain_normalized, lowerable}
use Rattle.lalrpop_norm_chain.proofs.lower_law.lowered_chains_normalize.Goals as goal

pub returns : goal.returns
returns c = λ finds features w g types made chain none m k.
    chain_normalized finds features w g types made chain none (m (lowerable finds features w (grammar_view g) types chain)) k
