use Rattle.lalrpop_grammar_language.specs.Enabled.{enabled_grammar}
use Rattle.lalrpop_norm_theory.specs.Between.{grammar_between}
use Rattle.lalrpop_norm_keys.proofs.PlainGrammarLemmas.{table_alike}
use Rattle.lalrpop_norm_keys.proofs.PlainPlaceLemmas.{key_place_alike}
use Rattle.lalrpop_norm_keys.proofs.key_places.laws.key_places_stay_between.Goals as goal

pub returns : goal.returns
returns c = λ finds features w active x p h.
    key_place_alike (enabled_grammar finds features w) (grammar_between finds w) (table_alike finds features w active) x p h
