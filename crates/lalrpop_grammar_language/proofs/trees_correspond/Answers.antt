use Rattle.lalrpop_grammar_language.specs.Enabled.{enabled_grammar}
use Rattle.lalrpop_grammar_language.proofs.PlaceLemmas.{places_told, places_apart}
use Rattle.lalrpop_grammar_language.proofs.SoundnessLemmas.{admits_part}
use Rattle.lalrpop_grammar_language.proofs.CompletenessLemmas.{grow}
use Rattle.lalrpop_grammar_language.proofs.UniquenessLemmas.{once}
use Rattle.lalrpop_grammar_language.proofs.StartLemmas.{start_admits, start_grown, start_once}
use Rattle.lalrpop_grammar_language.proofs.trees_correspond.Goals as goal

pub returns-clause-admitted : goal.returns-clause-admitted
returns-clause-admitted c =
    λ finds features g x d h. admits_part (enabled_grammar finds features g) (places_told finds features g) x d h

pub returns-clause-expanded : goal.returns-clause-expanded
returns-clause-expanded c =
    λ finds features g x t tokens h. let f = grow (enabled_grammar finds features g) x t tokens h in
    (f.tree, record { grows = f.grows; stands = f.stands; over = f.over })

pub returns-clause-once : goal.returns-clause-once
returns-clause-once c =
    λ finds features g x d f h k e. once (enabled_grammar finds features g) (places_told finds features g) (places_apart finds features g)
    x d f h k e

pub returns-clause-admitted_from : goal.returns-clause-admitted_from
returns-clause-admitted_from c =
    λ finds features g n d h. start_admits (enabled_grammar finds features g) (places_told finds features g) n d h

pub returns-clause-expanded_from : goal.returns-clause-expanded_from
returns-clause-expanded_from c = λ finds features g n t tokens p h. start_grown (enabled_grammar finds features g) n t tokens p h

pub returns-clause-once_from : goal.returns-clause-once_from
returns-clause-once_from c =
    λ finds features g n d f h k e. start_once (enabled_grammar finds features g) (places_told finds features g)
    (places_apart finds features g) n d f h k e
