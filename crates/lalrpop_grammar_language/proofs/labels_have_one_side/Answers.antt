use Rattle.lalrpop_grammar_language.specs.Enabled.{enabled_grammar}
use Rattle.lalrpop_grammar_language.proofs.PlaceLemmas.{places_told, places_apart}
use Rattle.lalrpop_grammar_language.proofs.LabelLemmas.{one_side}
use Rattle.lalrpop_grammar_language.proofs.labels_have_one_side.Goals as goal

pub returns : goal.returns
returns c =
    λ finds features g label s t a b. one_side (enabled_grammar finds features g) (places_told finds features g)
    (places_apart finds features g) label.head label.choice s t a b
