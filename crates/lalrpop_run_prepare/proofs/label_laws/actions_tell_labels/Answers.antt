use Rattle.std.proofs.Common.{◌∙◌}
use Rattle.std.proofs.lemmas.List.{length-map}
use Rattle.lalrpop_grammar.specs.Views.{origin_view}
use Rattle.lalrpop_grammar_language.specs.Enabled.{enabled_grammar}
use Rattle.lalrpop_run_prepare.proofs.NormalizedLemmas.{named_expansion, named_origins}
use Rattle.lalrpop_run_prepare.proofs.ToldExpansionLemmas.{told_expansion}
use Rattle.lalrpop_run_prepare.proofs.label_laws.actions_tell_labels.Goals as goal

pub returns : goal.returns
returns c =
    λ finds features w made after sorted ready normalized inlined.
    told_expansion (enabled_grammar finds features w) w.prefix made.grammar sorted (λ e p i j. ready.named e.0 e.1 p i j)
    (named_expansion finds features w made normalized) made.origins (named_origins finds features w made normalized)
    (normalized.actions.no_other ∙ length-map made.origins origin_view) after inlined ready.actions
