use Rattle.lalrpop_grammar_language.specs.Enabled.{enabled_grammar}
use Rattle.lalrpop_run_prepare.proofs.InlinedExpansionLemmas.{base_expansion, inlined_expansion}
use Rattle.lalrpop_run_prepare.proofs.NormalizedLemmas.{named_expansion}
use Rattle.lalrpop_run_prepare.proofs.answer_laws.inlined_are_expansion.Goals as goal

pub returns-clause-before : goal.returns-clause-before
returns-clause-before c =
    λ finds features w made sorted ready normalized.
    base_expansion (enabled_grammar finds features w) w.prefix made.grammar sorted (λ e p i j. ready.named e.0 e.1 p i j)
    (named_expansion finds features w made normalized)

pub returns-clause-after : goal.returns-clause-after
returns-clause-after c =
    λ finds features w made after sorted ready normalized inlined.
    inlined_expansion (enabled_grammar finds features w) w.prefix made.grammar sorted (λ e p i j. ready.named e.0 e.1 p i j)
    (named_expansion finds features w made normalized) after inlined ready.actions
