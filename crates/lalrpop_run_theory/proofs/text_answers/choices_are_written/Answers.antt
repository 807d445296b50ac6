use Rattle.std.proofs.Common.{◌∙◌, ap}
use Rattle.lalrpop_grammar_language.specs.Enabled.{enabled_grammar}
use Rattle.lalrpop_grammar_language.specs.Expansion.{GrammarSymbol, Nonterminal, Produces}
use Rattle.lalrpop_grammar_language.proofs.PlaceLemmas.{places_told}
use Rattle.lalrpop_norm_theory.specs.Inlined.{IsInlined}
use Rattle.lalrpop_grammar_language.specs.ExpandedTrees.{base_tree}
use Rattle.lalrpop_grammar_language.proofs.TakeLemmas.{comes_back}
use Rattle.lalrpop_run_theory.specs.ExpansionTrees.{is_inlined_nonterminal}
use Rattle.lalrpop_run_theory.proofs.InlinedTestLemmas.{inlined_decided}
use Rattle.lalrpop_run_theory.specs.TreeChoices.{tree_choices}
use Rattle.lalrpop_run_theory.proofs.ChoiceLemmas.{choices_same, shown_choices}
use Rattle.lalrpop_run_theory.proofs.text_answers.choices_are_written.Goals as goal

pub returns : goal.returns
returns c =
    λ finds features w start t tokens e h.
    let g = enabled_grammar finds features w in
    let p = GrammarSymbol.nonterminal (Nonterminal.start start) in
    let base = (comes_back (Produces g) (IsInlined g) (is_inlined_nonterminal g) (inlined_decided g) e p h.grows).0 in
    choices_same g (places_told finds features w) (base_tree e) p base ∙ ap tree_choices h.stands ∙ shown_choices t
