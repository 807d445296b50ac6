use Rattle.std.proofs.Common.{◌≡◌, ◌++◌, ◌∙◌, sym, subst, Contains}
use Rattle.lalrpop_grammar_language.specs.Enabled.{enabled_grammar}
use Rattle.lalrpop_norm_theory.specs.Inlined.{IsInlined}
use Rattle.lalrpop_lr1_theory.specs.Spans.{without_spans}
use Rattle.lalrpop_lr1_theory.specs.States.{HasEdge, HasItem, Reduces}
use Rattle.lalrpop_lr1_theory.proofs.CheckedLemmas.{checked_automaton}
use Rattle.lalrpop_lr1_theory.proofs.SpanLemmas.{spanned_same}
use Rattle.lalrpop_lr1_theory.proofs.WalkLemmas.{one_tree}
use Rattle.lalrpop_run_theory.specs.ExpansionTrees.{IsForestOfTree}
use Rattle.lalrpop_run_theory.proofs.BarrenLemmas.{start_is_alone}
use Rattle.lalrpop_run_theory.proofs.WrittenForestLemmas.{forest_of_tree, tree_once}
use Rattle.lalrpop_run_theory.proofs.answers.one_written_tree.Goals as goal

pub returns : goal.returns
returns c =
    λ finds features w prefix start grammar states e i ok t u tokens a b.
    let g = enabled_grammar finds features w in
    let s = prefix ++ start in
    let x = forest_of_tree finds features w prefix (Contains grammar) e start i t tokens a in
    let y = forest_of_tree finds features w prefix (Contains grammar) e start i u tokens b in
    let same : without_spans x.0 ≡ without_spans y.0 =
    one_tree (Contains grammar) s (HasItem states) (HasEdge states) (Reduces states)
    (checked_automaton grammar s states ok).automaton
    (λ p m k. start_is_alone g (IsInlined g) prefix (Contains grammar) e start i p m k)
    (without_spans x.0) (without_spans y.0) x.1.is_tree y.1.is_tree (x.1.terminals ∙ sym y.1.terminals) in
    let one : x.0 ≡ y.0 = spanned_same x.0 y.0 same (x.1.spans ∙ sym y.1.spans) in
    tree_once finds features w prefix (Contains grammar) e start i t u tokens y.0 a b
    (subst (IsForestOfTree e.label_of (Contains grammar) s t tokens) one x.1) y.1
