-- The expanded tree of a written tree over the productions of a prepared grammar: what folding and unfolding answer; what the laws say.
use Rattle.std.specs.Prelude.{◌≡◌, Result, Ok, Err}
use Rattle.lalrpop_grammar.specs.Trees.{Tree, leaves}
use Rattle.lalrpop_grammar.specs.Views.{grammar_view}
use Rattle.lalrpop_grammar_language.specs.Admitting.{AdmitsFrom}
use Rattle.lalrpop_grammar_language.specs.Derivations.{with_shown}
use Rattle.lalrpop_grammar_language.specs.Enabled.{enabled_grammar}
use Rattle.lalrpop_grammar_rules.specs.Search.{finds, is_too_deep}
use Rattle.lalrpop_lr1_core.specs.TheoryGrammars.{theory_grammar}
use Rattle.lalrpop_lr1_interpret.specs.ExpandedViews.{expanded_view}
use Rattle.lalrpop_lr1_interpret.specs.declared.parse.expanded_tree.ExpandedTree.{ExpandedTree}
use Rattle.lalrpop_lr1_theory.specs.Spans.{SpannedForest}
use Rattle.lalrpop_run_prepare.specs.ToldExpansions.{AreToldExpansion}
use Rattle.lalrpop_run_prepare.specs.PreparedGrammars.{IsPrepared, PreparedGrammar}
use Rattle.lalrpop_run_theory.specs.AnswerLaws.{IsWrittenOf}
use Rattle.lalrpop_run_parser.specs.declared.folding.fold_error.FoldError.{FoldError}
use Rattle.lalrpop_run_parser.specs.declared.folding.fold_error.FoldError.TheVariants as errors

-- The tree over productions is the expanded tree of the written tree, which the start admits over its own leaves: by the labels that the
-- productions' actions tell.
abbrev pub IsExpansionOfTree : PreparedGrammar → Tree → SpannedForest → Type 0
IsExpansionOfTree v t ts =
    (e : AreToldExpansion (enabled_grammar finds v.session.features.items (grammar_view v.written)) v.written.prefix
    v.expansion.action_fn_defns v.origins (theory_grammar v.expansion))
    → IsWrittenOf finds v.session.features.items (grammar_view v.written) v.start e.expansion.label_of (theory_grammar v.expansion)
    (leaves t) ts t

-- it is folded to its expanded tree; or the start doesn't admit it over its own leaves; of want of memory nothing is said
abbrev pub TellsFold : PreparedGrammar → Tree → Result ExpandedTree FoldError → Type 0
TellsFold v t (Ok tree) = IsExpansionOfTree v t (expanded_view tree)
TellsFold v t (Err errors.NotAdmitted) =
    AdmitsFrom finds v.session.features.items (grammar_view v.written) v.start t (leaves t) → ⊥
TellsFold v t (Err errors.Memory) = Unit {0}

-- The written tree of a tree over productions, whose leaves show their terminals.
pub record IsUnfolded (v : PreparedGrammar) (ts : SpannedForest) (t : Tree) : Type 0 where
  pub expands : IsExpansionOfTree v t ts
  pub shown : with_shown t ≡ t

-- a written tree is folded to one tree: what is unfolded and folded again is the same
abbrev pub FoldedTreesAreOne : Type 0
FoldedTreesAreOne =
    (v : PreparedGrammar) → IsPrepared finds is_too_deep v → (t : Tree)
    (ts us : SpannedForest) → IsExpansionOfTree v t ts → IsExpansionOfTree v t us → ts ≡ us

-- a tree over productions is unfolded to one written tree, texts of leaves aside: what is folded and unfolded again is the same
abbrev pub UnfoldedTreesAreOne : Type 0
UnfoldedTreesAreOne =
    (v : PreparedGrammar) → IsPrepared finds is_too_deep v → (t u : Tree)
    (ts : SpannedForest) → IsExpansionOfTree v t ts → IsExpansionOfTree v u ts → with_shown t ≡ with_shown u
