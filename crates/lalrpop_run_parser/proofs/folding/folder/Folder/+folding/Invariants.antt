use Rattle.std.proofs.Common.{◌≡◌, ◌≤◌, ◌+◌, ◌*◌, ℕ, length, map, take}
use Rattle.std.specs.Prelude.{Contains, None}
use Rattle.lalrpop_grammar_repr.specs.declared.production.Production.{Production}
use Rattle.lalrpop_lr1_core.specs.TheoryGrammars.{theory_grammar}
use Rattle.lalrpop_lr1_core.specs.Views.{production_symbol_view, production_view}
use Rattle.lalrpop_lr1_interpret.specs.ExpandedViews.{listed_views}
use Rattle.lalrpop_run_trees.specs.ActionLabels.{ChoiceLabel}
use Rattle.lalrpop_run_parser.specs.FoldedTrees.{AreFoldable, AreOfGrammar, StandBeside, TellsAllFolded, TellsFoldedBy, TellsOfGrammar}
use Rattle.lalrpop_run_parser.proofs.MeasureLemmas.{part_measure, parts_measure, size_measure}
use Rattle.lalrpop_run_parser.proofs.folding.folder.Folder.+folding.Given as goal

abbrev pub decreases-fold_symbol : goal.decreases-fold_symbol
decreases-fold_symbol l = size_measure l.part + 8 * l.passes + 5

abbrev pub decreases-fold_nonterminal : goal.decreases-fold_nonterminal
decreases-fold_nonterminal l = size_measure l.part + 8 * l.passes + 4

abbrev pub decreases-fold_by_any : goal.decreases-fold_by_any
decreases-fold_by_any l = size_measure l.part + 8 * l.passes + 3

abbrev pub decreases-fold_by_production : goal.decreases-fold_by_production
decreases-fold_by_production l = size_measure l.part + 8 * l.passes + 2

abbrev pub decreases-fold_parts : goal.decreases-fold_parts
decreases-fold_parts l = parts_measure l.parts.now l.passes + 1

abbrev pub decreases-fold_part : goal.decreases-fold_part
decreases-fold_part l = part_measure l.part l.passes

-- none of the productions up to here has a tree, and none was put there
abbrev pub invariant-fold_by_any-loop-production : goal.invariant-fold_by_any-loop-production
invariant-fold_by_any-loop-production l =
    ((label_of : ℕ → ChoiceLabel) → AreFoldable l.self.grammar.now l.self.origins.now label_of
    → AreOfGrammar l.self.grammar.now l.productions → (p : Production) → Contains (take l.production-index l.productions) p
    → TellsFoldedBy (production_view p) l.part l.passes (Contains (theory_grammar l.self.grammar.now)) label_of None)
    × (listed_views l.trees ≡ listed_views l.initial.trees)

-- the trees of the parts up to here stand there
abbrev pub invariant-fold_parts-loop-place : goal.invariant-fold_parts-loop-place
invariant-fold_parts-loop-place l =
    (l.place ≤ length l.symbols)
    × StandBeside l.place (TellsOfGrammar l.self.grammar.now l.self.origins.now
    (TellsAllFolded (take l.place (map production_symbol_view l.symbols)) (take l.place l.parts) l.passes))
    (listed_views l.initial.trees) (listed_views l.trees)
