use Rattle.std.proofs.Common.{◌∙◌, ap, length, refl, subst, sym}
use Rattle.std.specs.Prelude.{Option, false}
use Rattle.lalrpop_grammar.specs.Trees.{leaves}
use Rattle.lalrpop_grammar.specs.Views.{grammar_view, tree_view}
use Rattle.lalrpop_grammar_rules.specs.Search.{finds}
use Rattle.lalrpop_grammar.specs.declared.origin.Origin as choices
use Rattle.lalrpop_grammar_repr.specs.declared.grammar.Grammar as repr
use Rattle.std.specs.Prelude.{List}
use Rattle.lalrpop_grammar_symbols.specs.declared.names.NonterminalString.{NonterminalString}
use Rattle.lalrpop_lr1_core.specs.TheoryGrammars.{theory_grammar}
use Rattle.lalrpop_lr1_interpret.specs.ExpandedViews.{listed_views}
use Rattle.lalrpop_lr1_interpret.specs.Stacks.{◌beside◌}
use Rattle.lalrpop_lr1_theory.specs.Productions as theory
use Rattle.lalrpop_lr1_theory.specs.Spans.{SpannedForest, without_spans}
use Rattle.lalrpop_lr1_theory.specs.Trees.{roots}
use Rattle.lalrpop_run_theory.specs.AnswerLaws.{IsWrittenOf}
use Rattle.lalrpop_run_trees.specs.declared.tree_parts.tree_part.TreePart.{TreePart}
use Rattle.lalrpop_run_trees.specs.declared.tree_parts.tree_part.Piece.TheVariants as pieces
use Rattle.lalrpop_run_parser.specs.FoldedTrees.{PutsBeside, TellsFolded, TellsOfGrammar}
use Rattle.lalrpop_run_parser.proofs.WholeFoldLemmas.{none_told, some_told}
use Rattle.lalrpop_run_parser.proofs.folding.tree_folding.fold.Goals as goal

-- what the search tells of the whole tree
abbrev Told : repr.Grammar → List choices.Origin → NonterminalString → TreePart → Option SpannedForest → Type 0
Told g origins name whole = TellsOfGrammar g origins (TellsFolded (theory.nonterminal name.0) whole 4294967298)

pub into_tree-requires : goal.into_tree-requires
into_tree-requires c =
    let whole : TreePart = record { piece = pieces.Whole c.args.tree; is_inside = false } in
    let found =
    subst (PutsBeside 1 (Told c.expansion-grammar.result.now c.origins.result.now c.start_name.result.now whole)
    (listed_views c.new-trees.result) (listed_views c.fold_nonterminal.new.trees)) c.if-branch.true c.in_ok-fold_nonterminal.ensures in
    ap (λ f. length (roots (without_spans f))) (found.beside_old ∙ ap (λ f. f beside found.trees) c.new-trees.ensures) ∙ found.count_is

pub returns-then-branch : goal.returns-then-branch
returns-then-branch c = λ read e.
    let v = c.args.prepared.now in
    let whole : TreePart = record { piece = pieces.Whole c.args.tree; is_inside = false } in
    let found =
    subst (PutsBeside 1 (Told c.expansion-grammar.result.now c.origins.result.now c.start_name.result.now whole)
    (listed_views c.new-trees.result) (listed_views c.fold_nonterminal.new.trees)) c.if-branch.true c.in_ok-fold_nonterminal.ensures in
    subst (λ ts. IsWrittenOf finds v.session.features.items (grammar_view v.written) v.start e.expansion.label_of
    (theory_grammar v.expansion) (leaves (tree_view c.args.tree.now)) ts (tree_view c.args.tree.now))
    (sym (c.into_tree.ensures ∙ found.beside_old ∙ ap (λ f. f beside found.trees) c.new-trees.ensures))
    (some_told c.forests_correspond.ensures.admitted v read (c.known.ensures.prepared read) e c.expansion-grammar.result.now
    c.origins.result.now c.start_name.result.now whole found.trees (tree_view c.args.tree.now) c.expansion-grammar.ensures
    c.origins.ensures c.start_name.ensures found.told refl c.known.ensures.prefixed c.known.ensures.named)

pub returns : goal.returns
returns c = λ read.
    let v = c.args.prepared.now in
    let whole : TreePart = record { piece = pieces.Whole c.args.tree; is_inside = false } in
    let p = c.known.ensures.prepared read in
    let without =
    subst (PutsBeside 1 (Told c.expansion-grammar.result.now c.origins.result.now c.start_name.result.now whole)
    (listed_views c.new-trees.result) (listed_views c.fold_nonterminal.new.trees)) c.if-branch.false c.in_ok-fold_nonterminal.ensures in
    none_told c.forests_correspond.ensures.admitted v read p p.told c.forests_correspond.ensures.forests
    c.expansion-grammar.result.now c.origins.result.now c.start_name.result.now whole (tree_view c.args.tree.now)
    c.expansion-grammar.ensures c.origins.ensures c.start_name.ensures without.0 refl c.known.ensures.prefixed
    c.known.ensures.named
