-- Computed examples of written trees by labels, of parts, and of wrong trees and parts that are refused.
use Rattle.std.proofs.Common.{◌≡◌, ℕ, [], ◌∷◌, refl, codes}
use Rattle.lalrpop_grammar_symbols.specs.Symbols.{Closed, Closeds, Terminal, Text}
use Rattle.std.proofs.Common.{None}
use Rattle.lalrpop_grammar.specs.Trees.{Tree, trees}
use Rattle.lalrpop_grammar.specs.WrittenGrammar.{Origin}
use Rattle.lalrpop_grammar_language.specs.Derivations.{leaf_token}
use Rattle.lalrpop_grammar_language.specs.Expansion.{Nonterminal}
use Rattle.lalrpop_grammar_language.specs.Labels.{Inlinings, Label}
use Rattle.lalrpop_lr1_theory.specs.Spans.{leaf_at, node_at, none_at}
use Rattle.lalrpop_run_trees.specs.ActionLabels.{ChoiceLabel, all_kept, kept_count, label_of_entries}
use Rattle.lalrpop_run_trees.specs.LabelledTrees.{IsPart, shown_trees, tree_by_label}

abbrev rule : Text → Nonterminal
rule n = Nonterminal.closed (Closed.call n Closeds.none None)

abbrev place : Text → ℕ → Origin
place n at = Origin.alternative n [] at

abbrev token : Text → Tree
token t = Tree.terminal (leaf_token (Terminal.quoted t) (0, 1))

-- `S = Op "x"` where `Op` is inlined by its alternative 1, `"b"`
abbrev inlined_op : ChoiceLabel
inlined_op = Label.choose (rule (codes "S")) (place (codes "S") 0)
    (Inlinings.inlined (Label.choose (rule (codes "Op")) (place (codes "Op") 1) (Inlinings.kept Inlinings.none))
    (Inlinings.kept Inlinings.none))

inlined_node : tree_by_label inlined_op (token (codes "b") ∷ token (codes "x") ∷ [])
    ≡ Tree.rule (codes "S") [] 0
    (trees (Tree.rule (codes "Op") [] 1 (trees (token (codes "b") ∷ [])) ∷ token (codes "x") ∷ []))
inlined_node = refl

-- it keeps both symbols, and is the label of the outer action with the record put in
keeps_both : kept_count inlined_op ≡ 2
keeps_both = refl

put_in : label_of_entries (Label.choose (rule (codes "S")) (place (codes "S") 0) (all_kept 2))
    (Inlinings.inlined (Label.choose (rule (codes "Op")) (place (codes "Op") 1) (all_kept 1)) (all_kept 1)) ≡ inlined_op
put_in = refl

-- a list with one element more, and an option without its symbol that was inlined with nothing
longer : tree_by_label (Label.choose (rule (codes "S")) Origin.plus_more (all_kept 2))
    (Tree.list (trees (token (codes "a") ∷ [])) ∷ token (codes "b") ∷ [])
    ≡ Tree.list (trees (token (codes "a") ∷ token (codes "b") ∷ []))
longer = refl

nothing_there : tree_by_label (Label.choose (rule (codes "S")) (place (codes "S") 0)
    (Inlinings.inlined (Label.choose (rule (codes "T")) Origin.opt_none Inlinings.none) (Inlinings.kept Inlinings.none)))
    (token (codes "a") ∷ [])
    ≡ Tree.rule (codes "S") [] 0 (trees (Tree.opt_none ∷ token (codes "a") ∷ []))
nothing_there = refl

-- the tree of a node by its action's label
shown_node : shown_trees (λ k. inlined_op)
    (node_at (record { left = codes "S"; right = []; action = 7; from = 0; to = 0 })
    (leaf_at (Terminal.quoted (codes "b")) (0, 1) (leaf_at (Terminal.quoted (codes "x")) (0, 1) none_at)) none_at)
    ≡ tree_by_label inlined_op (token (codes "b") ∷ token (codes "x") ∷ []) ∷ []
shown_node = refl

-- some are left out, in order
part : IsPart {A = ℕ} (2 ∷ 3 ∷ []) (1 ∷ 2 ∷ 3 ∷ [])
part = IsPart.without_first 1 (2 ∷ 3 ∷ []) (2 ∷ 3 ∷ [])
    (IsPart.with_first 2 (3 ∷ []) (3 ∷ []) (IsPart.with_first 3 [] [] IsPart.nothing))

-- none is put in
not_more : IsPart {A = ℕ} (1 ∷ []) [] → ⊥
not_more p = elim p [ ]
