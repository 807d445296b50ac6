-- Written trees that are shown of trees over productions: what they show already, and their leaves; for unfolding.
use Rattle.std.proofs.Common.{◌≡◌, ◌∙◌, ℕ, ◌∷◌, length, refl, ap, ap₂, sym}
use Rattle.std.proofs.Common.{map}
use Rattle.std.specs.Prelude.{flat_map}
use Rattle.lalrpop_grammar.specs.Trees.{Tree, leaves}
use Rattle.lalrpop_grammar_language.specs.Derivations.{leaf_token, with_shown}
use Rattle.lalrpop_lr1_theory.specs.Spans.{SpannedForest, leaf_at, node_at, none_at}
use Rattle.lalrpop_run_trees.specs.ActionLabels.{ChoiceLabel}
use Rattle.lalrpop_run_trees.specs.LabelledTrees.{IsPart, shown_trees, tree_by_label}
use Rattle.lalrpop_run_trees.proofs.PartLemmas.{part_of_part, parts_joined, tree_leaves}
use Rattle.lalrpop_run_trees.proofs.ShownTreeLemmas.{shown_tree}
use Rattle.lalrpop_run_trees.proofs.TakenLemmas.{KeepSymbols, shown_count}
use Rattle.lalrpop_run_trees.specs.KeptTrees.{forest_tokens}

-- what is shown of trees shows its leaves already
pub shown_already : (label_of : ℕ → ChoiceLabel) (ts : SpannedForest) →
    map with_shown (shown_trees label_of ts) ≡ shown_trees label_of ts
shown_already label_of none_at = refl
shown_already label_of (leaf_at t span ts) = ap (λ l. Tree.terminal (leaf_token t span) ∷ l) (shown_already label_of ts)
shown_already label_of (node_at p cs ts) =
    ap₂ (λ u l. u ∷ l)
    (shown_tree (label_of p.action) (shown_trees label_of cs)
    ∙ ap (λ l. tree_by_label (label_of p.action) l) (shown_already label_of cs))
    (shown_already label_of ts)

-- its leaves are among the tokens at the leaves
pub shown_part_of : (label_of : ℕ → ChoiceLabel) (ts : SpannedForest) → KeepSymbols label_of ts →
    IsPart (flat_map leaves (shown_trees label_of ts)) (forest_tokens ts)
shown_part_of label_of none_at h = IsPart.nothing
shown_part_of label_of (leaf_at t span ts) h =
    IsPart.with_first (leaf_token t span) (flat_map leaves (shown_trees label_of ts)) (forest_tokens ts) (shown_part_of label_of ts h)
shown_part_of label_of (node_at p cs ts) h =
    parts_joined (leaves (tree_by_label (label_of p.action) (shown_trees label_of cs))) (forest_tokens cs)
    (flat_map leaves (shown_trees label_of ts)) (forest_tokens ts)
    (part_of_part (leaves (tree_by_label (label_of p.action) (shown_trees label_of cs))) (flat_map leaves (shown_trees label_of cs))
    (forest_tokens cs)
    (tree_leaves (label_of p.action) (shown_trees label_of cs) (h.0 ∙ ap length (sym h.1) ∙ sym (shown_count label_of cs)))
    (shown_part_of label_of cs h.2))
    (shown_part_of label_of ts h.3)
