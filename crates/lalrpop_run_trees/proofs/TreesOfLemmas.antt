-- Written trees that are those of trees over productions: they are what these show, they have their leaves, and each of them is one
-- of one of these; for folding.
use Rattle.std.proofs.Common.{◌≡◌, ℕ, List, ◌∷◌, ◌++◌, refl, ap, ap₂, sym, ◌∙◌}
use Rattle.std.specs.Prelude.{flat_map, map}
use Rattle.std.proofs.lemmas.List.{map-append}
use Rattle.lalrpop_grammar.specs.Trees.{Token, Tree, leaves}
use Rattle.lalrpop_grammar_language.specs.Derivations.{leaf_token}
use Rattle.lalrpop_lr1_theory.specs.Spans.{SpannedForest, leaf_at, leaf_spans, node_at, none_at, without_spans}
use Rattle.lalrpop_lr1_theory.specs.Trees.{yield}
use Rattle.lalrpop_run_trees.specs.ActionLabels.{ChoiceLabel}
use Rattle.lalrpop_run_trees.specs.LabelledTrees.{shown_trees, tree_by_label}
use Rattle.lalrpop_run_trees.specs.KeptTrees.{AreTreesOf, forest_tokens}
use Rattle.lalrpop_run_trees.proofs.KeptLemmas.{kept_leaves, kept_tree}

-- they are what is shown of the trees over productions
pub trees_shown : (label_of : ℕ → ChoiceLabel) (ts : SpannedForest) (us : List Tree) → AreTreesOf label_of ts us →
    shown_trees label_of ts ≡ us
trees_shown label_of none_at us h = sym h
trees_shown label_of (leaf_at t span ts) us (rest, e, h) =
    ap (λ l. Tree.terminal (leaf_token t span) ∷ l) (trees_shown label_of ts rest h) ∙ sym e
trees_shown label_of (node_at p cs ts) us h =
    ap₂ (λ u l. u ∷ l)
    (ap (λ l. tree_by_label (label_of p.action) l) (trees_shown label_of cs h.kept h.children)
    ∙ kept_tree (label_of p.action) h.first h.kept h.are_kept)
    (trees_shown label_of ts h.others h.rest) ∙ sym h.trees_are

-- the written trees have them at their leaves
pub trees_tokens : (label_of : ℕ → ChoiceLabel) (ts : SpannedForest) (us : List Tree) → AreTreesOf label_of ts us →
    flat_map leaves us ≡ forest_tokens ts
trees_tokens label_of none_at us h = ap (λ l. flat_map leaves l) h
trees_tokens label_of (leaf_at t span ts) us (rest, e, h) =
    ap (λ l. flat_map leaves l) e ∙ ap (λ l. leaf_token t span ∷ l) (trees_tokens label_of ts rest h)
trees_tokens label_of (node_at p cs ts) us h =
    ap (λ l. flat_map leaves l) h.trees_are
    ∙ ap₂ (λ a b. a ++ b)
    (kept_leaves (label_of p.action) h.first h.kept h.are_kept ∙ trees_tokens label_of cs h.kept h.children)
    (trees_tokens label_of ts h.others h.rest)

-- the terminals of the tokens at the leaves of trees are the yield of the trees
pub tokens_terminals : (ts : SpannedForest) → map (λ (k : Token). k.terminal) (forest_tokens ts) ≡ yield (without_spans ts)
tokens_terminals none_at = refl
tokens_terminals (leaf_at t span ts) = ap (λ l. t ∷ l) (tokens_terminals ts)
tokens_terminals (node_at p cs ts) =
    map-append (λ (k : Token). k.terminal) (forest_tokens cs) (forest_tokens ts)
    ∙ ap₂ (λ a b. a ++ b) (tokens_terminals cs) (tokens_terminals ts)

-- the spans of the tokens at the leaves of trees are the spans of their leaves
pub tokens_spans : (ts : SpannedForest) → map (λ (k : Token). k.span) (forest_tokens ts) ≡ leaf_spans ts
tokens_spans none_at = refl
tokens_spans (leaf_at t span ts) = ap (λ l. span ∷ l) (tokens_spans ts)
tokens_spans (node_at p cs ts) =
    map-append (λ (k : Token). k.span) (forest_tokens cs) (forest_tokens ts)
    ∙ ap₂ (λ a b. a ++ b) (tokens_spans cs) (tokens_spans ts)
