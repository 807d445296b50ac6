-- Trees over the productions of an expansion have as many nodes as over its labels, and the same leaves: for the laws on written trees.
use Rattle.std.proofs.Common.{◌≡◌, List, ◌∷◌, ◌++◌, refl, ap, ◌∙◌, arith}
use Rattle.std.specs.Prelude.{ℕ, map}
use Rattle.std.proofs.lemmas.List.{map-append}
use Rattle.lalrpop_grammar_symbols.specs.Symbols.{Terminal, TextSpan}
use Rattle.lalrpop_grammar.specs.WrittenGrammar.{Origin}
use Rattle.lalrpop_grammar.specs.Trees.{Token}
use Rattle.lalrpop_grammar_language.specs.Expansion.{Nonterminal}
use Rattle.lalrpop_grammar_language.specs.Labels.{Label}
use Rattle.lalrpop_grammar_language.specs.ExpandedTrees.{all_expanded_tokens}
use Rattle.lalrpop_lr1_theory.specs.Trees.{nodes, yield}
use Rattle.lalrpop_lr1_theory.specs.Spans.{SpannedForest, none_at, leaf_at, node_at, leaf_spans, without_spans}
use Rattle.lalrpop_run_theory.specs.ExpansionTrees.{trees_by_labels, expanded_sizes}

-- the terminals of tokens, in their order
abbrev pub token_terminals : List Token → List Terminal
token_terminals tokens = map (λ (k : Token). k.terminal) tokens

-- the spans of tokens, in their order
abbrev pub token_spans : List Token → List TextSpan
token_spans tokens = map (λ (k : Token). k.span) tokens

-- as many leaves and nodes
pub sizes-labelled : (f : ℕ → Label Nonterminal Origin) (ts : SpannedForest) →
    expanded_sizes (trees_by_labels f ts) ≡ nodes (without_spans ts)
sizes-labelled f none_at = refl
sizes-labelled f (leaf_at t span ts) = omega (arith, sizes-labelled f ts)
sizes-labelled f (node_at p cs ts) = omega (arith, sizes-labelled f cs, sizes-labelled f ts)

-- the same terminals at the leaves
pub terminals-labelled : (f : ℕ → Label Nonterminal Origin) (ts : SpannedForest) →
    token_terminals (all_expanded_tokens (trees_by_labels f ts)) ≡ yield (without_spans ts)
terminals-labelled f none_at = refl
terminals-labelled f (leaf_at t span ts) = ap (λ z. t ∷ z) (terminals-labelled f ts)
terminals-labelled f (node_at p cs ts) =
    map-append (λ (k : Token). k.terminal) (all_expanded_tokens (trees_by_labels f cs)) (all_expanded_tokens (trees_by_labels f ts))
    ∙ ap (λ z. z ++ token_terminals (all_expanded_tokens (trees_by_labels f ts))) (terminals-labelled f cs)
    ∙ ap (λ z. yield (without_spans cs) ++ z) (terminals-labelled f ts)

-- and the same spans
pub spans-labelled : (f : ℕ → Label Nonterminal Origin) (ts : SpannedForest) →
    token_spans (all_expanded_tokens (trees_by_labels f ts)) ≡ leaf_spans ts
spans-labelled f none_at = refl
spans-labelled f (leaf_at t span ts) = ap (λ z. span ∷ z) (spans-labelled f ts)
spans-labelled f (node_at p cs ts) =
    map-append (λ (k : Token). k.span) (all_expanded_tokens (trees_by_labels f cs)) (all_expanded_tokens (trees_by_labels f ts))
    ∙ ap (λ z. z ++ token_spans (all_expanded_tokens (trees_by_labels f ts))) (spans-labelled f cs)
    ∙ ap (λ z. leaf_spans cs ++ z) (spans-labelled f ts)
