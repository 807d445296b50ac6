-- Inlining a tree keeps its tokens: for the laws on written trees.
use Rattle.std.proofs.Common.{◌≡◌, ◌++◌, refl, ap, sym, ◌∙◌, Bool, true, false}
use Rattle.std.proofs.Common.{if◌then◌else◌, append_assoc}
use Rattle.lalrpop_grammar_language.specs.Labels.{Label}
use Rattle.lalrpop_grammar_language.specs.BaseTrees.{BaseTree, BaseTrees, base_tokens, all_base_tokens}
use Rattle.lalrpop_grammar_language.specs.ExpandedTrees.{ExpandedTree, ExpandedTrees, join_expanded, expanded_tokens, all_expanded_tokens}
use Rattle.lalrpop_grammar_language.specs.ExpandedTrees.{inlinings_of, expanded_below, expanded_child, expanded_tree}
use Rattle.lalrpop_grammar_language.proofs.StepOnceLemmas.{append-none}

tokens-join : {N C : Type 0} (xs ys : ExpandedTrees N C) →
    all_expanded_tokens (join_expanded xs ys) ≡ all_expanded_tokens xs ++ all_expanded_tokens ys
tokens-join ExpandedTrees.none ys = refl
tokens-join (ExpandedTrees.more d xs) ys =
    ap (λ l. expanded_tokens d ++ l) (tokens-join xs ys)
    ∙ sym (append_assoc (expanded_tokens d) (all_expanded_tokens xs) (all_expanded_tokens ys))

mutual
  tokens_below : {N C : Type 0} (f : N → Bool) (ds : BaseTrees N C) → all_expanded_tokens (expanded_below f ds) ≡ all_base_tokens ds
  tokens_below f BaseTrees.none = refl
  tokens_below f (BaseTrees.more d ds) =
      tokens-join (expanded_child f d) (expanded_below f ds)
      ∙ ap (λ l. l ++ all_expanded_tokens (expanded_below f ds)) (tokens_child f d)
      ∙ ap (λ l. base_tokens d ++ l) (tokens_below f ds)

  tokens_child : {N C : Type 0} (f : N → Bool) (d : BaseTree N C) → all_expanded_tokens (expanded_child f d) ≡ base_tokens d
  tokens_child f (BaseTree.leaf t span) = refl
  tokens_child f (BaseTree.node y c kids) = go (f y) (tokens_below f kids)
    where
      go : (b : Bool) → all_expanded_tokens (expanded_below f kids) ≡ all_base_tokens kids →
          all_expanded_tokens (if b then expanded_below f kids
          else ExpandedTrees.more (ExpandedTree.node (Label.choose y c (inlinings_of f kids)) (expanded_below f kids))
          ExpandedTrees.none) ≡ all_base_tokens kids
      go true e = e
      go false e = append-none (all_expanded_tokens (expanded_below f kids)) ∙ e

-- a tree inlined has the tokens of the tree
pub tokens-expanded : {N C : Type 0} (f : N → Bool) (d : BaseTree N C) → expanded_tokens (expanded_tree f d) ≡ base_tokens d
tokens-expanded f (BaseTree.leaf t span) = refl
tokens-expanded f (BaseTree.node y c kids) = tokens_below f kids
