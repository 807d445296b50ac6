-- The text of a tree doesn't show where its leaves stand; for prints_tell_trees_apart.
use Rattle.std.proofs.Common.{◌≡◌, ◌∷◌, ◌++◌, refl, ap, ◌∙◌, map}
use Rattle.std.specs.Prelude.{codes}
use Rattle.lalrpop_grammar_symbols.specs.Texts.{symbol_text}
use Rattle.lalrpop_grammar.specs.Trees.{Tree, Trees}
use Rattle.lalrpop_json_grammar.specs.Printing.{tree_text, tree_texts, head_text, row_text}
use Rattle.lalrpop_json_grammar.specs.Printed.{tree_without_spans, trees_without_spans}

mutual
  -- a tree prints as the same text without the spans of its leaves
  pub text_of_unplaced : (t : Tree) → tree_text (tree_without_spans t) ≡ tree_text t
  text_of_unplaced (Tree.rule n args place ts) =
      ap (λ l. head_text n (map symbol_text args) place ++ row_text (codes "(") (codes ")") l) (texts_of_unplaced ts)
  text_of_unplaced (Tree.list ts) = ap (λ l. row_text (codes "[") (codes "]") l) (texts_of_unplaced ts)
  text_of_unplaced Tree.opt_none = refl
  text_of_unplaced (Tree.opt_some t) = ap (λ l. codes "?(" ++ l ++ codes ")") (text_of_unplaced t)
  text_of_unplaced (Tree.group ts) = ap (λ l. row_text (codes "(") (codes ")") l) (texts_of_unplaced ts)
  text_of_unplaced (Tree.terminal token) = refl
  text_of_unplaced Tree.look = refl

  texts_of_unplaced : (ts : Trees) → tree_texts (trees_without_spans ts) ≡ tree_texts ts
  texts_of_unplaced Trees.none = refl
  texts_of_unplaced (Trees.more t ts) =
      ap (λ l. l ∷ tree_texts (trees_without_spans ts)) (text_of_unplaced t) ∙ ap (λ ls. tree_text t ∷ ls) (texts_of_unplaced ts)
