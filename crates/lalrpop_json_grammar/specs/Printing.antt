-- How a written tree is printed.
use Rattle.std.specs.Prelude.{ℕ, List, [], ◌∷◌, ◌++◌, map, codes, decimal}
use Rattle.lalrpop_json_values.specs.JsonText.{json_text}
use Rattle.lalrpop_grammar_symbols.specs.Symbols.{Text}
use Rattle.lalrpop_grammar_symbols.specs.Texts.{symbol_text, join_texts}
use Rattle.lalrpop_grammar.specs.Trees.{Tree, Trees}

-- the texts between two brackets, with `, ` between each two
abbrev pub row_text : Text → Text → List Text → Text
row_text opening closing ts = opening ++ join_texts (codes ", ") ts ++ closing

-- `<x, y>`, where there are arguments
abbrev pub arguments_text : List Text → Text
arguments_text [] = []
arguments_text (t ∷ ts) = row_text (codes "<") (codes ">") (t ∷ ts)

-- `name<x, y>#place`
abbrev pub head_text : Text → List Text → ℕ → Text
head_text name args place = name ++ arguments_text args ++ codes "#" ++ decimal place

abbrev mutual
  pub tree_text : Tree → Text
  tree_text (Tree.rule name args place ts) =
      head_text name (map symbol_text args) place ++ row_text (codes "(") (codes ")") (tree_texts ts)
  tree_text (Tree.list ts) = row_text (codes "[") (codes "]") (tree_texts ts)
  tree_text Tree.opt_none = codes "?()"
  tree_text (Tree.opt_some t) = codes "?(" ++ tree_text t ++ codes ")"
  tree_text (Tree.group ts) = row_text (codes "(") (codes ")") (tree_texts ts)
  tree_text (Tree.terminal token) = json_text token.text
  tree_text Tree.look = codes "@"

  pub tree_texts : Trees → List Text
  tree_texts Trees.none = []
  tree_texts (Trees.more t ts) = tree_text t ∷ tree_texts ts
