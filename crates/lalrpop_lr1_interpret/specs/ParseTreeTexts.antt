-- Parse trees as text, for their `Display`.
use Rattle.std.specs.Prelude.{List, ◌++◌, codes, map}
use Rattle.lalrpop_grammar_symbols.specs.Symbols.{Text}
use Rattle.lalrpop_grammar_symbols.specs.Texts.{join_texts, terminal_text}
use Rattle.lalrpop_grammar_symbols.specs.Views.{terminal_view}
use Rattle.lalrpop_lr1_interpret.specs.declared.parse_trees.parse_tree.ParseTree.{ParseTree}
use Rattle.lalrpop_lr1_interpret.specs.declared.parse_trees.parse_tree.ParseTree.TheOpen as layer
use Rattle.lalrpop_lr1_interpret.specs.declared.parse_trees.parse_tree.ParseTree.TheFolds.{fold-ParseTree}

-- the texts with commas between them
abbrev pub trees_text : List Text → Text
trees_text texts = join_texts (codes ", ") texts

-- `[N: a, b]`
abbrev pub node_text : Text → List Text → Text
node_text n texts = (((codes "[" ++ n) ++ codes ": ") ++ trees_text texts) ++ codes "]"

abbrev pub parse_text_step : layer.ParseTree-F Text → Text
parse_text_step (layer.Nonterminal n trees) = node_text n.0 trees
parse_text_step (layer.Terminal t) = terminal_text (terminal_view t)

abbrev pub parse_tree_text : ParseTree → Text
parse_tree_text = fold-ParseTree Text parse_text_step

abbrev pub parse_tree_texts : List ParseTree → List Text
parse_tree_texts trees = map parse_tree_text trees
