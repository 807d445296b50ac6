-- The one JSON value of a written tree.
use Rattle.std.specs.Prelude.{ℕ, List, [], ◌∷◌}
use Rattle.serde_json.specs.Data.{Data, null, string, array}
use Rattle.serde_json.specs.View.{items_of}
use Rattle.lalrpop_grammar_symbols.specs.declared.span.Span.{Span}
use Rattle.lalrpop_grammar_symbols.specs.declared.symbol.Symbol.{Symbol}
use Rattle.lalrpop_grammar_symbols.specs.declared.terminal.TerminalString.{TerminalString}
use Rattle.lalrpop_grammar.specs.declared.tree.WrittenTree.{WrittenTree, fold-WrittenTree}
use Rattle.lalrpop_grammar.specs.declared.tree.WrittenTree.TheOpen as layer
use Rattle.lalrpop_json_values.specs.declared.key.Key.TheVariants as key
use Rattle.lalrpop_json_values.specs.Spelled.{list_json, number_json, object_of, option_json, span_json}
use Rattle.lalrpop_json_symbols.specs.Spelling.{symbol_json, terminal_json}

abbrev pub node_json : List ℕ → List Symbol → ℕ → Data → Data
node_json name args place children =
    object_of ((key.Args, list_json symbol_json args) ∷ (key.Children, children) ∷ (key.Place, number_json place) ∷
    (key.Rule, string name) ∷ [])

abbrev pub leaf_json : TerminalString → List ℕ → Span → Data
leaf_json terminal text span =
    object_of ((key.Span, span_json span) ∷ (key.Terminal, terminal_json terminal) ∷ (key.Text, string text) ∷ [])

abbrev pub list_tree_json : Data → Data
list_tree_json trees = object_of ((key.List, trees) ∷ [])

abbrev pub option_tree_json : Data → Data
option_tree_json inside = object_of ((key.Opt, inside) ∷ [])

abbrev pub group_tree_json : Data → Data
group_tree_json trees = object_of ((key.Group, trees) ∷ [])

abbrev pub look_tree_json : Data
look_tree_json = object_of ((key.Look, null) ∷ [])

-- one node, with the trees below it spelled already
abbrev pub tree_json_step : layer.WrittenTree-F Data → Data
tree_json_step (layer.Rule rule args place children) = node_json rule.0 args place (array (items_of children))
tree_json_step (layer.List trees) = list_tree_json (array (items_of trees))
tree_json_step (layer.Opt inside) = option_tree_json (option_json (λ d. d) inside)
tree_json_step (layer.Group trees) = group_tree_json (array (items_of trees))
tree_json_step (layer.Terminal terminal text span) = leaf_json terminal text span
tree_json_step layer.Look = look_tree_json

abbrev pub tree_spelling : WrittenTree → Data
tree_spelling = fold-WrittenTree Data tree_json_step
