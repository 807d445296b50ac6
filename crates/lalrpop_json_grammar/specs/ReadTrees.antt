-- How written trees are read.
use Rattle.std.specs.Prelude.{List, [], ◌∷◌, Result, Ok, Err, Option, Some}
use Rattle.serde_json.specs.Data.{Data}
use Rattle.lalrpop_grammar.specs.declared.tree.WrittenTree.{WrittenTree}
use Rattle.lalrpop_grammar.specs.declared.tree.WrittenTree.TheVariants as tree
use Rattle.lalrpop_json_values.specs.declared.fault.Fault.{Fault}
use Rattle.lalrpop_json_values.specs.declared.fault.FaultKind.TheVariants as fault
use Rattle.lalrpop_json_values.specs.declared.form.Form.{Form}
use Rattle.lalrpop_json_values.specs.declared.form.Form.TheVariants as form
use Rattle.lalrpop_json_values.specs.declared.key.Key.{Key}
use Rattle.lalrpop_json_values.specs.declared.key.Key.TheVariants as key
use Rattle.lalrpop_json_values.specs.Forms.{form_by_key}
use Rattle.lalrpop_json_values.specs.Gives.{◌>>=◌, here}
use Rattle.lalrpop_json_values.specs.Lists.{list_at}
use Rattle.lalrpop_json_values.specs.Nested.{Reader, nested_reader}
use Rattle.lalrpop_json_values.specs.Objects.{field_at, keys_at}
use Rattle.lalrpop_json_values.specs.Scalars.{name_at, null_at, number_at, optional, span_at, text_at}
use Rattle.lalrpop_json_symbols.specs.Literals.{terminal_at}
use Rattle.lalrpop_json_symbols.specs.Symbols.{symbol_at}

unfoldable pub leaf_at : Data → Result WrittenTree Fault
leaf_at d = do
  _ ← keys_at (key.Span ∷ key.Terminal ∷ key.Text ∷ []) d
  span ← field_at key.Span span_at d
  terminal ← field_at key.Terminal terminal_at d
  text ← field_at key.Text text_at d
  Ok (tree.Terminal terminal text span)

unfoldable pub look_tree_at : Data → Result WrittenTree Fault
look_tree_at d = do
  _ ← keys_at (key.Look ∷ []) d
  _ ← field_at key.Look null_at d
  Ok tree.Look

unfoldable pub node_at : Reader WrittenTree → Reader WrittenTree
node_at read d = do
  _ ← keys_at (key.Args ∷ key.Children ∷ key.Place ∷ key.Rule ∷ []) d
  args ← field_at key.Args (list_at (λ _. symbol_at)) d
  children ← field_at key.Children (list_at (λ _. read)) d
  place ← field_at key.Place number_at d
  rule ← field_at key.Rule name_at d
  Ok (tree.Rule (record { 0 = rule }) args place children)

unfoldable pub list_tree_at : Reader WrittenTree → Reader WrittenTree
list_tree_at read d = do
  _ ← keys_at (key.List ∷ []) d
  trees ← field_at key.List (list_at (λ _. read)) d
  Ok (tree.List trees)

unfoldable pub option_tree_at : Reader WrittenTree → Reader WrittenTree
option_tree_at read d = do
  _ ← keys_at (key.Opt ∷ []) d
  inside ← field_at key.Opt (optional read) d
  Ok (tree.Opt inside)

unfoldable pub group_tree_at : Reader WrittenTree → Reader WrittenTree
group_tree_at read d = do
  _ ← keys_at (key.Group ∷ []) d
  trees ← field_at key.Group (list_at (λ _. read)) d
  Ok (tree.Group trees)

abbrev pub tree_rows : List (Key × Form)
tree_rows =
    (key.Args, form.Rule) ∷ (key.Children, form.Rule) ∷ (key.Group, form.Group) ∷ (key.List, form.List) ∷ (key.Look, form.Look)
    ∷ (key.Opt, form.Opt) ∷ (key.Place, form.Rule) ∷ (key.Rule, form.Rule) ∷ (key.Span, form.Terminal) ∷
    (key.Terminal, form.Terminal)
    ∷ (key.Text, form.Terminal) ∷ []

abbrev pub tree_by : Option Form → Reader WrittenTree → Reader WrittenTree
tree_by (Some form.Group) read d = group_tree_at read d
tree_by (Some form.List) read d = list_tree_at read d
tree_by (Some form.Look) read d = look_tree_at d
tree_by (Some form.Opt) read d = option_tree_at read d
tree_by (Some form.Rule) read d = node_at read d
tree_by (Some form.Terminal) read d = leaf_at d
tree_by _ read d = Err (here fault.WrongShape)

unfoldable pub form_of_tree : Data → Option Form
form_of_tree d = form_by_key tree_rows d

unfoldable pub tree_layer_at : Reader WrittenTree → Reader WrittenTree
tree_layer_at read d = tree_by (form_of_tree d) read d

unfoldable pub tree_at : Reader WrittenTree
tree_at d = nested_reader tree_layer_at d
