-- Reading a tree tells its first fault.
use Rattle.std.proofs.Common.{◌≡◌, ◌<◌, Option, Some, None, refl, arith}
use Rattle.serde_json.specs.Data.{Data, depth}
use Rattle.lalrpop_grammar.specs.declared.tree.WrittenTree.{WrittenTree}
use Rattle.lalrpop_json_values.specs.declared.form.Form.{Form}
use Rattle.lalrpop_json_values.specs.declared.form.Form.TheVariants as form
use Rattle.lalrpop_json_values.specs.Key.{key_text}
use Rattle.lalrpop_json_values.specs.Lists.{list_at}
use Rattle.lalrpop_json_values.specs.Nested.{Reader}
use Rattle.lalrpop_json_values.specs.Scalars.{name_at, null_at, number_at, optional, span_at, text_at}
use Rattle.lalrpop_json_symbols.specs.Literals.{terminal_at}
use Rattle.lalrpop_json_symbols.specs.Symbols.{symbol_at}
use Rattle.lalrpop_json_grammar.specs.ReadTrees.{form_of_tree, group_tree_at, leaf_at, list_tree_at, look_tree_at, node_at, option_tree_at}
use Rattle.lalrpop_json_grammar.specs.ReadTrees.{tree_at, tree_by, tree_layer_at, tree_rows}
use Rattle.lalrpop_json_grammar.proofs.TreeNestingLemmas.{tree_opened}
use Rattle.lalrpop_json_grammar.specs.Format.{group_tree_layout, leaf_layout, list_of_component, list_tree_layout, look_tree_layout}
use Rattle.lalrpop_json_grammar.specs.Format.{node_layout, option_tree_layout, tree_forms}
use Rattle.lalrpop_json_grammar.specs.Order.{HasKeysInOrder}
use Rattle.lalrpop_json_grammar.specs.Telling.{all_keys, telling, told_form}
use Rattle.lalrpop_json_grammar.specs.Wanted.{Layout, Component, Wanted}
use Rattle.lalrpop_json_grammar.proofs.AttributeFaultLemmas.{terminal_tells}
use Rattle.lalrpop_json_grammar.proofs.FieldLemmas.{Tells, TellsOf, done, field}
use Rattle.lalrpop_json_grammar.proofs.ListFaultLemmas.{list_tells}
use Rattle.lalrpop_json_grammar.proofs.ObjectLemmas.{FormFault, object_tells}
use Rattle.lalrpop_json_grammar.proofs.ComponentLemmas.{by_depth, component_told, component_untold, rows_told}
use Rattle.lalrpop_json_grammar.proofs.ScalarFaultLemmas.{name_tells, null_tells, number_tells, optional_tells, span_tells, text_tells}
use Rattle.lalrpop_json_grammar.proofs.SymbolFaultLemmas.{symbols_tell}

tree_of : Option Form → Option Layout
tree_of (Some form.Group) = Some group_tree_layout
tree_of (Some form.List) = Some list_tree_layout
tree_of (Some form.Look) = Some look_tree_layout
tree_of (Some form.Opt) = Some option_tree_layout
tree_of (Some form.Rule) = Some node_layout
tree_of (Some form.Terminal) = Some leaf_layout
tree_of _ = None

tree_told : (d : Data) → told_form Component.tree d ≡ tree_of (form_of_tree d)
unfolding key_text tree_of form_of_tree
tree_told d = rows_told tree_of refl tree_rows (telling all_keys tree_forms) d refl

leaf_tells : (d : Data) → TellsOf (HasKeysInOrder d) (FormFault leaf_layout d) (leaf_at d)
unfolding leaf_at key_text
leaf_tells d =
    object_tells leaf_layout d _ refl
    (field span_at _ (λ e below. span_tells e) λ span.
    field terminal_at _ (λ e below. terminal_tells e) λ terminal.
    field text_at _ (λ e below. text_tells e) λ text. done)

look_tells : (d : Data) → TellsOf (HasKeysInOrder d) (FormFault look_tree_layout d) (look_tree_at d)
unfolding look_tree_at key_text
look_tells d = object_tells look_tree_layout d _ refl (field null_at _ (λ e below. null_tells e) λ u. done)

-- ---- those with trees inside, which are read by this reader

module _ (read : Reader WrittenTree) where
  -- the reader tells the first fault of all that is less deep
  abbrev TellsBelow : Data → Type 0
  TellsBelow d = (e : Data) → depth e < depth d → Tells (Wanted.component Component.tree) e (read e)

  listed : (d : Data) → TellsBelow d → (e : Data) → depth e < depth d
      → Tells (list_of_component Component.tree) e (list_at (λ i. read) e)
  listed d inner e below = list_tells (Wanted.component Component.tree) e read λ x deep. inner x (omega (arith, below, deep))

  node_tells : (d : Data) → TellsBelow d → TellsOf (HasKeysInOrder d) (FormFault node_layout d) (node_at read d)
  unfolding node_at key_text
  node_tells d inner =
      object_tells node_layout d _ refl
      (field (list_at (λ i. symbol_at)) _ (λ e below. symbols_tell e) λ args.
      field (list_at (λ i. read)) _ (listed d inner) λ children.
      field number_at _ (λ e below. number_tells e) λ place.
      field name_at _ (λ e below. name_tells e) λ rule. done)

  list_tree_tells : (d : Data) → TellsBelow d → TellsOf (HasKeysInOrder d) (FormFault list_tree_layout d) (list_tree_at read d)
  unfolding list_tree_at key_text
  list_tree_tells d inner =
      object_tells list_tree_layout d _ refl (field (list_at (λ i. read)) _ (listed d inner) λ trees. done)

  option_tree_tells : (d : Data) → TellsBelow d → TellsOf (HasKeysInOrder d) (FormFault option_tree_layout d) (option_tree_at read d)
  unfolding option_tree_at key_text
  option_tree_tells d inner =
      object_tells option_tree_layout d _ refl
      (field (optional read) _ (λ e below. optional_tells (Wanted.component Component.tree) e read (inner e below)) λ inside. done)

  group_tree_tells : (d : Data) → TellsBelow d → TellsOf (HasKeysInOrder d) (FormFault group_tree_layout d) (group_tree_at read d)
  unfolding group_tree_at key_text
  group_tree_tells d inner =
      object_tells group_tree_layout d _ refl (field (list_at (λ i. read)) _ (listed d inner) λ trees. done)

  by_form : (o : Option Form) (d : Data) → TellsBelow d → told_form Component.tree d ≡ tree_of o
      → Tells (Wanted.component Component.tree) d (tree_by o read d)
  unfolding tree_of
  by_form (Some form.Group) d inner e =
      component_told Component.tree d group_tree_layout (group_tree_at read d) e (group_tree_tells d inner)
  by_form (Some form.List) d inner e = component_told Component.tree d list_tree_layout (list_tree_at read d) e (list_tree_tells d inner)
  by_form (Some form.Look) d inner e = component_told Component.tree d look_tree_layout (look_tree_at d) e (look_tells d)
  by_form (Some form.Opt) d inner e =
      component_told Component.tree d option_tree_layout (option_tree_at read d) e (option_tree_tells d inner)
  by_form (Some form.Rule) d inner e = component_told Component.tree d node_layout (node_at read d) e (node_tells d inner)
  by_form (Some form.Terminal) d inner e = component_told Component.tree d leaf_layout (leaf_at d) e (leaf_tells d)
  by_form _ d inner e = component_untold Component.tree d e

  layer_tells : (d : Data) → TellsBelow d → Tells (Wanted.component Component.tree) d (tree_layer_at read d)
  unfolding tree_layer_at
  layer_tells d inner = by_form (form_of_tree d) d inner (tree_told d)

-- reading a tree, and those inside, tells one of its faults, the first where keys are in order, or it has none
pub tree_tells : (d : Data) → Tells (Wanted.component Component.tree) d (tree_at d)
tree_tells =
    by_depth (λ d. Tells (Wanted.component Component.tree) d (tree_at d))
    λ d inner. rw (tree_opened d) (layer_tells tree_at d inner)
