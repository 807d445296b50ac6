-- Trees inside trees: that a reader reads by its form, for the functions that call each other and for the laws.
use Rattle.std.proofs.Common.{◌≡◌, Option, Some, refl}
use Rattle.serde_json.specs.Data.{Data}
use Rattle.lalrpop_grammar.specs.declared.tree.WrittenTree.{WrittenTree}
use Rattle.lalrpop_json_values.specs.declared.form.Form.{Form}
use Rattle.lalrpop_json_values.specs.declared.form.Form.TheVariants as form
use Rattle.lalrpop_json_values.specs.declared.key.Key.TheVariants as key
use Rattle.lalrpop_json_values.specs.Nested.{Reader, AgreeBelow, IsInward}
use Rattle.lalrpop_json_values.specs.Scalars.{optional}
use Rattle.lalrpop_json_values.proofs.NestingLemmas.{field_same, listed_same, nested_opened, nesting}
use Rattle.lalrpop_json_grammar.specs.ReadTrees.{group_tree_at, node_at, option_tree_at, list_tree_at, tree_at, tree_by, tree_layer_at}
use Rattle.lalrpop_json_grammar.specs.ReadTrees.{form_of_tree}

optional_same : (f g : Reader WrittenTree) (d : Data) → f d ≡ g d → optional f d ≡ optional g d
optional_same f g d same = rw same refl

by_same : (o : Option Form) (f g : Reader WrittenTree) (d : Data) → AgreeBelow d f g → tree_by o f d ≡ tree_by o g d
unfolding group_tree_at node_at option_tree_at list_tree_at
by_same (Some form.Group) f g d same = rw (listed_same f g key.Group d same) refl
by_same (Some form.List) f g d same = rw (listed_same f g key.List d same) refl
by_same (Some form.Opt) f g d same = rw (field_same (optional f) (optional g) key.Opt d λ e below. optional_same f g e (same e below)) refl
by_same (Some form.Rule) f g d same = rw (listed_same f g key.Children d same) refl
by_same _ f g d same = refl

inward : IsInward tree_layer_at
unfolding tree_layer_at
inward f g d same = by_same (form_of_tree d) f g d same

-- a tree is read by its form, and the trees inside it likewise
pub tree_opened : (d : Data) → tree_at d ≡ tree_layer_at tree_at d
unfolding tree_at
tree_opened d = nested_opened tree_layer_at inward d

pub ruleset tree_nesting = (tree_opened, nesting)
