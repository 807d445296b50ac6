-- The entries of an expanded tree as the list of a tree: for what expanded trees are made of.
use Rattle.std.specs.Prelude.{List, map}
use Rattle.lalrpop_grammar_symbols.specs.Views.{span_view, terminal_view}
use Rattle.lalrpop_lr1_core.specs.Views.{production_view}
use Rattle.lalrpop_lr1_interpret.specs.MoveOrders.{Entry, EntryLabel, leaf_label, node_label}
use Rattle.lalrpop_lr1_interpret.specs.declared.parse.tree_entry.TreeEntry.{TreeEntry}
use Rattle.lalrpop_lr1_interpret.specs.declared.parse.tree_entry.TreeLabel.{TreeLabel}
use Rattle.lalrpop_lr1_interpret.specs.declared.parse.tree_entry.TreeLabel.TheVariants as labels

abbrev pub tree_label_view : TreeLabel → EntryLabel
tree_label_view (labels.Leaf t span) = leaf_label (terminal_view t) (span_view span)
tree_label_view (labels.Node p) = node_label (production_view p.now)

abbrev pub tree_entry_view : TreeEntry → Entry
tree_entry_view entry = record { label = tree_label_view entry.label; size = entry.size }

abbrev pub tree_entry_views : List TreeEntry → List Entry
tree_entry_views entries = map tree_entry_view entries
